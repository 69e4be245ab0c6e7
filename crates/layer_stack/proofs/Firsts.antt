-- The first of each name, by the equality of names.
use Rattle.std.proofs.Common.{◌≡◌, sym, List}
use Rattle.asset_names.specs.contracts.name.AssetIdPartialEq.TheImpl.{ghosts as id_eq}
use Rattle.list_ops.specs.ListEdits.{firsts}
use Rattle.composition.specs.Texts.{Text, same_text}
use Rattle.composition.proofs.Same.{same_is_bytes}

id_test : (a b : Text) → id_eq.eq a b ≡ same_text a b
id_test a b = sym (same_is_bytes a b)

pub ids_are : (names : List Text) → firsts id_eq.eq names ≡ firsts same_text names
ids_are names i = firsts (λ a b. id_test a b i) names

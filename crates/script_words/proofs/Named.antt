-- Names of layers that texts give by themselves, and texts that give none.
use Rattle.std.proofs.Common.{◌≡◌, ◌∙◌, refl, ℕ, [], ◌∷◌, Some, None}
use Rattle.asset_names.specs.Anchoring.{normal_name, IsBad}
use Rattle.composition.specs.Texts.{Text}
use Rattle.composition.proofs.Anchored.{given, given_some, given_none}
use Rattle.script_words.specs.Words.{layer_named}

named_is : (text : Text) → layer_named text ≡ given text (normal_name text)
named_is [] = refl
named_is (c ∷ t) = refl

pub named_some : (text : Text) → ((at : ℕ) → IsBad text (normal_name text) at → ⊥) → layer_named text ≡ Some (normal_name text)
named_some text good = named_is text ∙ given_some text (normal_name text) good

pub named_none : (text : Text) (at : ℕ) → IsBad text (normal_name text) at → layer_named text ≡ None
named_none text at bad = named_is text ∙ given_none text (normal_name text) at bad

-- The paths of a tree, walked from its top on.
use Rattle.std.proofs.Common.{append-nil, ◌≡◌, ◌∙◌, sym, ap, List, [], ◌++◌}
use Rattle.std.specs.Map.{keys_of}
use Rattle.sdf_paths.specs.declared.element.Element.{Element}
use Rattle.sdf_specs.specs.Layers.{SpecEntries, AreSpecs, specs_from, tree}
use Rattle.sdf_specs.proofs.TreeLemmas.{leading, leading_is}

pub tree_walked : (front : List Element) (paths : List (List Element)) (specs from rest : SpecEntries) → leading front rest ≡ [] → paths ++ keys_of (leading front rest) ≡ keys_of (leading front from)
    → from ≡ specs_from front specs → AreSpecs specs → paths ≡ keys_of (tree front specs)
tree_walked front paths specs from rest done took begun table =
    sym (append-nil paths)
    ∙ (ap (λ (es : SpecEntries). paths ++ keys_of es) (sym done)
    ∙ (took
    ∙ (ap (λ (es : SpecEntries). keys_of (leading front es)) begun
    ∙ ap keys_of (leading_is front specs table))))

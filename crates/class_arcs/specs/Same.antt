-- Classes that compare as one are one.
use Rattle.std.specs.Prelude.{◌≡◌, true, ℕ, List}
use Rattle.std.specs.declared.cmp.Ordering.TheVariants.{Equal}
use Rattle.std.proofs.lemmas.Map.Lookups.{exact_unsigned}
use Rattle.std.proofs.lemmas.Map.Views.{exact_unsigned_eq}
use Rattle.plain_data.specs.Exact.{both_true, then_both}
use Rattle.sdf_paths.specs.PathOrder.{path_equal, path_tie}
use Rattle.sdf_paths.specs.declared.element.Element.{Element}
use Rattle.class_arcs.specs.contracts.class.ClassPartialEq.TheImpl.{ghosts as class_eq}
use Rattle.class_arcs.specs.contracts.class.ClassOrd.TheImpl.{ghosts as class_order}

-- a class: its level and its path
abbrev Pair : Type 0
Pair = ℕ × List Element

-- classes that compare equal are one
pub class_equal : (x y : Pair) → class_eq.eq x y ≡ true → x ≡ y
class_equal x y h =
    let parts = both_true _ _ h in
    let level : x.0 ≡ y.0 = exact_unsigned_eq x.0 y.0 parts.0 in
    let target : x.1 ≡ y.1 = path_equal x.1 y.1 parts.1 in
    λ i. (level i, target i)

-- classes that the derived order does not part are one
pub class_tie : (x y : Pair) → class_order.cmp x y ≡ Equal → x ≡ y
class_tie x y h =
    let parts = then_both _ _ h in
    let level : x.0 ≡ y.0 = exact_unsigned x.0 y.0 parts.0 in
    let target : x.1 ≡ y.1 = path_tie x.1 y.1 parts.1 in
    λ i. (level i, target i)

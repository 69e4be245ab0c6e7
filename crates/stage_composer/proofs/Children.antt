-- When a path is that of a prim right below another.
use Rattle.std.proofs.Common.{◌≡◌, ◌∙◌, sym, ap, refl, Bool, true, List, [], ◌∷◌, ◌++◌}
use Rattle.sdf_paths.specs.contracts.path.PathPartialEq.TheImpl.{ghosts as path_eq}
use Rattle.sdf_paths.specs.declared.element.Element.{Element}
use Rattle.composition.specs.Paths.{Path, same_path}
use Rattle.composition.proofs.Same.{path_same, path_itself, path_test}

-- lists with a last element are one where their fronts and their last elements are
pub ends_alike : (xs ys : List Element) (x y : Element) → xs ++ x ∷ [] ≡ ys ++ y ∷ [] → (xs ≡ ys) × (x ≡ y)
ends_alike [] [] x y h = let same : x ≡ y = cc in (refl, same)
ends_alike [] (b ∷ []) x y h = absurd cc
ends_alike [] (b ∷ c ∷ ys) x y h = absurd cc
ends_alike (a ∷ []) [] x y h = absurd cc
ends_alike (a ∷ c ∷ xs) [] x y h = absurd cc
ends_alike (a ∷ xs) (b ∷ ys) x y h =
    let first : a ≡ b = cc in
    let more : xs ++ x ∷ [] ≡ ys ++ y ∷ [] = cc in
    let rest = ends_alike xs ys x y more in
    let fronts : xs ≡ ys = rest.0 in
    let whole : (a ∷ xs) ≡ (b ∷ ys) = cc in
    (whole, rest.1)

-- the test of paths tells whether they are one
pub tested_same : (p q : Path) (r : Bool) → r ≡ path_eq.eq p q → r ≡ true → p ≡ q
tested_same p q r is told = path_same p q (sym (path_test p q) ∙ (sym is ∙ told))

pub same_tested : (p q : Path) (r : Bool) → r ≡ path_eq.eq p q → p ≡ q → r ≡ true
same_tested p q r is same = is ∙ (path_test p q ∙ (ap (λ (x : Path). same_path p x) (sym same) ∙ path_itself p))

-- The path above, level by level.
use Rattle.std.proofs.Common.{◌≡◌, ◌∙◌, sym, ap, refl, arith, ℕ, ◌+◌, ◌-◌, ◌≤◌, [], ◌∷◌, length, take, Some, None}
use Rattle.std.proofs.lemmas.List.{take-take, length-take}
use Rattle.sdf_paths.specs.Paths.{parent}
use Rattle.composition.specs.Paths.{Path, up}

parent_is : (xs p : Path) → Some p ≡ parent xs → p ≡ take (length xs - 1) xs
parent_is [] p h = absurd cc
parent_is (e ∷ rest) p h =
    let is : p ≡ take (length rest) (e ∷ rest) = cc in
    let n : length rest ≡ length (e ∷ rest) - 1 = omega arith in
    is ∙ ap (λ k. take k (e ∷ rest)) n

no_parent : (xs : Path) → None ≡ parent xs → xs ≡ []
no_parent [] h = refl
no_parent (e ∷ rest) h = absurd cc

length_up : (path : Path) (i : ℕ) → length (up path i) ≡ length path - i
length_up path i = length-take (length path - i) path ∙ omega arith

pub above_more : (path xs p : Path) (i : ℕ) → xs ≡ up path i → Some p ≡ parent xs → p ≡ up path (i + 1)
above_more path xs p i is h =
    let n : length (up path i) - 1 ≡ length path - (i + 1) = omega (arith, length_up path i) in
    parent_is xs p h ∙ ap (λ (ys : Path). take (length ys - 1) ys) is ∙ ap (λ k. take k (up path i)) n ∙ take-take (length path - (i + 1)) (length path - i) path (omega arith)

pub above_ends : (path xs : Path) (i levels : ℕ) → xs ≡ up path i → None ≡ parent xs → i ≤ levels → xs ≡ up path levels
above_ends path xs i levels is h le =
    let none : length path - i ≡ 0 = omega (arith, length_up path i, ap length (sym is ∙ no_parent xs h)) in
    let n : length path - i ≡ length path - levels = omega (arith, none) in
    is ∙ ap (λ k. take k path) n

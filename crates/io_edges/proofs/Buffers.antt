-- Fronts of lists.
use Rattle.std.proofs.Common.{◌≡◌, ℕ, ◌+◌, ◌≤◌, List, ◌++◌, length, take, drop, min, ap, sym, ◌∙◌, arith, inl, inr}
use Rattle.std.proofs.lemmas.Bool.{cases_lt}
use Rattle.std.proofs.lemmas.List.{take_all, length-append, length-take, take-append-drop, drop-drop}
use Rattle.std.proofs.Math.Seq.{take-append_seam}
use Rattle.std.specs.Io.{StartsWith}
use Rattle.io_edges.specs.Edges.{most}

pub take_min : (n : ℕ) (xs : List ℕ) → take (min (length xs) n) xs ≡ take n xs
take_min n xs =
    elim (cases_lt n (length xs)) [
      | inl lt ↦ let e : min (length xs) n ≡ n = omega arith in ap (λ (k : ℕ). take k xs) e
      | inr le ↦ let e : min (length xs) n ≡ length xs = omega arith in ap (λ (k : ℕ). take k xs) e ∙ take_all (length xs) xs (omega arith) ∙ sym (take_all n xs le)
    ]

pub appended_leaves : (old file new : List ℕ) → new ≡ old ++ take most file → StartsWith new old × (length new ≤ length old + most)
appended_leaves old file new e =
    (ap (take (length old)) e ∙ take-append_seam old (take most file), omega (arith, ap length e, length-append old (take most file), length-take most file))

-- what is left, and the front of it
pub front_of_left : (xs buf : List ℕ) (at n : ℕ) → take n buf ≡ take n (drop at xs) → drop at xs ≡ take n buf ++ drop (at + n) xs
front_of_left xs buf at n e = sym (take-append-drop n (drop at xs)) ∙ ap (λ (ys : List ℕ). ys ++ drop n (drop at xs)) (sym e) ∙ ap (λ (ys : List ℕ). take n buf ++ ys) (drop-drop n at xs)

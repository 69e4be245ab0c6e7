-- What is in lists that are made item by item of others.
use Rattle.std.proofs.Common.{◌≡◌, ◌⊎◌, inl, inr, refl, sym, ap, ◌∙◌, subst, List, [], ◌∷◌, ◌++◌, flat_map, Contains}
use Rattle.std.proofs.lemmas.List.Elements.{Contains-append_left, Contains-append_right, Contains-append_cases}
use Rattle.composition.proofs.Members.{none_in, head_in, tail_in, cases_in}

module _ {X A : Type 0} (f : X → List A) where
  pub joined_in : (xs : List X) (x : X) (a : A) → Contains xs x → Contains (f x) a → Contains (flat_map f xs) a
  joined_in [] x a h there = absurd (none_in x h)
  joined_in (y ∷ ys) x a h there = by (joined_in ys x a) (cases_in y ys x h)
    where
      by : (Contains ys x → Contains (f x) a → Contains (flat_map f ys) a) → (y ≡ x) ⊎ Contains ys x → Contains (f y ++ flat_map f ys) a
      by rest (inl same) = Contains-append_left (f y) (flat_map f ys) a (subst (λ (z : X). Contains (f z) a) (sym same) there)
      by rest (inr more) = Contains-append_right (f y) (flat_map f ys) a (rest more there)

  pub in_joined : (xs : List X) (a : A) → Contains (flat_map f xs) a → (x : X) × Contains xs x × Contains (f x) a
  in_joined [] a h = absurd (none_in a h)
  in_joined (y ∷ ys) a h = by (in_joined ys a) (Contains-append_cases (f y) (flat_map f ys) a h)
    where
      by : (Contains (flat_map f ys) a → (x : X) × Contains ys x × Contains (f x) a) → Contains (f y) a ⊎ Contains (flat_map f ys) a → (x : X) × Contains (y ∷ ys) x × Contains (f x) a
      by rest (inl here) = (y, head_in y ys, here)
      by rest (inr more) = let one = rest more in (one.0, tail_in y ys one.0 one.1, one.2)

  pub all_none : ((x : X) → f x ≡ []) → (xs : List X) → flat_map f xs ≡ []
  all_none none [] = refl
  all_none none (x ∷ xs) = ap (λ (l : List A). l ++ flat_map f xs) (none x) ∙ all_none none xs

  pub all_alike : (g : X → List A) → ((x : X) → f x ≡ g x) → (xs : List X) → flat_map f xs ≡ flat_map g xs
  all_alike g same [] = refl
  all_alike g same (x ∷ xs) = ap (λ (l : List A). l ++ flat_map f xs) (same x) ∙ ap (λ (l : List A). g x ++ l) (all_alike g same xs)

-- What is in a list of items.
use Rattle.std.proofs.Common.{◌≡◌, ◌⊎◌, inl, inr, List, [], ◌∷◌, Contains, arith}
use Rattle.std.proofs.lemmas.List.Elements.{Contains-append_left, Contains-append_right, Contains-append_cases, Contains-push, Contains-push_cases}

module _ {X : Type 0} where
  pub none_in : (x : X) → Contains [] x → ⊥
  none_in x h = let below = h.1 in absurd (omega arith)

  pub head_in : (y : X) (ys : List X) → Contains (y ∷ ys) y
  head_in y ys = Contains-append_left (y ∷ []) ys y (Contains-push [] y)

  pub tail_in : (y : X) (ys : List X) (x : X) → Contains ys x → Contains (y ∷ ys) x
  tail_in y ys x h = Contains-append_right (y ∷ []) ys x h

  only : (y x : X) → Contains [] x ⊎ (y ≡ x) → y ≡ x
  only y x (inl h) = absurd (none_in x h)
  only y x (inr e) = e

  pub only_in : (y x : X) → Contains (y ∷ []) x → y ≡ x
  only_in y x h = only y x (Contains-push_cases [] y x h)

  -- the first item, or one behind it
  pub cases_in : (y : X) (ys : List X) (x : X) → Contains (y ∷ ys) x → (y ≡ x) ⊎ Contains ys x
  cases_in y ys x h = by (Contains-append_cases (y ∷ []) ys x h)
    where
      by : Contains (y ∷ []) x ⊎ Contains ys x → (y ≡ x) ⊎ Contains ys x
      by (inl one) = inl (only_in y x one)
      by (inr more) = inr more

-- What holds of each item of a list, and lists that are made item by item of others.
use Rattle.std.proofs.Common.{◌≡◌, refl, sym, ◌∙◌, Bool, true, false, true≢false, cond, List, [], ◌∷◌, ◌++◌, map, flat_map, filter, Option}
use Rattle.std.specs.List.{AllByRecursion, filter_map, cons_option}

-- it holds of each item
abbrev pub Each : {X : Type 0} → (X → Type 0) → List X → Type 0
Each P xs = AllByRecursion P xs

module _ {X : Type 0} (P : X → Type 0) where
  pub front_of : (xs ys : List X) → Each P (xs ++ ys) → Each P xs
  front_of [] ys h = tt
  front_of (x ∷ xs) ys h = (h.0, front_of xs ys h.1)

  pub back_of : (xs ys : List X) → Each P (xs ++ ys) → Each P ys
  back_of [] ys h = h
  back_of (x ∷ xs) ys h = back_of xs ys h.1

  pub joined : (xs ys : List X) → Each P xs → Each P ys → Each P (xs ++ ys)
  joined [] ys h k = k
  joined (x ∷ xs) ys h k = (h.0, joined xs ys h.1 k)

  pub kept : (test : X → Bool) (xs : List X) → Each P xs → Each P (filter test xs)
  kept test [] h = tt
  kept test (x ∷ xs) h = by (test x) (kept test xs h.1)
    where
      by : (b : Bool) → Each P (filter test xs) → Each P (cond b (x ∷ filter test xs) (filter test xs))
      by true rest = (h.0, rest)
      by false rest = rest

  pub weaker : (Q : X → Type 0) → ((x : X) → P x → Q x) → (xs : List X) → Each P xs → Each Q xs
  weaker Q more [] h = tt
  weaker Q more (x ∷ xs) h = (more x h.0, weaker Q more xs h.1)

  pub always : ((x : X) → P x) → (xs : List X) → Each P xs
  always holds [] = tt
  always holds (x ∷ xs) = (holds x, always holds xs)

module _ {X A : Type 0} (P : A → Type 0) where
  pub of_map : (f : X → A) (xs : List X) → Each P (map f xs) → Each (λ x. P (f x)) xs
  of_map f [] h = tt
  of_map f (x ∷ xs) h = (h.0, of_map f xs h.1)

  pub in_map : (f : X → A) (xs : List X) → Each (λ x. P (f x)) xs → Each P (map f xs)
  in_map f [] h = tt
  in_map f (x ∷ xs) h = (h.0, in_map f xs h.1)

  pub of_parts : (f : X → List A) (xs : List X) → Each P (flat_map f xs) → Each (λ x. Each P (f x)) xs
  of_parts f [] h = tt
  of_parts f (x ∷ xs) h = (front_of P (f x) (flat_map f xs) h, of_parts f xs (back_of P (f x) (flat_map f xs) h))

  pub in_parts : (f : X → List A) (xs : List X) → Each (λ x. Each P (f x)) xs → Each P (flat_map f xs)
  in_parts f [] h = tt
  in_parts f (x ∷ xs) h = joined P (f x) (flat_map f xs) h.0 (in_parts f xs h.1)

  -- of the parts of those items that pass a test
  pub of_kept : (test : X → Bool) (f : X → List A) (xs : List X) → Each P (flat_map f (filter test xs)) → Each (λ x. test x ≡ true → Each P (f x)) xs
  of_kept test f [] h = tt
  of_kept test f (x ∷ xs) h = by (test x) refl (of_kept test f xs) h
    where
      by : (b : Bool) → test x ≡ b → (Each P (flat_map f (filter test xs)) → Each (λ x. test x ≡ true → Each P (f x)) xs)
          → Each P (flat_map f (cond b (x ∷ filter test xs) (filter test xs))) → (test x ≡ true → Each P (f x)) × Each (λ x. test x ≡ true → Each P (f x)) xs
      by true is rest h = (λ _. front_of P (f x) (flat_map f (filter test xs)) h, rest (back_of P (f x) (flat_map f (filter test xs)) h))
      by false is rest h = (λ passes. absurd (true≢false (sym passes ∙ is)), rest h)

module _ {X A : Type 0} where
  pub same_map : (f g : X → A) (xs : List X) → Each (λ x. f x ≡ g x) xs → map f xs ≡ map g xs
  same_map f g [] h = refl
  same_map f g (x ∷ xs) h = let rest : map f xs ≡ map g xs = same_map f g xs h.1 in λ i. h.0 i ∷ rest i

  pub same_parts : (f g : X → List A) (xs : List X) → Each (λ x. f x ≡ g x) xs → flat_map f xs ≡ flat_map g xs
  same_parts f g [] h = refl
  same_parts f g (x ∷ xs) h = let rest : flat_map f xs ≡ flat_map g xs = same_parts f g xs h.1 in λ i. h.0 i ++ rest i

  pub same_given : (f g : X → Option A) (xs : List X) → Each (λ x. f x ≡ g x) xs → filter_map f xs ≡ filter_map g xs
  same_given f g [] h = refl
  same_given f g (x ∷ xs) h = let rest : filter_map f xs ≡ filter_map g xs = same_given f g xs h.1 in λ i. cons_option (h.0 i) (rest i)

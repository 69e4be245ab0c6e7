-- Lists that rise strictly: items that are put in, and the one list of some items.
use Rattle.std.proofs.Common.{◌≡◌, ◌⊎◌, inl, inr, ◌∙◌, refl, sym, ap, subst, List, [], ◌∷◌}
use Rattle.std.specs.BTreeSet.{insert_key}
use Rattle.std.specs.Cmp.{IsTotalOrder}
use Rattle.std.specs.List.{AllByRecursion, Contains}
use Rattle.std.specs.List.Sorted.{IsStrictlySortedBy}
use Rattle.std.specs.Ordering.{match_ordering, ordering_reverse}
use Rattle.std.specs.declared.cmp.Ordering.{Ordering}
use Rattle.std.specs.declared.cmp.Ordering.TheVariants.{Less, Equal, Greater}
use Rattle.std.proofs.lemmas.List.Elements.{All-from_recursion, All-contains}
use Rattle.composition.proofs.Members.{none_in, head_in, tail_in, cases_in}

module _ {K : Type 0} (R : K → K → Ordering) (tie : (x y : K) → R x y ≡ Equal → x ≡ y) where
  pub put_in : (k : K) (xs : List K) → Contains (insert_key R xs k) k
  put_in k [] = head_in k []
  put_in k (x ∷ xs) = by (put_in k xs) (R k x) refl
    where
      by : Contains (insert_key R xs k) k → (o : Ordering) → R k x ≡ o → Contains (match_ordering o (k ∷ x ∷ xs) (x ∷ xs) (x ∷ insert_key R xs k)) k
      by rest Less h = head_in k (x ∷ xs)
      by rest Equal h = subst (λ (y : K). Contains (x ∷ xs) y) (sym (tie k x h)) (head_in x xs)
      by rest Greater h = tail_in x (insert_key R xs k) k rest

  pub kept_in : (k : K) (xs : List K) (j : K) → Contains xs j → Contains (insert_key R xs k) j
  kept_in k [] j h = absurd (none_in j h)
  kept_in k (x ∷ xs) j h = by (kept_in k xs j) (R k x)
    where
      by : (Contains xs j → Contains (insert_key R xs k) j) → (o : Ordering) → Contains (match_ordering o (k ∷ x ∷ xs) (x ∷ xs) (x ∷ insert_key R xs k)) j
      by rest Less = tail_in k (x ∷ xs) j h
      by rest Equal = h
      by rest Greater = elim (cases_in x xs j h) [ inl e ↦ subst (λ (y : K). Contains (x ∷ insert_key R xs k) y) e (head_in x (insert_key R xs k)) | inr more ↦ tail_in x (insert_key R xs k) j (rest more) ]

  -- what is put in is the only new item
  pub only_in : (k : K) (xs : List K) (j : K) → Contains (insert_key R xs k) j → (k ≡ j) ⊎ Contains xs j
  only_in k [] j h = elim (cases_in k [] j h) [ inl e ↦ inl e | inr none ↦ absurd (none_in j none) ]
  only_in k (x ∷ xs) j h = by (only_in k xs j) (R k x) h
    where
      further : (x ≡ j) ⊎ ((k ≡ j) ⊎ Contains xs j) → (k ≡ j) ⊎ Contains (x ∷ xs) j
      further (inl e) = inr (subst (λ (y : K). Contains (x ∷ xs) y) e (head_in x xs))
      further (inr (inl e)) = inl e
      further (inr (inr more)) = inr (tail_in x xs j more)

      behind : (Contains (insert_key R xs k) j → (k ≡ j) ⊎ Contains xs j) → (x ≡ j) ⊎ Contains (insert_key R xs k) j → (k ≡ j) ⊎ Contains (x ∷ xs) j
      behind rest (inl e) = further (inl e)
      behind rest (inr more) = further (inr (rest more))

      by : (Contains (insert_key R xs k) j → (k ≡ j) ⊎ Contains xs j) → (o : Ordering) → Contains (match_ordering o (k ∷ x ∷ xs) (x ∷ xs) (x ∷ insert_key R xs k)) j
          → (k ≡ j) ⊎ Contains (x ∷ xs) j
      by rest Less has = cases_in k (x ∷ xs) j has
      by rest Equal has = inr has
      by rest Greater has = behind rest (cases_in x (insert_key R xs k) j has)

module _ {K : Type 0} (R : K → K → Ordering) (total : IsTotalOrder R) where
  turned : (x y : K) → R x y ≡ Greater → R y x ≡ Less
  turned x y h = total.antisymm y x ∙ ap ordering_reverse h

  -- an item is below each of these
  abbrev IsBelow : K → List K → Type 0
  IsBelow k xs = AllByRecursion (λ y. R k y ≡ Less) xs

  below_all : (k x : K) (xs : List K) → R k x ≡ Less → IsBelow x xs → IsBelow k xs
  below_all k x [] less below = tt
  below_all k x (y ∷ ys) less below = (total.trans k x y less below.0, below_all k x ys less below.1)

  below_put : (x k : K) (xs : List K) → R x k ≡ Less → IsBelow x xs → IsBelow x (insert_key R xs k)
  below_put x k [] less below = (less, tt)
  below_put x k (y ∷ ys) less below = by (below_put x k ys less below.1) (R k y)
    where
      by : IsBelow x (insert_key R ys k) → (o : Ordering) → IsBelow x (match_ordering o (k ∷ y ∷ ys) (y ∷ ys) (y ∷ insert_key R ys k))
      by rest Less = (less, below)
      by rest Equal = below
      by rest Greater = (below.0, rest)

  sorted_by : (k x : K) (xs : List K) → IsStrictlySortedBy R (x ∷ xs) → IsStrictlySortedBy R (insert_key R xs k) → (o : Ordering) → R k x ≡ o
      → IsStrictlySortedBy R (match_ordering o (k ∷ x ∷ xs) (x ∷ xs) (x ∷ insert_key R xs k))
  unfolding IsStrictlySortedBy
  sorted_by k x xs sorted rest Less h = ((h, below_all k x xs h sorted.0), sorted)
  sorted_by k x xs sorted rest Equal h = sorted
  sorted_by k x xs sorted rest Greater h = (below_put x k xs (turned k x h) sorted.0, rest)

  pub put_sorted : (k : K) (xs : List K) → IsStrictlySortedBy R xs → IsStrictlySortedBy R (insert_key R xs k)
  unfolding IsStrictlySortedBy
  put_sorted k [] sorted = (tt, tt)
  put_sorted k (x ∷ xs) sorted = sorted_by k x xs sorted (put_sorted k xs sorted.1) (R k x) refl

  below_one : (x k : K) (xs : List K) → IsBelow x xs → Contains xs k → R x k ≡ Less
  below_one x k xs below has = All-contains (λ y. R x y ≡ Less) xs k (All-from_recursion (λ y. R x y ≡ Less) xs below) has

  not_both : (x y : K) → R x y ≡ Less → R y x ≡ Less → ⊥
  not_both x y h g = let turn : Less ≡ Greater = sym h ∙ (total.antisymm x y ∙ ap ordering_reverse g) in absurd cc

  same_heads : (x y : K) (xs ys : List K) → IsBelow x xs → IsBelow y ys → (x ≡ y) ⊎ Contains xs y → (y ≡ x) ⊎ Contains ys x → x ≡ y
  same_heads x y xs ys low high (inl e) other = e
  same_heads x y xs ys low high (inr more) (inl e) = sym e
  same_heads x y xs ys low high (inr more) (inr further) = absurd (not_both x y (below_one x y xs low more) (below_one y x ys high further))

  -- what stands behind the first item is not the first
  behind : (x k : K) (xs ys : List K) → IsBelow x xs → Contains xs k → (x ≡ k) ⊎ Contains ys k → Contains ys k
  behind x k xs ys below has (inl e) = let self : R x x ≡ Less = subst (λ (y : K). R x y ≡ Less) (sym e) (below_one x k xs below has) in absurd (not_both x x self self)
  behind x k xs ys below has (inr more) = more

  pub one_list : (xs ys : List K) → IsStrictlySortedBy R xs → IsStrictlySortedBy R ys → ((k : K) → Contains xs k → Contains ys k) → ((k : K) → Contains ys k → Contains xs k) → xs ≡ ys
  unfolding IsStrictlySortedBy
  one_list [] [] low high there back = refl
  one_list [] (y ∷ ys) low high there back = absurd (none_in y (back y (head_in y ys)))
  one_list (x ∷ xs) [] low high there back = absurd (none_in x (there x (head_in x xs)))
  one_list (x ∷ xs) (y ∷ ys) low high there back =
      let first : x ≡ y = same_heads x y xs ys low.0 high.0 (cases_in x xs y (back y (head_in y ys))) (cases_in y ys x (there x (head_in x xs))) in
      let rest : xs ≡ ys =
      one_list xs ys low.1 high.1
      (λ k has. behind x k xs ys low.0 has (subst (λ (z : K). (z ≡ k) ⊎ Contains ys k) (sym first) (cases_in y ys k (there k (tail_in x xs k has)))))
      (λ k has. behind y k ys xs high.0 has (subst (λ (z : K). (z ≡ k) ⊎ Contains xs k) first (cases_in x xs k (back k (tail_in y ys k has))))) in
      λ i. first i ∷ rest i

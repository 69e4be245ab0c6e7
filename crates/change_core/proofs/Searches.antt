-- Searches of lists that are in order.
use Rattle.std.proofs.Common.{◌≡◌, ◌∙◌, ap, sym, refl, ℕ, zero, suc, ◌+◌, ◌<◌, ◌≤◌, Bool, true, false, List, [], ◌∷◌, length, slice_index_or, arith, lit≤, Result, Ok, Err, ◌⊎◌, inl, inr}
use Rattle.std.specs.Cmp.{IsTotalOrder}
use Rattle.std.specs.List.{All, AllWithin, list_any, AllByRecursion}
use Rattle.std.specs.List.Sorted.{IsStrictlySortedBy, IsNonDecreasingBy, IsBinarySearchResult, IsSearchInRange}
use Rattle.std.specs.Ordering.{ordering_index, ordering_reverse}
use Rattle.std.specs.declared.cmp.Ordering.{Ordering}
use Rattle.std.specs.declared.cmp.Ordering.TheVariants.{Less, Equal, Greater}
use Rattle.std.specs.BTreeMap.{is_at}
use Rattle.std.specs.Result.{is_ok}
use Rattle.std.proofs.Math.Nat.{eq-or-lt_of_le}
use Rattle.std.proofs.lemmas.Bool.{cases_order}
use Rattle.std.proofs.lemmas.List.Elements.{All-from_recursion}
use Rattle.std.proofs.lemmas.List.Folds.{list_any_at, list_any_none}
use Rattle.std.proofs.lemmas.Map.Keys.{sorted_head, sorted_tail}
use Rattle.change_core.specs.Kept.{is_listed}

module _ {Key : Type 0} (R : Key → Key → Ordering) (o : IsTotalOrder R) where
  -- each key is below those after it
  sorted_pairs : (xs : List Key) → IsStrictlySortedBy R xs → (i j : ℕ) (d : Key) → i < j → j < length xs → R (slice_index_or xs i d) (slice_index_or xs j d) ≡ Less
  sorted_pairs [] sorted i j d below within = absurd (omega arith)
  sorted_pairs (x ∷ xs) sorted i zero d below within = absurd (omega arith)
  sorted_pairs (x ∷ xs) sorted zero (suc j) d below within =
      let w : suc j < suc (length xs) = within in All-from_recursion (λ y. R x y ≡ Less) xs (sorted_head R x xs sorted) j d (omega (arith, w))
  sorted_pairs (x ∷ xs) sorted (suc i) (suc j) d below within =
      let w : suc j < suc (length xs) = within in sorted_pairs xs (sorted_tail R x xs sorted) i j d (omega (arith, below)) (omega (arith, w))

  -- of two keys in order the first does not come later to another key
  rises : (x y key : Key) → R x y ≡ Less → (a : Ordering) → R x key ≡ a → ordering_index a ≤ ordering_index (R y key)
  rises x y key below Less is = omega arith
  rises x y key below Equal is = let e : R y key ≡ Greater = o.antisymm y key ∙ ap ordering_reverse (sym (o.congr x key y is) ∙ below) in rw e (lit≤ tt)
  rises x y key below Greater is =
      let up : R key x ≡ Less = o.antisymm key x ∙ ap ordering_reverse is in
      let e : R y key ≡ Greater = o.antisymm y key ∙ ap ordering_reverse (o.trans key x y up below) in rw e (lit≤ tt)

  all_rise : (xs : List Key) → IsStrictlySortedBy R xs → (key : Key) → IsNonDecreasingBy (λ y. ordering_index (R y key)) xs
  all_rise xs sorted key i j d before within = by_place (eq-or-lt_of_le before) where
    by_place : (i ≡ j) ⊎ (i < j) → ordering_index (R (slice_index_or xs i d) key) ≤ ordering_index (R (slice_index_or xs j d) key)
    by_place (inl same) = rw same (omega arith)
    by_place (inr below) = rises (slice_index_or xs i d) (slice_index_or xs j d) key (sorted_pairs xs sorted i j d below within) (R (slice_index_or xs i d) key) refl

  -- a key that comes before or after another is not at it
  apart_before : (x key : Key) → R x key ≡ Less → is_at (R key) x ≡ false
  apart_before x key is = let e : R key x ≡ Greater = o.antisymm key x ∙ ap ordering_reverse is in rw e refl

  apart_after : (x key : Key) → R x key ≡ Greater → is_at (R key) x ≡ false
  apart_after x key is = let e : R key x ≡ Less = o.antisymm key x ∙ ap ordering_reverse is in rw e refl

  at_it : (x key : Key) → R x key ≡ Equal → is_at (R key) x ≡ true
  at_it x key is = let e : R key x ≡ Equal = o.antisymm key x ∙ ap ordering_reverse is in rw e refl

  -- a key that a search does not find is at none of the list
  miss : (xs : List Key) (i : ℕ) (key : Key) → AllWithin (λ y. R y key ≡ Less) xs 0 i → AllWithin (λ y. R y key ≡ Greater) xs i (length xs) → (k : ℕ) (d : Key) → k < length xs → (k ≡ i) ⊎ ((k < i) ⊎ (i < k)) → is_at (R key) (slice_index_or xs k d) ≡ false
  miss xs i key before after k d within (inl same) = apart_after (slice_index_or xs k d) key (after k d (omega (arith, same)) within)
  miss xs i key before after k d within (inr (inl below)) = apart_before (slice_index_or xs k d) key (before k d (omega arith) below)
  miss xs i key before after k d within (inr (inr above)) = apart_after (slice_index_or xs k d) key (after k d (omega (arith, above)) within)

  -- a search finds the keys of the list
  pub found_is : (xs : List Key) → IsStrictlySortedBy R xs → (key : Key) (r : Result ℕ ℕ) → IsSearchInRange r (length xs) → IsBinarySearchResult (λ y. R y key) xs r → is_ok r ≡ is_listed R xs key
  found_is xs sorted key (Ok i) range result = sym (list_any_at (is_at (R key)) xs i key range (at_it (slice_index_or xs i key) key (result key)))
  found_is xs sorted key (Err i) range result =
      let parts = result (all_rise xs sorted key) in
      sym (list_any_none (is_at (R key)) xs (λ k d within. miss xs i key parts.0 parts.1 k d within (cases_order k i)))

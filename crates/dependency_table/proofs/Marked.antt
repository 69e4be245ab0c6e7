-- The marked places, by what is noted at the keys.
use Rattle.std.proofs.Common.{◌≡◌, Bool, true, false, cond, List, [], ◌∷◌, Option, Some, None, sym, refl, ap, ◌∙◌}
use Rattle.std.specs.Cmp.{IsTotalOrder, eq_by_cmp_equiv}
use Rattle.std.specs.Prelude.{filter}
use Rattle.std.specs.List.{list_any, AllByRecursion}
use Rattle.std.specs.List.Sorted.{IsStrictlySortedBy}
use Rattle.std.specs.Option.{is_some}
use Rattle.std.specs.declared.cmp.Ordering.{Ordering}
use Rattle.std.specs.declared.cmp.Ordering.TheVariants.{Equal, Less}
use Rattle.std.specs.BTreeMap.{is_at}
use Rattle.std.specs.BTreeSet.{BTreeSet}
use Rattle.std.specs.Map.{keys_of, lookup}
use Rattle.std.proofs.lemmas.Map.Entries.{lookup-filter-values, option_filter}
use Rattle.std.proofs.lemmas.Map.Keys.{IsDistinct-from_sorted, sorted_head, sorted_tail}
use Rattle.std.proofs.lemmas.Map.Made.{is_some-lookup}
use Rattle.std.proofs.lemmas.Map.Lookups.{btree_set_from_contains}
use Rattle.dependency_table.specs.Tables.{is_listed, meets, marked, keys_found, has_key}

any_none : {K : Type 0} (keys : List K) → list_any (λ _. false) keys ≡ false
any_none [] = refl
any_none (k ∷ keys) = any_none keys

by_test : (F : Bool → Type 0) → F true → F false → (b : Bool) → F b
by_test F on off true = on
by_test F on off false = off

module _ {P X : Type 0} (test : P × X → Bool) where
  all_filtered : (A : P → Type 0) (es : List (P × X)) → AllByRecursion A (keys_of es) → AllByRecursion A (keys_of (filter test es))
  all_filtered A [] all = all
  all_filtered A (e ∷ es) all = let rest = all_filtered A es all.1 in
      by_test (λ b. AllByRecursion A (keys_of (cond b (e ∷ filter test es) (filter test es)))) (all.0, rest) rest (test e)

  sorted_filtered : (R : P → P → Ordering) (es : List (P × X)) → IsStrictlySortedBy R (keys_of es) → IsStrictlySortedBy R (keys_of (filter test es))
  unfolding IsStrictlySortedBy
  sorted_filtered R [] sorted = sorted
  sorted_filtered R (e ∷ es) sorted =
      let rest = sorted_filtered R es (sorted_tail R e.0 (keys_of es) sorted) in
      let head = all_filtered (λ y. R e.0 y ≡ Less) es (sorted_head R e.0 (keys_of es) sorted) in
      by_test (λ b. IsStrictlySortedBy R (keys_of (cond b (e ∷ filter test es) (filter test es)))) (head, rest) rest (test e)

module _ {P K : Type 0} (R : P → P → Ordering) (Q : K → K → Ordering) (o : IsTotalOrder R) (exact : (x y : P) → R x y ≡ Equal → x ≡ y) where
  -- a place whose keys meet these has one of them
  met_by : (keys : List K) (found : Option (List K)) → list_any (λ k. keys_found Q found k) keys ≡ is_some (option_filter (λ own. meets Q own keys) found)
  met_by keys None = any_none keys
  met_by keys (Some own) = by_test (λ b. b ≡ is_some (cond b (Some own) None)) refl refl (meets Q own keys)

  pub marked_is : (es : List (P × List K)) (keys : List K) (places : List P) → IsStrictlySortedBy R (keys_of es) → IsStrictlySortedBy R places
      → ((p : P) → is_listed R places p ≡ list_any (λ k. has_key R Q es p k) keys) → places ≡ marked Q es keys
  marked_is es keys places sorted in-order found =
      let test : P × List K → Bool = λ e. meets Q e.1 keys in
      let one : BTreeSet P = record { keys = places } in let other : BTreeSet P = record { keys = marked Q es keys } in
      btree_set_from_contains o one other in-order (sorted_filtered test R es sorted)
      (λ q. found q ∙ (met_by keys (lookup (is_at (R q)) es)
      ∙ (ap is_some (sym (lookup-filter-values (eq_by_cmp_equiv o) (λ own. meets Q own keys) q es (IsDistinct-from_sorted R (keys_of es) sorted))) ∙ is_some-lookup (is_at (R q)) (filter test es))))
      exact

  -- what is noted at the keys, where that is what the places have
  pub marked_by_noted : (noted : K → P → Bool) (es : List (P × List K)) (keys : List K) (places : List P) → ((p : P) (k : K) → noted k p ≡ has_key R Q es p k) → IsStrictlySortedBy R (keys_of es) → IsStrictlySortedBy R places
      → ((p : P) → is_listed R places p ≡ list_any (λ k. noted k p) keys) → places ≡ marked Q es keys
  marked_by_noted noted es keys places inv sorted in-order found = marked_is es keys places sorted in-order (λ p. found p ∙ (λ i. list_any (λ k. inv p k i) keys))

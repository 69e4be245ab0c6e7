-- The order of keys, and keys in order.
use Rattle.std.proofs.Common.{◌≡◌, ◌⊎◌, inl, inr, ◌∙◌, refl, sym, ap, subst, List, [], ◌∷◌, ◌++◌}
use Rattle.std.specs.BTreeSet.{insert_key}
use Rattle.std.specs.Cmp.{IsTotalOrder}
use Rattle.std.specs.List.{Contains}
use Rattle.std.specs.List.Sorted.{IsStrictlySortedBy}
use Rattle.std.specs.Ordering.{ordering_then}
use Rattle.std.specs.declared.cmp.Ordering.{Ordering}
use Rattle.std.specs.declared.cmp.Ordering.TheVariants.{Equal}
use Rattle.std.proofs.lemmas.Map.Lookups.{exact_bytes}
use Rattle.plain_data.specs.Exact.{then_both}
use Rattle.sdf_paths.specs.Order.{text_cmp, path_cmp}
use Rattle.sdf_paths.specs.DerivedOrder.{path_cmp_same}
use Rattle.sdf_paths.specs.PathOrder.{path_cmp_is}
use Rattle.layer_set.specs.contracts.key.KeyOrd.TheImpl.{ghosts as key_order}
use Rattle.layer_set.specs.contracts.key.KeyOrd.TheImpl.Laws.{total-law}
use Rattle.layer_set.specs.declared.key.Key.{Key}
use Rattle.layer_set.specs.declared.key.Key.TheVariants.{Head, Arcs, Body, Load}
use Rattle.composition.proofs.Members.{none_in, head_in, tail_in, cases_in}
use Rattle.key_sets.specs.Order.{key_cmp, with_keys, in_order}
use Rattle.key_sets.specs.Laws.{KeysInOrder}
use Rattle.key_sets.proofs.Sorted.{put_in, kept_in, only_in, put_sorted, one_list}

pub key_cmp_is : (x y : Key) → key_order.cmp x y ≡ key_cmp x y
key_cmp_is (Head a) (Head b) = refl
key_cmp_is (Head a) (Arcs b q) = refl
key_cmp_is (Head a) (Body b q) = refl
key_cmp_is (Head a) (Load q) = refl
key_cmp_is (Arcs a p) (Head b) = refl
key_cmp_is (Arcs a p) (Arcs b q) = ap (ordering_then (text_cmp a b)) (path_cmp_is p q)
key_cmp_is (Arcs a p) (Body b q) = refl
key_cmp_is (Arcs a p) (Load q) = refl
key_cmp_is (Body a p) (Head b) = refl
key_cmp_is (Body a p) (Arcs b q) = refl
key_cmp_is (Body a p) (Body b q) = ap (ordering_then (text_cmp a b)) (path_cmp_is p q)
key_cmp_is (Body a p) (Load q) = refl
key_cmp_is (Load p) (Head b) = refl
key_cmp_is (Load p) (Arcs b q) = refl
key_cmp_is (Load p) (Body b q) = refl
key_cmp_is (Load p) (Load q) = path_cmp_is p q

pub key_order_is : ◌≡◌ {A = Key → Key → Ordering} key_order.cmp key_cmp
key_order_is = λ i x y. key_cmp_is x y i

pub in_key_order : (keys : List Key) → IsStrictlySortedBy key_order.cmp keys → IsStrictlySortedBy key_cmp keys
in_key_order keys h = subst (λ (R : Key → Key → Ordering). IsStrictlySortedBy R keys) key_order_is h

pub key_same : (x y : Key) → key_cmp x y ≡ Equal → x ≡ y
key_same (Head a) (Head b) h = ap Head (exact_bytes a b h)
key_same (Head a) (Arcs b q) h = absurd cc
key_same (Head a) (Body b q) h = absurd cc
key_same (Head a) (Load q) h = absurd cc
key_same (Arcs a p) (Head b) h = absurd cc
key_same (Arcs a p) (Arcs b q) h =
    let both = then_both (text_cmp a b) (path_cmp p q) h in
    let name = exact_bytes a b both.0 in
    let path = path_cmp_same p q both.1 in
    cc
key_same (Arcs a p) (Body b q) h = absurd cc
key_same (Arcs a p) (Load q) h = absurd cc
key_same (Body a p) (Head b) h = absurd cc
key_same (Body a p) (Arcs b q) h = absurd cc
key_same (Body a p) (Body b q) h =
    let both = then_both (text_cmp a b) (path_cmp p q) h in
    let name = exact_bytes a b both.0 in
    let path = path_cmp_same p q both.1 in
    cc
key_same (Body a p) (Load q) h = absurd cc
key_same (Load p) (Head b) h = absurd cc
key_same (Load p) (Arcs b q) h = absurd cc
key_same (Load p) (Body b q) h = absurd cc
key_same (Load p) (Load q) h = ap Load (path_cmp_same p q h)

pub key_total : IsTotalOrder key_cmp
key_total = subst (λ (R : Key → Key → Ordering). IsTotalOrder R) key_order_is total-law

-- a key that is put in by the derived order is put in by this one
pub put_is : (ks : List Key) (k : Key) → insert_key key_order.cmp ks k ≡ insert_key key_cmp ks k
put_is ks k = ap (λ (R : Key → Key → Ordering). insert_key R ks k) key_order_is

-- ---- further keys

pub with_sorted : (ks set : List Key) → IsStrictlySortedBy key_cmp set → IsStrictlySortedBy key_cmp (with_keys set ks)
with_sorted [] set sorted = sorted
with_sorted (k ∷ ks) set sorted = with_sorted ks (insert_key key_cmp set k) (put_sorted key_cmp key_total k set sorted)

-- the last of them is put in last
pub with_last : (set ks : List Key) (k : Key) → with_keys set (ks ++ k ∷ []) ≡ insert_key key_cmp (with_keys set ks) k
with_last set [] k = refl
with_last set (j ∷ ks) k = with_last (insert_key key_cmp set j) ks k

with_kept : (ks set : List Key) (j : Key) → Contains set j → Contains (with_keys set ks) j
with_kept [] set j has = has
with_kept (k ∷ ks) set j has = with_kept ks (insert_key key_cmp set k) j (kept_in key_cmp key_same k set j has)

with_put : (ks set : List Key) (j : Key) → Contains ks j → Contains (with_keys set ks) j
with_put [] set j has = absurd (none_in j has)
with_put (k ∷ ks) set j has = elim (cases_in k ks j has) [
  | inl e ↦ with_kept ks (insert_key key_cmp set k) j (subst (λ (x : Key). Contains (insert_key key_cmp set k) x) e (put_in key_cmp key_same k set))
  | inr more ↦ with_put ks (insert_key key_cmp set k) j more
]

with_only : (ks set : List Key) (j : Key) → Contains (with_keys set ks) j → Contains set j ⊎ Contains ks j
with_only [] set j has = inl has
with_only (k ∷ ks) set j has = by (with_only ks (insert_key key_cmp set k) j has)
  where
    one : (k ≡ j) ⊎ Contains set j → Contains set j ⊎ Contains (k ∷ ks) j
    one (inl e) = inr (subst (λ (x : Key). Contains (k ∷ ks) x) e (head_in k ks))
    one (inr before) = inl before

    by : Contains (insert_key key_cmp set k) j ⊎ Contains ks j → Contains set j ⊎ Contains (k ∷ ks) j
    by (inl put) = one (only_in key_cmp key_same k set j put)
    by (inr more) = inr (tail_in k ks j more)

none_sorted : IsStrictlySortedBy key_cmp []
unfolding IsStrictlySortedBy
none_sorted = tt

in_only : (ks : List Key) (j : Key) → Contains (in_order ks) j → Contains ks j
in_only ks j has = elim (with_only ks [] j has) [ inl none ↦ absurd (none_in j none) | inr there ↦ there ]

pub keys_in_order : KeysInOrder
keys_in_order = record {
  all = λ ks j has. with_put ks [] j has;
  only = in_only;
  ordered = λ ks. with_sorted ks [] none_sorted;
  one_list = one_list key_cmp key_total;
  compared = key_cmp_is;
}

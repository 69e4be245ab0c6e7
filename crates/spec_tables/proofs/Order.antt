-- Tables in the order of their keys: parts, and what an edit keeps.
use Rattle.std.proofs.Common.{◌≡◌, Bool, true, false, cond, List, [], ◌∷◌, ◌++◌, refl, sym, ap, ◌∙◌, subst}
use Rattle.std.specs.BTreeMap.{is_at}
use Rattle.std.specs.Cmp.{IsTotalOrder}
use Rattle.std.specs.List.{AllByRecursion}
use Rattle.std.specs.List.Sorted.{IsStrictlySortedBy}
use Rattle.std.specs.Map.{keys_of, remove_entry}
use Rattle.std.specs.Ordering.{match_ordering, ordering_reverse}
use Rattle.std.specs.declared.cmp.Ordering.{Ordering}
use Rattle.std.specs.declared.cmp.Ordering.TheVariants.{Less, Equal, Greater}
use Rattle.spec_tables.specs.Places.{AllAfter, AllBefore}
use Rattle.spec_tables.specs.Tables.{IsTable, with_key, without_key, with_value}

-- no keys are in order
pub none : {K : Type 0} (R : K → K → Ordering) → IsStrictlySortedBy R []
unfolding IsStrictlySortedBy
none R = tt

module _ {K V : Type 0} (R : K → K → Ordering) where
  all_front : (P : K → Type 0) (l r : List (K × V)) → AllByRecursion P (keys_of (l ++ r)) → AllByRecursion P (keys_of l)
  all_front P [] r h = tt
  all_front P (x ∷ l) r h = (h.0, all_front P l r h.1)

  all_back : (P : K → Type 0) (l r : List (K × V)) → AllByRecursion P (keys_of (l ++ r)) → AllByRecursion P (keys_of r)
  all_back P [] r h = h
  all_back P (x ∷ l) r h = all_back P l r h.1

  pub front : (l r : List (K × V)) → IsTable R (l ++ r) → IsTable R l
  unfolding IsStrictlySortedBy
  front [] r s = tt
  front (x ∷ l) r s = (all_front _ l r s.0, front l r s.1)

  pub back : (l r : List (K × V)) → IsTable R (l ++ r) → IsTable R r
  unfolding IsStrictlySortedBy
  back [] r s = s
  back (x ∷ l) r s = back l r s.1

  pub tail : (e : K × V) (r : List (K × V)) → IsTable R (e ∷ r) → IsTable R r
  unfolding IsStrictlySortedBy
  tail e r s = s.1

  -- the part past an entry
  pub past : (l : List (K × V)) (e : K × V) (r : List (K × V)) → IsTable R (l ++ e ∷ r) → IsTable R r
  past l e r s = tail e r (back l (e ∷ r) s)

  pub above_head : (e : K × V) (r : List (K × V)) → IsTable R (e ∷ r) → AllAfter R e.0 r
  unfolding IsStrictlySortedBy
  above_head e r s = s.0

module _ {K : Type 0} {R : K → K → Ordering} (o : IsTotalOrder R) where
  pub turned : (x y : K) → R x y ≡ Less → R y x ≡ Greater
  turned x y h = o.antisymm y x ∙ ap ordering_reverse h

  pub turned_back : (x y : K) → R x y ≡ Greater → R y x ≡ Less
  turned_back x y h = o.antisymm y x ∙ ap ordering_reverse h

module _ {K V : Type 0} {R : K → K → Ordering} (o : IsTotalOrder R) where
  -- what comes after a key comes after each key that is not above it
  pub below_all : (k e : K) → R k e ≡ Less → (r : List (K × V)) → AllAfter R e r → AllAfter R k r
  below_all k e h [] a = tt
  below_all k e h (x ∷ r) a = (o.trans k e x.0 h a.0, below_all k e h r a.1)

  alike_all : (k e : K) → R k e ≡ Equal → (r : List (K × V)) → AllAfter R e r → AllAfter R k r
  alike_all k e h [] a = tt
  alike_all k e h (x ∷ r) a = (o.congr k e x.0 h ∙ a.0, alike_all k e h r a.1)

  pub after_less : (k : K) (l : List (K × V)) (e : K × V) (r : List (K × V)) → IsTable R (l ++ e ∷ r) → R k e.0 ≡ Less → AllAfter R k r
  after_less k l e r s h = below_all k e.0 h r (above_head R e r (back R l (e ∷ r) s))

  pub after_equal : (k : K) (l : List (K × V)) (e : K × V) (r : List (K × V)) → IsTable R (l ++ e ∷ r) → R k e.0 ≡ Equal → AllAfter R k r
  after_equal k l e r s h = alike_all k e.0 h r (above_head R e r (back R l (e ∷ r) s))

  at_middle : (P : K → Type 0) (l : List (K × V)) (e : K × V) (r : List (K × V)) → AllByRecursion P (keys_of (l ++ e ∷ r)) → P e.0
  at_middle P [] e r h = h.0
  at_middle P (x ∷ l) e r h = at_middle P l e r h.1

  pub before_equal : (k : K) (l : List (K × V)) (e : K × V) (r : List (K × V)) → IsTable R (l ++ e ∷ r) → R k e.0 ≡ Equal → AllBefore R k l
  unfolding IsStrictlySortedBy
  before_equal k [] e r s h = tt
  before_equal k (x ∷ l) e r s h = (o.congr k e.0 x.0 h ∙ turned o x.0 e.0 (at_middle _ l e r s.0), before_equal k l e r s.1 h)

  pub before_greater : (k : K) (l : List (K × V)) (e : K × V) (r : List (K × V)) → IsTable R (l ++ e ∷ r) → R k e.0 ≡ Greater → AllBefore R k l
  unfolding IsStrictlySortedBy
  before_greater k [] e r s h = tt
  before_greater k (x ∷ l) e r s h =
      (turned o x.0 k (o.trans x.0 e.0 k (at_middle _ l e r s.0) (turned_back o k e.0 h)), before_greater k l e r s.1 h)

  -- ---- what an edit keeps

  all_with : (P : K → Type 0) (k : K) (v : V) (es : List (K × V)) → P k → AllByRecursion P (keys_of es) → AllByRecursion P (keys_of (with_key R k v es))
  all_with P k v [] p h = (p, tt)
  all_with P k v (e ∷ es) p h = elim (R k e.0) as (λ c. AllByRecursion P (keys_of (match_ordering c ((k, v) ∷ e ∷ es) ((e.0, v) ∷ es) (e ∷ with_key R k v es)))) [
    | Less ↦ (p, h)
    | Equal ↦ h
    | Greater ↦ (h.0, all_with P k v es p h.1)
  ]

  with_at : (k : K) (v : V) (e : K × V) (es : List (K × V)) (c : Ordering) → R k e.0 ≡ c → IsTable R (e ∷ es) → IsTable R (with_key R k v es) → IsTable R (match_ordering c ((k, v) ∷ e ∷ es) ((e.0, v) ∷ es) (e ∷ with_key R k v es))
  unfolding IsStrictlySortedBy
  with_at k v e es Less h s i = ((h, below_all k e.0 h es s.0), s)
  with_at k v e es Equal h s i = s
  with_at k v e es Greater h s i = (all_with _ k v es (turned_back o k e.0 h) s.0, i)

  pub table_with : (k : K) (v : V) (es : List (K × V)) → IsTable R es → IsTable R (with_key R k v es)
  unfolding IsStrictlySortedBy
  table_with k v [] s = (tt, tt)
  table_with k v (e ∷ es) s = with_at k v e es (R k e.0) refl s (table_with k v es s.1)

module _ {K V : Type 0} (R : K → K → Ordering) where
  all_without : (P : K → Type 0) (test : K → Bool) (es : List (K × V)) → AllByRecursion P (keys_of es) → AllByRecursion P (keys_of (remove_entry test es))
  all_without P test [] h = tt
  all_without P test (e ∷ es) h = elim (test e.0) as (λ b. AllByRecursion P (keys_of (cond b es (e ∷ remove_entry test es)))) [
    | true ↦ h.1
    | false ↦ (h.0, all_without P test es h.1)
  ]

  pub table_without : (k : K) (es : List (K × V)) → IsTable R es → IsTable R (without_key R k es)
  unfolding IsStrictlySortedBy
  table_without k [] s = tt
  table_without k (e ∷ es) s = elim (is_at (R k) e.0) as (λ b. IsTable R (cond b es (e ∷ without_key R k es))) [
    | true ↦ s.1
    | false ↦ (all_without _ (is_at (R k)) es s.0, table_without k es s.1)
  ]

  pub keys_stay : (k : K) (v : V) (es : List (K × V)) → keys_of (with_value R k v es) ≡ keys_of es
  keys_stay k v [] = refl
  keys_stay k v (e ∷ es) = elim (is_at (R k) e.0) as (λ b. keys_of (cond b ((e.0, v) ∷ es) (e ∷ with_value R k v es)) ≡ keys_of (e ∷ es)) [
    | true ↦ refl
    | false ↦ ap (λ ks. e.0 ∷ ks) (keys_stay k v es)
  ]

  pub table_value : (k : K) (v : V) (es : List (K × V)) → IsTable R es → IsTable R (with_value R k v es)
  table_value k v es s = subst (IsStrictlySortedBy R) (sym (keys_stay k v es)) s

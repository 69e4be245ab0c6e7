-- Entries that are put into a table one behind the other, when some of the later ones stand there already.
use Rattle.std.proofs.Common.{◌≡◌, ◌∙◌, List, [], ◌∷◌, ◌++◌, Some, None, ap, refl, cond}
use Rattle.std.specs.BTreeMap.{is_at}
use Rattle.std.specs.Cmp.{IsTotalOrder}
use Rattle.std.specs.List.{AllByRecursion}
use Rattle.std.specs.List.Sorted.{IsStrictlySortedBy}
use Rattle.std.specs.Map.{lookup, keys_of}
use Rattle.std.specs.Ordering.{is_eq, match_ordering, ordering_reverse}
use Rattle.std.specs.declared.cmp.Ordering.{Ordering}
use Rattle.std.specs.declared.cmp.Ordering.TheVariants.{Less, Equal, Greater}
use Rattle.spec_tables.specs.Tables.{IsTable, at_key, with_key}

module _ {K : Type 0} (cmp : K → K → Ordering) (total : IsTotalOrder cmp) where
  turned : (a b : K) → cmp a b ≡ Less → cmp b a ≡ Greater
  turned a b h = total.antisymm b a ∙ ap ordering_reverse h

  pub never_before_itself : (k : K) → cmp k k ≡ Less → ⊥
  never_before_itself k h = by (cmp k k) h (turned k k h)
    where
      by : (o : Ordering) → o ≡ Less → o ≡ Greater → ⊥
      by Less h g = cc
      by Equal h g = cc
      by Greater h g = cc

module _ {K V : Type 0} (cmp : K → K → Ordering) where
  -- each key stands before this one, or behind it
  abbrev pub AllBefore : List (K × V) → K → Type 0
  AllBefore [] k = Unit {0}
  AllBefore (e ∷ es) k = (cmp k e.0 ≡ Greater) × AllBefore es k

  abbrev pub AllBehind : List (K × V) → K → Type 0
  AllBehind [] k = Unit {0}
  AllBehind (e ∷ es) k = (cmp k e.0 ≡ Less) × AllBehind es k

  none_behind : (es : List (K × V)) (k : K) → AllBehind es k → at_key cmp k es ≡ None
  none_behind [] k h = refl
  none_behind (e ∷ es) k h = ap (λ o. cond (is_eq o) (Some e.1) (lookup (is_at (cmp k)) es)) h.0 ∙ none_behind es k h.1

  pub none_at : (done rest : List (K × V)) (k : K) → AllBefore done k → AllBehind rest k → at_key cmp k (done ++ rest) ≡ None
  none_at [] rest k h g = none_behind rest k g
  none_at (e ∷ es) rest k h g = ap (λ o. cond (is_eq o) (Some e.1) (lookup (is_at (cmp k)) (es ++ rest))) h.0 ∙ none_at es rest k h.1 g

  put_first : (es : List (K × V)) (k : K) (v : V) → AllBehind es k → with_key cmp k v es ≡ (k, v) ∷ es
  put_first [] k v h = refl
  put_first (e ∷ es) k v h = ap (λ o. match_ordering o ((k, v) ∷ e ∷ es) ((e.0, v) ∷ es) (e ∷ with_key cmp k v es)) h.0

  -- a key between these entries
  pub put_between : (done rest : List (K × V)) (k : K) (v : V) → AllBefore done k → AllBehind rest k → with_key cmp k v (done ++ rest) ≡ done ++ (k, v) ∷ rest
  put_between [] rest k v h g = put_first rest k v g
  put_between (e ∷ es) rest k v h g =
      ap (λ o. match_ordering o ((k, v) ∷ e ∷ es ++ rest) ((e.0, v) ∷ es ++ rest) (e ∷ with_key cmp k v (es ++ rest))) h.0 ∙ ap (λ l. e ∷ l) (put_between es rest k v h.1 g)

  -- ---- entries in order, of which some are done

  abbrev pub AllAfter : List (K × V) → List (K × V) → Type 0
  AllAfter done [] = Unit {0}
  AllAfter done (e ∷ es) = AllBefore done e.0 × AllAfter done es

  pub after_nothing : (es : List (K × V)) → AllAfter [] es
  after_nothing [] = tt
  after_nothing (e ∷ es) = (tt, after_nothing es)

  pub first_behind : (e : K × V) (es : List (K × V)) → IsTable cmp (e ∷ es) → AllBehind es e.0
  unfolding IsStrictlySortedBy
  first_behind e es h = by es h.0
    where
      by : (es : List (K × V)) → AllByRecursion (λ k. cmp e.0 k ≡ Less) (keys_of es) → AllBehind es e.0
      by [] h = tt
      by (f ∷ fs) h = (h.0, by fs h.1)

  pub others : (e : K × V) (es : List (K × V)) → IsTable cmp (e ∷ es) → IsTable cmp es
  unfolding IsStrictlySortedBy
  others e es h = h.1

  module _ (total : IsTotalOrder cmp) where
    before_more : (done : List (K × V)) (e : K × V) (k : K) → AllBefore done k → cmp k e.0 ≡ Greater → AllBefore (done ++ e ∷ []) k
    before_more [] e k h g = (g, tt)
    before_more (d ∷ ds) e k h g = (h.0, before_more ds e k h.1 g)

    -- one entry more is done
    pub after_more : (done : List (K × V)) (e : K × V) (es : List (K × V)) → AllAfter done es → AllBehind es e.0 → AllAfter (done ++ e ∷ []) es
    after_more done e [] h g = tt
    after_more done e (f ∷ fs) h g = (before_more done e f.0 h.0 (turned cmp total e.0 f.0 g.0), after_more done e fs h.1 g.1)

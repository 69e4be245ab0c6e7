-- What a table has at the place of a key, and what an edit there makes.
use Rattle.std.proofs.Common.{◌≡◌, ℕ, zero, suc, ◌+◌, ◌-◌, ◌<◌, ◌≤◌, Bool, true, false, cond, List, [], ◌∷◌, ◌++◌, Some, None, Ok, Err, Result, OnErr, is_some, length, get_or, take, drop, refl, sym, ap, subst, ◌∙◌, add-one, arith, append-nil}
use Rattle.std.proofs.Math.Seq.{take-append_seam, drop-append_seam, drop-append-add, take-append-add, take-length, get_or-append_seam}
use Rattle.std.proofs.lemmas.List.{length-drop, length-take-le, take-append-drop}
use Rattle.std.proofs.lemmas.List.Sorted.{searchable_from_sorted}
use Rattle.std.specs.Cmp.{IsTotalOrder}
use Rattle.std.specs.List.{HoldsAt, AllWithin, insert, remove}
use Rattle.std.specs.List.Sorted.{IsBinarySearchResult, IsSearchInRange, IsStrictlySortedBy, IsNonDecreasingBy}
use Rattle.std.specs.Ordering.{is_lt, ordering_index, ordering_reverse}
use Rattle.std.specs.declared.cmp.Ordering.{Ordering}
use Rattle.std.specs.declared.cmp.Ordering.TheVariants.{Less, Equal, Greater}
use Rattle.spec_tables.specs.Places.{AllAfter, AllBefore, StandsAt, WouldStandAt, IsPlace}
use Rattle.spec_tables.specs.Tables.{IsTable, at_key, with_key, without_key, with_value, entries_from, entries_until}
use Rattle.spec_tables.proofs.Order.{above_head, after_equal, before_equal, before_greater, tail, turned, turned_back}
use Rattle.spec_tables.proofs.Splits.{at_past, at_none, at_middle, with_past, with_middle, without_middle, without_absent, value_middle}

-- ---- what a search finds

module _ {K V : Type 0} {R : K → K → Ordering} (o : IsTotalOrder R) (k : K) where
  stands : (es : List (K × V)) (i : ℕ) → i < length es → HoldsAt (λ e. R e.0 k ≡ Equal) es i → StandsAt R k es i
  stands [] i b h = absurd (omega arith)
  stands (x ∷ es) zero b h = record { front = []; entry = x; back = es; parts = refl; place = refl; same = o.antisymm k x.0 ∙ ap ordering_reverse (h x) }
  stands (x ∷ es) (suc i) b h =
      let rest : StandsAt R k es i = stands es i (omega arith) (λ d. h d) in
      record { front = x ∷ rest.front; entry = rest.entry; back = rest.back; parts = ap (λ t. x ∷ t) rest.parts; place = ap suc rest.place; same = rest.same }

  before_all : (es : List (K × V)) (i : ℕ) → i ≤ length es → AllWithin (λ e. R e.0 k ≡ Less) es 0 i → AllBefore R k (take i es)
  before_all es zero b h = tt
  before_all [] (suc i) b h = absurd (omega arith)
  before_all (x ∷ es) (suc i) b h = (turned o x.0 k (h 0 x (omega arith) (omega arith)), before_all es i (omega arith) (λ j d l u. h (suc j) d (omega arith) (omega arith)))

  after_all : (es : List (K × V)) (i : ℕ) → AllWithin (λ e. R e.0 k ≡ Greater) es i (length es) → AllAfter R k (drop i es)
  after_all [] zero h = tt
  after_all [] (suc i) h = tt
  after_all (x ∷ es) zero h = (turned_back o x.0 k (h 0 x (omega arith) (omega arith)), after_all es zero (λ j d l u. h (suc j) d (omega arith) (omega arith)))
  after_all (x ∷ es) (suc i) h = after_all es i (λ j d l u. h (suc j) d (omega arith) (omega arith))

  adjacent : (es : List (K × V)) → IsTable R es → (j : ℕ) (d : K × V) → suc j < length es → is_lt (R (get_or es (suc j) d).0 (get_or es j d).0) ≡ false
  adjacent [] s j d u = absurd (omega arith)
  adjacent (x ∷ []) s j d u = absurd (omega arith)
  adjacent (x ∷ y ∷ es) s zero d u = ap is_lt (turned o x.0 y.0 (above_head R x (y ∷ es) s).0)
  adjacent (x ∷ y ∷ es) s (suc j) d u = adjacent (y ∷ es) (tail R x (y ∷ es) s) j d (omega arith)

  rising : (es : List (K × V)) → IsTable R es → IsNonDecreasingBy (λ y. ordering_index (R y.0 k)) es
  rising es s = searchable_from_sorted o (λ e. e.0) es k (λ j d l u. rw add-one (adjacent es s j d (omega arith)))

  pub place_is : (es : List (K × V)) (r : Result ℕ ℕ) → IsTable R es → IsSearchInRange r (length es) → IsBinarySearchResult (λ e. R e.0 k) es r → IsPlace R k es r
  place_is es (Ok i) s b h = stands es i b h
  place_is es (Err i) s b h =
      let parts = h (rising es s) in
      record { front = take i es; back = drop i es; parts = sym (take-append-drop i es); place = length-take-le i es b; before = before_all es i b parts.0; after = after_all es i parts.1 }

  before_end : (l : List (K × V)) (e : K × V) → R k e.0 ≡ Greater → AllBefore R k l → AllBefore R k (l ++ e ∷ [])
  before_end [] e h a = (h, tt)
  before_end (x ∷ l) e h a = (a.0, before_end l e h a.1)

  -- a key above the last one would stand at the end
  pub past_last : (es l : List (K × V)) (e : K × V) → IsTable R es → es ≡ l ++ e ∷ [] → R k e.0 ≡ Greater → WouldStandAt R k es (length es)
  past_last es l e s is h = record {
    front = es;
    back = [];
    parts = sym (append-nil es);
    place = refl;
    before = subst (AllBefore R k) (sym is) (before_end l e h (before_greater o k l e [] (subst (IsTable R) is s) h));
    after = tt;
  }

-- ---- from a key on, and up to it

module _ {K V : Type 0} (R : K → K → Ordering) (k : K) where
  from_past : (l r : List (K × V)) → AllBefore R k l → entries_from R k (l ++ r) ≡ entries_from R k r
  from_past [] r a = refl
  from_past (x ∷ l) r a = rw a.0 (from_past l r a.1)

  from_all : (r : List (K × V)) → AllAfter R k r → entries_from R k r ≡ r
  from_all [] a = refl
  from_all (x ∷ r) a = rw a.0 (ap (λ t. x ∷ t) (from_all r a.1))

  until_past : (l r : List (K × V)) → AllBefore R k l → entries_until R k (l ++ r) ≡ l ++ entries_until R k r
  until_past [] r a = refl
  until_past (x ∷ l) r a = rw a.0 (ap (λ t. x ∷ t) (until_past l r a.1))

  until_none : (r : List (K × V)) → AllAfter R k r → entries_until R k r ≡ []
  until_none [] a = refl
  until_none (x ∷ r) a = rw a.0 (until_none r a.1)

  pub with_new : (v : V) (r : List (K × V)) → AllAfter R k r → with_key R k v r ≡ (k, v) ∷ r
  with_new v [] a = refl
  with_new v (x ∷ r) a = rw a.0

-- a part up to the end, as a range that is open there gives it
to_end : {A : Type 0} (es : List A) (i : ℕ) → take (length es - i) (drop i es) ≡ drop i es
to_end es i = rw (← length-drop i es) (take-length (drop i es))

-- ---- where the key stands

module _ {K V : Type 0} {R : K → K → Ordering} (o : IsTotalOrder R) (k : K) (es : List (K × V)) (i : ℕ) (s : IsTable R es) (w : StandsAt R k es i) where
  order : IsTable R (w.front ++ w.entry ∷ w.back)
  order = subst (IsTable R) w.parts s

  before : AllBefore R k w.front
  before = before_equal o k w.front w.entry w.back order w.same

  after : AllAfter R k w.back
  after = after_equal o k w.front w.entry w.back order w.same

  cut_front : take i es ≡ w.front
  cut_front = ap (take i) w.parts ∙ ap (λ n. take n (w.front ++ w.entry ∷ w.back)) (sym w.place) ∙ take-append_seam w.front (w.entry ∷ w.back)

  cut_back : drop i es ≡ w.entry ∷ w.back
  cut_back = ap (drop i) w.parts ∙ ap (λ n. drop n (w.front ++ w.entry ∷ w.back)) (sym w.place) ∙ drop-append_seam w.front (w.entry ∷ w.back)

  cut_past : drop (suc i) es ≡ w.back
  cut_past = ap (drop (suc i)) w.parts ∙ ap (λ n. drop (suc n) (w.front ++ w.entry ∷ w.back)) (sym w.place) ∙ ap (λ n. drop n (w.front ++ w.entry ∷ w.back)) (sym (add-one (length w.front))) ∙ drop-append-add w.front (w.entry ∷ w.back) 1

  cut_through : take (i + 1) es ≡ w.front ++ w.entry ∷ []
  cut_through = ap (take (i + 1)) w.parts ∙ ap (λ n. take (n + 1) (w.front ++ w.entry ∷ w.back)) (sym w.place) ∙ take-append-add w.front (w.entry ∷ w.back) 1

  pub entry_is : (x : K × V) → get_or es i x ≡ w.entry
  entry_is x = ap (λ t. get_or t i x) w.parts ∙ ap (λ n. get_or (w.front ++ w.entry ∷ w.back) n x) (sym w.place) ∙ get_or-append_seam w.front w.entry w.back x

  pub at_found : at_key R k es ≡ Some w.entry.1
  at_found = ap (at_key R k) w.parts ∙ at_middle o k w.front w.entry w.back order w.same

  pub with_found : (v : V) → with_key R k v es ≡ w.front ++ (w.entry.0, v) ∷ w.back
  with_found v = ap (with_key R k v) w.parts ∙ with_middle o k w.front w.entry w.back order v w.same

  pub value_found : (v : V) → with_value R k v es ≡ w.front ++ (w.entry.0, v) ∷ w.back
  value_found v = ap (with_value R k v) w.parts ∙ value_middle o k w.front w.entry w.back order v w.same

  pub without_found : without_key R k es ≡ remove es i
  without_found = ap (without_key R k) w.parts ∙ without_middle o k w.front w.entry w.back order w.same ∙ sym (ap (λ t. t ++ drop (suc i) es) cut_front ∙ ap (λ t. w.front ++ t) cut_past)

  pub from_found : take (length es - i) (drop i es) ≡ entries_from R k es
  from_found = to_end es i ∙ cut_back ∙ sym (ap (entries_from R k) w.parts ∙ from_past R k w.front (w.entry ∷ w.back) before ∙ rw w.same (ap (λ t. w.entry ∷ t) (from_all R k w.back after)))

  pub until_found : take (i + 1) es ≡ entries_until R k es
  until_found = cut_through ∙ sym (ap (entries_until R k) w.parts ∙ until_past R k w.front (w.entry ∷ w.back) before ∙ rw w.same (ap (λ t. w.front ++ w.entry ∷ t) (until_none R k w.back after)))

-- ---- where the key would stand

module _ {K V : Type 0} (R : K → K → Ordering) (k : K) (es : List (K × V)) (i : ℕ) (w : WouldStandAt R k es i) where
  cut_before : take i es ≡ w.front
  cut_before = ap (take i) w.parts ∙ ap (λ n. take n (w.front ++ w.back)) (sym w.place) ∙ take-append_seam w.front w.back

  cut_after : drop i es ≡ w.back
  cut_after = ap (drop i) w.parts ∙ ap (λ n. drop n (w.front ++ w.back)) (sym w.place) ∙ drop-append_seam w.front w.back

  pub at_missed : at_key R k es ≡ None
  at_missed = ap (at_key R k) w.parts ∙ at_past R k w.front w.back w.before ∙ at_none R k w.back w.after

  pub with_missed : (v : V) → with_key R k v es ≡ insert es i (k, v)
  with_missed v = ap (with_key R k v) w.parts ∙ with_past R k v w.front w.back w.before ∙ ap (λ t. w.front ++ t) (with_new R k v w.back w.after) ∙ sym (ap (λ t. t ++ (k, v) ∷ drop i es) cut_before ∙ ap (λ t. w.front ++ (k, v) ∷ t) cut_after)

  pub without_missed : without_key R k es ≡ es
  without_missed = without_absent R k es (ap is_some at_missed)

  pub from_missed : take (length es - i) (drop i es) ≡ entries_from R k es
  from_missed = to_end es i ∙ cut_after ∙ sym (ap (entries_from R k) w.parts ∙ from_past R k w.front w.back w.before ∙ from_all R k w.back w.after)

  pub until_missed : take i es ≡ entries_until R k es
  until_missed = cut_before ∙ sym (ap (entries_until R k) w.parts ∙ until_past R k w.front w.back w.before ∙ ap (λ t. w.front ++ t) (until_none R k w.back w.after) ∙ append-nil w.front)

-- what holds whatever was answered
pub any_err : {A E X : Type 0} (r : Result A E) → X → OnErr r X
any_err (Ok a) x = tt
any_err (Err e) x = x

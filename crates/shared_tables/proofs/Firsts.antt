-- The first entry from a key on, and what comes after it.
use Rattle.std.proofs.Common.{◌≡◌, Bool, true, false, cond, List, [], ◌∷◌, ◌++◌, Option, Some, None, refl, sym, ap, subst, ◌∙◌}
use Rattle.std.specs.Prelude.{filter}
use Rattle.std.proofs.lemmas.Cmp.{tied_itself}
use Rattle.std.specs.Cmp.{IsTotalOrder}
use Rattle.std.specs.List.{AllByRecursion}
use Rattle.std.specs.Map.{keys_of}
use Rattle.std.specs.Ordering.{is_le, is_lt}
use Rattle.std.specs.declared.cmp.Ordering.{Ordering}
use Rattle.std.specs.declared.cmp.Ordering.TheVariants.{Less, Equal, Greater}
use Rattle.spec_tables.specs.Tables.{IsTable, entries_from}
use Rattle.shared_tables.specs.Rest.{head, entries_after, onwards}
use Rattle.spec_tables.specs.Places.{AllAfter, AllBefore}
use Rattle.spec_tables.proofs.Order.{above_head, tail, turned}

-- ---- in two parts with an entry between them

module _ {A : Type 0} where
  pub head_found : (l r : List A) (x : A) → Some x ≡ head l → Some x ≡ head (l ++ r)
  head_found [] r x h = absurd cc
  head_found (y ∷ l) r x h = h

  pub head_missed : (l r : List A) → None ≡ head l → head (l ++ r) ≡ head r
  head_missed [] r h = refl
  head_missed (y ∷ l) r h = absurd cc

  filter_parts : (p : A → Bool) (l r : List A) → filter p (l ++ r) ≡ filter p l ++ filter p r
  filter_parts p [] r = refl
  filter_parts p (x ∷ l) r = elim (p x) as (λ b. cond b (x ∷ filter p (l ++ r)) (filter p (l ++ r)) ≡ cond b (x ∷ filter p l) (filter p l) ++ filter p r) [
    | true ↦ ap (λ t. x ∷ t) (filter_parts p l r)
    | false ↦ filter_parts p l r
  ]

module _ {K V : Type 0} (R : K → K → Ordering) (k : K) (passes : Ordering → Bool) where
  -- the entries whose keys pass
  abbrev passing : List (K × V) → List (K × V)
  passing es = filter (λ e. passes (R k e.0)) es

  none_before : passes Greater ≡ false → (l : List (K × V)) → AllBefore R k l → passing l ≡ []
  none_before n [] a = refl
  none_before n (x ∷ l) a = rw (a.0, n) (none_before n l a.1)

  module _ (w l r : List (K × V)) (e : K × V) (is : w ≡ l ++ e ∷ r) where
    -- the entry passes, and so may one of the first part
    pub first_less : passes (R k e.0) ≡ true → (x : K × V) → Some x ≡ head (passing l) → Some x ≡ head (passing w)
    first_less p x h = rw (is, filter_parts (λ e. passes (R k e.0)) l (e ∷ r)) (head_found _ _ x h)

    pub first_at : passes (R k e.0) ≡ true → None ≡ head (passing l) → Some e ≡ head (passing w)
    first_at p h = rw (is, filter_parts (λ e. passes (R k e.0)) l (e ∷ r), head_missed (passing l) _ h, p)

    -- nothing of the first part passes
    pub first_equal : passes Greater ≡ false → AllBefore R k l → passes (R k e.0) ≡ true → Some e ≡ head (passing w)
    first_equal n a p = rw (is, filter_parts (λ e. passes (R k e.0)) l (e ∷ r), none_before n l a, p)

    pub first_past : passes Greater ≡ false → AllBefore R k l → passes (R k e.0) ≡ false → head (passing r) ≡ head (passing w)
    first_past n a p = rw (is, filter_parts (λ e. passes (R k e.0)) l (e ∷ r), none_before n l a, p)

-- ---- what comes after the first entry that passes, where what comes after an entry that passes does

module _ {K : Type 0} {R : K → K → Ordering} (o : IsTotalOrder R) where
  lt_up : (k x y : K) (c : Ordering) → R k x ≡ c → is_lt c ≡ true → R x y ≡ Less → is_lt (R k y) ≡ true
  lt_up k x y Less e t h = rw (o.trans k x y e h)
  lt_up k x y Equal e t h = absurd cc
  lt_up k x y Greater e t h = absurd cc

  le_up : (k x y : K) (c : Ordering) → R k x ≡ c → is_le c ≡ true → R x y ≡ Less → is_le (R k y) ≡ true
  le_up k x y Less e t h = rw (o.trans k x y e h)
  le_up k x y Equal e t h = rw (o.congr k x y e ∙ h)
  le_up k x y Greater e t h = absurd cc

module _ {K V : Type 0} {R : K → K → Ordering} (o : IsTotalOrder R) where
  -- all that is past a key
  all_past : (k : K) (es : List (K × V)) → AllAfter R k es → entries_after R k es ≡ es
  all_past k [] a = refl
  all_past k (x ∷ es) a = rw a.0 (ap (λ t. x ∷ t) (all_past k es a.1))

  past_itself : (x : K × V) (es : List (K × V)) → AllAfter R x.0 es → entries_after R x.0 (x ∷ es) ≡ es
  past_itself x es a = rw (tied_itself o x.0) (all_past x.0 es a)

  head_at : (P : K → Type 0) (p : K → Bool) (y : K × V) (es : List (K × V)) (b : Bool) → P y.0 → (x : K × V) → head (cond b (y ∷ filter (λ e. p e.0) es) (filter (λ e. p e.0) es)) ≡ Some x
      → (head (filter (λ e. p e.0) es) ≡ Some x → P x.0) → P x.0
  head_at P p y es true a x h i = let same : y ≡ x = cc in subst (λ z. P z.0) same a
  head_at P p y es false a x h i = i h

  -- what holds of each key holds of the first that passes
  head_has : (P : K → Type 0) (p : K → Bool) (es : List (K × V)) → AllByRecursion P (keys_of es) → (x : K × V) → head (filter (λ e. p e.0) es) ≡ Some x → P x.0
  head_has P p [] a x h = absurd cc
  head_has P p (y ∷ es) a x h = head_at P p y es (p y.0) a.0 x h (head_has P p es a.1 x)

  past_head : (x y : K × V) (es : List (K × V)) → R y.0 x.0 ≡ Less → entries_after R x.0 (y ∷ es) ≡ entries_after R x.0 es
  past_head x y es h = rw (turned o y.0 x.0 h)

  -- an entry before the one from which a table goes on changes nothing
  grown : (y : K × V) (es : List (K × V)) (q : Option (K × V)) → ((x : K × V) → q ≡ Some x → R y.0 x.0 ≡ Less) → onwards R es q ≡ onwards R (y ∷ es) q
  grown y es None f = refl
  grown y es (Some x) f = ap (λ t. x ∷ t) (sym (past_head x y es (f x refl)))

  module _ (p : K → Bool) (up : (x y : K) → p x ≡ true → R x y ≡ Less → p y ≡ true) where
    all_kept : (x : K) → p x ≡ true → (es : List (K × V)) → AllAfter R x es → filter (λ e. p e.0) es ≡ es
    all_kept x h [] a = refl
    all_kept x h (y ∷ es) a = rw (up x y.0 h a.0) (ap (λ t. y ∷ t) (all_kept x h es a.1))

    onwards_at : (y : K × V) (es : List (K × V)) → IsTable R (y ∷ es) → (b : Bool) → p y.0 ≡ b → filter (λ e. p e.0) es ≡ onwards R es (head (filter (λ e. p e.0) es))
        → cond b (y ∷ filter (λ e. p e.0) es) (filter (λ e. p e.0) es) ≡ onwards R (y ∷ es) (head (cond b (y ∷ filter (λ e. p e.0) es) (filter (λ e. p e.0) es)))
    onwards_at y es s true h i = ap (λ t. y ∷ t) (all_kept y.0 h es (above_head R y es s) ∙ sym (past_itself y es (above_head R y es s)))
    onwards_at y es s false h i = i ∙ grown y es (head (filter (λ e. p e.0) es)) (λ x is. head_has (λ k. R y.0 k ≡ Less) p es (above_head R y es s) x is)

    onwards_is : (es : List (K × V)) → IsTable R es → filter (λ e. p e.0) es ≡ onwards R es (head (filter (λ e. p e.0) es))
    onwards_is [] s = refl
    onwards_is (y ∷ es) s = onwards_at y es s (p y.0) refl (onwards_is es (tail R y es s))

  -- a table from its first entry on, from the first entry at a key or past it, and from the first past it
  pub from_start : (es : List (K × V)) → IsTable R es → (q : Option (K × V)) → q ≡ head es → onwards R es q ≡ es
  from_start [] s q h = ap (onwards R []) h
  from_start (x ∷ es) s q h = ap (onwards R (x ∷ es)) h ∙ ap (λ t. x ∷ t) (past_itself x es (above_head R x es s))

  pub from_key : (k : K) (es : List (K × V)) → IsTable R es → (q : Option (K × V)) → q ≡ head (entries_from R k es) → onwards R es q ≡ entries_from R k es
  from_key k es s q h = ap (onwards R es) h ∙ sym (onwards_is (λ x. is_le (R k x)) (λ x y t l. le_up o k x y (R k x) refl t l) es s)

  pub past_key : (k : K) (es : List (K × V)) → IsTable R es → (q : Option (K × V)) → q ≡ head (entries_after R k es) → onwards R es q ≡ entries_after R k es
  past_key k es s q h = ap (onwards R es) h ∙ sym (onwards_is (λ x. is_lt (R k x)) (λ x y t l. lt_up o k x y (R k x) refl t l) es s)

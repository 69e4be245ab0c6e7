-- The dates that are told from what is kept are those that the worlds of the versions tell.
use Rattle.std.proofs.Common.{◌≡◌, ◌⊎◌, inl, inr, refl, sym, ap, ◌∙◌, subst, ℕ, zero, suc, Bool, true, false, true≢false, not, ◌||◌, List, [], ◌∷◌, ◌++◌, map, length, Option, Some, None}
use Rattle.std.specs.Prelude.{is_some}
use Rattle.std.specs.Option.{option_map}
use Rattle.std.proofs.lemmas.List.Folds.{list_any-append}
use Rattle.compose_api.specs.Stage.{walked as walked_below}
use Rattle.kept_stages.specs.Machine.{Kept, Flight, State, accepted, begun, ended, given_up, with_value, all_joined, meets_kept, after_flight, step, clean, published}
use Rattle.kept_stages.specs.Laws.{AreComposed, IsRight}
use Rattle.kept_stages.specs.Dates.{Happening, batch, refusal, begins, ends, gives_up, publishes, Version, Dated, is_in, on_stage, touched_along, since, date_after, after_publish, dated_step, dated_run, dated_opened, DatesItsStage, DatesAreRight}
use Rattle.kept_stages.proofs.Machine.{some_same, after_event, opened_right, same_world, published_is}

-- ---- tests

or_none : (a : Bool) → (a || false) ≡ a
or_none true = refl
or_none false = refl

or_assoc : (a b c : Bool) → ((a || b) || c) ≡ (a || (b || c))
or_assoc true b c = refl
or_assoc false b c = refl

or_lifted : (m t x : Bool) → (m ≡ true → t ≡ true) → (m || x) ≡ true → (t || x) ≡ true
or_lifted m true x more h = refl
or_lifted true false x more h = absurd (true≢false (sym (more refl)))
or_lifted false false x more h = h

pub or_cases : (a b : Bool) → (a || b) ≡ true → (a ≡ true) ⊎ (b ≡ true)
or_cases true b h = inl refl
or_cases false b h = inr h

module _ {World Place Key Entry : Type 0} (entry_of : World → Place → Entry) (reads_of : World → Place → List Key) (listed : Place → Entry → List Place) (same : Place → Place → Bool)
    (meets : World → World → List Key → Bool) (are : AreComposed entry_of reads_of same meets) (root : Place) (levels : ℕ) where
  abbrev Stage : Type 0
  Stage = State World Place Key Entry

  abbrev Told : Type 0
  Told = Dated World Place Key Entry

  abbrev Items : Type 0
  Items = List (Place × Entry)

  abbrev among : Items → Place → Bool
  among items p = is_in entry_of reads_of listed same meets root levels items p

  abbrev on : World → Place → Bool
  on w p = on_stage entry_of reads_of listed same meets root levels w p

  abbrev along : World → List World → Place → Bool
  along w vs p = touched_along entry_of reads_of listed same meets root levels w vs p

  abbrev date : List (Version World) → Place → ℕ
  date vs p = since entry_of reads_of listed same meets root levels vs p

  abbrev met : World → World → Option (Kept Entry Key) → Bool
  met w v k = meets_kept entry_of reads_of listed same meets w v k

  -- the world after some batches
  abbrev last : World → List World → World
  last w [] = w
  last w (v ∷ vs) = last v vs

  last_more : (w : World) (vs : List World) (v : World) → last w (vs ++ v ∷ []) ≡ v
  last_more w [] v = refl
  last_more w (u ∷ vs) v = last_more u vs v

  along_more : (w : World) (vs : List World) (v : World) (p : Place) → along w (vs ++ v ∷ []) p ≡ (along w vs p || meets (last w vs) v (reads_of (last w vs) p))
  along_more w [] v p = or_none (meets w v (reads_of w p))
  along_more w (u ∷ vs) v p =
      ap (λ (b : Bool). meets w u (reads_of w p) || b) (along_more u vs v p)
      ∙ sym (or_assoc (meets w u (reads_of w p)) (along u vs p) (meets (last u vs) v (reads_of (last u vs) p)))

  -- ---- what holds after any happenings

  -- of the versions and the batches since: what the dates and the touched places are
  abbrev History : List (Version World) → List World → World → (Place → Option ℕ) → (Place → Bool) → Type 0
  History [] steps w dates touched = (p : Place) → dates p ≡ None
  History (new ∷ older) steps w dates touched =
      (last new.world steps ≡ w)
      × ((p : Place) (d : ℕ) → dates p ≡ Some d → touched p ≡ along new.world steps p)
      × ((p : Place) → is_some (dates p) ≡ on new.world p)
      × ((p : Place) (d : ℕ) → dates p ≡ Some d → d ≡ date (new ∷ older) p)

  record Holds (d : Told) : Type 0 where
    right : IsRight entry_of reads_of d.state
    kept : (p : Place) (n : ℕ) → d.dates p ≡ Some n → (k : Kept Entry Key) × (d.state.cache p ≡ Some k)
    marked : (p : Place) (n : ℕ) → d.dates p ≡ Some n → d.state.marked p ≡ true → d.touched p ≡ true
    history : History d.versions d.steps d.state.world d.dates d.touched

  -- ---- batches

  met_is : (d : Told) → Holds d → (v : World) (p : Place) (n : ℕ) → d.dates p ≡ Some n → d.touched p ≡ false → met d.state.world v (d.state.cache p) ≡ meets d.state.world v (reads_of d.state.world p)
  met_is d holds v p n dated untouched = by (d.state.marked p) refl
    where
      by : (b : Bool) → d.state.marked p ≡ b → met d.state.world v (d.state.cache p) ≡ meets d.state.world v (reads_of d.state.world p)
      by true is = absurd (true≢false (sym (holds.marked p n dated is) ∙ untouched))
      by false is =
          let there = holds.kept p n dated in
          ap (λ (k : Option (Kept Entry Key)). met d.state.world v k) there.1
          ∙ ap (λ (keys : List Key). meets d.state.world v keys) (holds.right.cached p there.0 there.1 is).1

  touched_more : (d : Told) → Holds d → (new : Version World) → last new.world d.steps ≡ d.state.world → (v : World) (p : Place) (n : ℕ) → d.dates p ≡ Some n
      → d.touched p ≡ along new.world d.steps p → (d.touched p || met d.state.world v (d.state.cache p)) ≡ along new.world (d.steps ++ v ∷ []) p
  touched_more d holds new at v p n dated is =
      by (d.touched p) refl
      ∙ ap (λ (w : World). d.touched p || meets w v (reads_of w p)) (sym at)
      ∙ ap (λ (b : Bool). b || meets (last new.world d.steps) v (reads_of (last new.world d.steps) p)) is
      ∙ sym (along_more new.world d.steps v p)
    where
      by : (b : Bool) → d.touched p ≡ b → (d.touched p || met d.state.world v (d.state.cache p)) ≡ (d.touched p || meets d.state.world v (reads_of d.state.world p))
      by true touched =
          ap (λ (b : Bool). b || met d.state.world v (d.state.cache p)) touched ∙ sym (ap (λ (b : Bool). b || meets d.state.world v (reads_of d.state.world p)) touched)
      by false untouched = ap (λ (b : Bool). d.touched p || b) (met_is d holds v p n dated untouched)

  after_history : (d : Told) → Holds d → (v : World) (vs : List (Version World)) → History vs d.steps d.state.world d.dates d.touched
      → History vs (d.steps ++ v ∷ []) v d.dates (λ p. d.touched p || met d.state.world v (d.state.cache p))
  after_history d holds v [] h = h
  after_history d holds v (new ∷ older) h = (
    last_more new.world d.steps v,
    λ p n dated. touched_more d holds new h.0 v p n dated (h.1 p n dated),
    h.2,
    h.3,
  )

  after_batch : (d : Told) → Holds d → (v : World) → Holds (dated_step entry_of reads_of listed same meets root levels d (batch v))
  after_batch d holds v = record {
    right = after_event entry_of reads_of listed same meets are d.state holds.right (accepted v);
    kept = holds.kept;
    marked = λ p n dated is. or_lifted (d.state.marked p) (d.touched p) (met d.state.world v (d.state.cache p)) (holds.marked p n dated) is;
    history = after_history d holds v d.versions holds.history;
  }

  -- ---- workers

  -- the state changes, and the world stays
  with_state : (d : Told) → Holds d → (s : Stage) → IsRight entry_of reads_of s → s.world ≡ d.state.world
      → ((p : Place) (n : ℕ) → d.dates p ≡ Some n → (k : Kept Entry Key) × (s.cache p ≡ Some k))
      → ((p : Place) (n : ℕ) → d.dates p ≡ Some n → s.marked p ≡ true → d.touched p ≡ true)
      → Holds (record d { state = s })
  with_state d holds s right world kept marked = record {
    right = right;
    kept = kept;
    marked = marked;
    history = subst (λ (w : World). History d.versions d.steps w d.dates d.touched) (sym world) holds.history;
  }

  kept_at : (d : Told) → Holds d → (p : Place) (f : Flight Entry Key) (q : Place) (n : ℕ) → d.dates q ≡ Some n → (k : Kept Entry Key) × (with_value same p (Some f.kept) d.state.cache q ≡ Some k)
  kept_at d holds p f q n dated = by (same p q)
    where
      by : (b : Bool) → (k : Kept Entry Key) × (elim b as (λ _. Option (Kept Entry Key)) [ true ↦ Some f.kept | false ↦ d.state.cache q ] ≡ Some k)
      by true = (f.kept, refl)
      by false = holds.kept q n dated

  marked_at : (d : Told) → Holds d → (p q : Place) (n : ℕ) → d.dates q ≡ Some n → with_value same p false d.state.marked q ≡ true → d.touched q ≡ true
  marked_at d holds p q n dated is = by (same p q) is
    where
      by : (b : Bool) → elim b as (λ _. Bool) [ true ↦ false | false ↦ d.state.marked q ] ≡ true → d.touched q ≡ true
      by true h = absurd (true≢false (sym h))
      by false h = holds.marked q n dated h

  after_end : (d : Told) → Holds d → (p : Place) → Holds (record d { state = step entry_of reads_of listed same meets d.state (ended p) })
  after_end d holds p =
      with_state d holds (step entry_of reads_of listed same meets d.state (ended p)) (after_event entry_of reads_of listed same meets are d.state holds.right (ended p))
      (same_world entry_of reads_of listed same meets are d.state p (d.state.flights p)) (kept_by (d.state.flights p)) (marked_by (d.state.flights p))
    where
      kept_by : (o : Option (Flight Entry Key)) (q : Place) (n : ℕ) → d.dates q ≡ Some n → (k : Kept Entry Key) × ((after_flight entry_of reads_of listed same meets d.state p o).cache q ≡ Some k)
      kept_by None q n dated = holds.kept q n dated
      kept_by (Some f) q n dated = by f.is_stale
        where
          by : (b : Bool) → (k : Kept Entry Key) × ((elim b as (λ _. Stage) [
            | true ↦ record d.state { flights = with_value same p None d.state.flights }
            | false ↦ record d.state { cache = with_value same p (Some f.kept) d.state.cache; marked = with_value same p false d.state.marked; flights = with_value same p None d.state.flights }
          ]).cache q ≡ Some k)
          by true = holds.kept q n dated
          by false = kept_at d holds p f q n dated

      marked_by : (o : Option (Flight Entry Key)) (q : Place) (n : ℕ) → d.dates q ≡ Some n → (after_flight entry_of reads_of listed same meets d.state p o).marked q ≡ true → d.touched q ≡ true
      marked_by None q n dated is = holds.marked q n dated is
      marked_by (Some f) q n dated is = by f.is_stale is
        where
          by : (b : Bool) → (elim b as (λ _. Stage) [
            | true ↦ record d.state { flights = with_value same p None d.state.flights }
            | false ↦ record d.state { cache = with_value same p (Some f.kept) d.state.cache; marked = with_value same p false d.state.marked; flights = with_value same p None d.state.flights }
          ]).marked q ≡ true → d.touched q ≡ true
          by true h = holds.marked q n dated h
          by false h = marked_at d holds p q n dated h

  -- ---- publishing

  -- a place that is on one of these lists is clean, where each place of each list is
  clean_in_joined : (s : Stage) (q : Place) (f : Place → Option Items) → ((x : Place) (ys : Items) → f x ≡ Some ys → among ys q ≡ true → (e : Entry) × (clean entry_of reads_of listed same meets s q ≡ Some e))
      → (xs : List Place) (zs : Items) → all_joined (map f xs) ≡ Some zs → among zs q ≡ true → (e : Entry) × (clean entry_of reads_of listed same meets s q ≡ Some e)
  clean_in_joined s q f each [] zs h has = absurd (true≢false (sym has ∙ ap (λ (ys : Items). among ys q) (sym (some_same [] zs h))))
  clean_in_joined s q f each (x ∷ xs) zs h has = by (clean_in_joined s q f each xs) (f x) refl h
    where
      by_rest : ((r : Items) → all_joined (map f xs) ≡ Some r → among r q ≡ true → (e : Entry) × (clean entry_of reads_of listed same meets s q ≡ Some e)) → (ys : Items) → f x ≡ Some ys
          → (rest : Option Items) → all_joined (map f xs) ≡ rest → option_map (λ r. ys ++ r) rest ≡ Some zs → (e : Entry) × (clean entry_of reads_of listed same meets s q ≡ Some e)
      by_rest more ys there None rest e = absurd cc
      by_rest more ys there (Some r) rest e = cases (or_cases (among ys q) (among r q) (sym (list_any-append (λ x. same x.0 q) ys r) ∙ ap (λ (l : Items). among l q) (some_same (ys ++ r) zs e) ∙ has))
        where
          cases : (among ys q ≡ true) ⊎ (among r q ≡ true) → (e : Entry) × (clean entry_of reads_of listed same meets s q ≡ Some e)
          cases (inl here) = each x ys there here
          cases (inr further) = more r rest further

      by : ((r : Items) → all_joined (map f xs) ≡ Some r → among r q ≡ true → (e : Entry) × (clean entry_of reads_of listed same meets s q ≡ Some e)) → (o : Option Items) → f x ≡ o
          → all_joined (o ∷ map f xs) ≡ Some zs → (e : Entry) × (clean entry_of reads_of listed same meets s q ≡ Some e)
      by more None there e = absurd cc
      by more (Some ys) there e = by_rest more ys there (all_joined (map f xs)) refl e

  -- what is published is clean
  clean_in : (s : Stage) (q : Place) (n : ℕ) (p : Place) (items : Items) → published entry_of reads_of listed same meets n s p ≡ Some items → among items q ≡ true
      → (e : Entry) × (clean entry_of reads_of listed same meets s q ≡ Some e)
  unfolding published
  clean_in s q zero p items h has = absurd (true≢false (sym has ∙ ap (λ (ys : Items). among ys q) (sym (some_same [] items h))))
  clean_in s q (suc n) p items h has = by (clean_in s q n) (clean entry_of reads_of listed same meets s p) refl h
    where
      by_list : ((x : Place) (ys : Items) → published entry_of reads_of listed same meets n s x ≡ Some ys → among ys q ≡ true → (e : Entry) × (clean entry_of reads_of listed same meets s q ≡ Some e))
          → (e : Entry) → clean entry_of reads_of listed same meets s p ≡ Some e → (o : Option Items) → all_joined (map (published entry_of reads_of listed same meets n s) (listed p e)) ≡ o
          → option_map (λ below. (p, e) ∷ below) o ≡ Some items → (e : Entry) × (clean entry_of reads_of listed same meets s q ≡ Some e)
      by_list deeper e is None below h = absurd cc
      by_list deeper e is (Some rest) below h = cases (or_cases (same p q) (among rest q) (ap (λ (ys : Items). among ys q) (some_same ((p, e) ∷ rest) items h) ∙ has))
        where
          cases : (same p q ≡ true) ⊎ (among rest q ≡ true) → (e : Entry) × (clean entry_of reads_of listed same meets s q ≡ Some e)
          cases (inl here) = (e, subst (λ (x : Place). clean entry_of reads_of listed same meets s x ≡ Some e) (are.one_place p q here) is)
          cases (inr further) = clean_in_joined s q (published entry_of reads_of listed same meets n s) deeper (listed p e) rest below further

      by : ((x : Place) (ys : Items) → published entry_of reads_of listed same meets n s x ≡ Some ys → among ys q ≡ true → (e : Entry) × (clean entry_of reads_of listed same meets s q ≡ Some e))
          → (o : Option Entry) → clean entry_of reads_of listed same meets s p ≡ o
          → elim o as (λ _. Option Items) [ None ↦ None | Some e ↦ option_map (λ below. (p, e) ∷ below) (all_joined (map (published entry_of reads_of listed same meets n s) (listed p e))) ] ≡ Some items
          → (e : Entry) × (clean entry_of reads_of listed same meets s q ≡ Some e)
      by deeper None is e = absurd cc
      by deeper (Some e) is h = by_list deeper e is (all_joined (map (published entry_of reads_of listed same meets n s) (listed p e))) refl h

  -- a clean place is kept and not marked
  clean_is : (s : Stage) (q : Place) (e : Entry) → clean entry_of reads_of listed same meets s q ≡ Some e → (s.marked q ≡ false) × ((k : Kept Entry Key) × (s.cache q ≡ Some k))
  clean_is s q e h = by (s.marked q) refl h
    where
      by_kept : s.marked q ≡ false → (o : Option (Kept Entry Key)) → s.cache q ≡ o → option_map (λ k. k.entry) o ≡ Some e → (s.marked q ≡ false) × ((k : Kept Entry Key) × (s.cache q ≡ Some k))
      by_kept unmarked None is x = absurd cc
      by_kept unmarked (Some k) is x = (unmarked, (k, is))

      by : (b : Bool) → s.marked q ≡ b → elim b as (λ _. Option Entry) [ true ↦ None | false ↦ option_map (λ k. k.entry) (s.cache q) ] ≡ Some e
          → (s.marked q ≡ false) × ((k : Kept Entry Key) × (s.cache q ≡ Some k))
      by true is x = absurd cc
      by false is x = by_kept is (s.cache q) refl x

  module _ (d : Told) (holds : Holds d) (items : Items) (shown : published entry_of reads_of listed same meets levels d.state root ≡ Some items) where
    its_stage : items ≡ walked_below entry_of listed levels d.state.world root
    its_stage = published_is entry_of reads_of listed same meets are d.state holds.right levels root items shown

    clean_there : (q : Place) → among items q ≡ true → (d.state.marked q ≡ false) × ((k : Kept Entry Key) × (d.state.cache q ≡ Some k))
    clean_there q has = let one = clean_in d.state q levels root items shown has in clean_is d.state q one.0 one.1

    -- the place has a date after it
    is_there : (q : Place) (n date_there : ℕ) (b : Bool) → elim b as (λ _. Option ℕ) [ true ↦ Some date_there | false ↦ None ] ≡ Some n → b ≡ true
    is_there q n date_there true h = refl
    is_there q n date_there false h = absurd cc

    kept_still : (q : Place) (b : Bool) → among items q ≡ b → b ≡ true → (k : Kept Entry Key) × (elim b as (λ _. Option (Kept Entry Key)) [ true ↦ d.state.cache q | false ↦ None ] ≡ Some k)
    kept_still q true is there = (clean_there q is).1
    kept_still q false is there = absurd (true≢false (sym there))

    none_marked : (q : Place) (b : Bool) → among items q ≡ b → elim b as (λ _. Bool) [ true ↦ d.state.marked q | false ↦ false ] ≡ true → ⊥
    none_marked q true is h = true≢false (sym h ∙ (clean_there q is).0)
    none_marked q false is h = true≢false (sym h)

    right_still : IsRight entry_of reads_of (after_publish entry_of reads_of listed same meets root levels d (Some items)).state
    right_still = record {
      cached = λ q k there unmarked. by q k (among items q) there unmarked;
      flying = holds.right.flying;
    }
      where
        by : (q : Place) (k : Kept Entry Key) (b : Bool) → elim b as (λ _. Option (Kept Entry Key)) [ true ↦ d.state.cache q | false ↦ None ] ≡ Some k
            → elim b as (λ _. Bool) [ true ↦ d.state.marked q | false ↦ false ] ≡ false → (k.entry ≡ entry_of d.state.world q) × (k.reads ≡ reads_of d.state.world q)
        by q k true there unmarked = holds.right.cached q k there unmarked
        by q k false there unmarked = absurd cc

    has_date : (q : Place) (date_there : ℕ) (b : Bool) → is_some (elim b as (λ _. Option ℕ) [ true ↦ Some date_there | false ↦ None ]) ≡ b
    has_date q date_there true = refl
    has_date q date_there false = refl

    abbrev next : Version World
    next = record { world = d.state.world; steps = d.steps }

    -- the date of a place on the next version, by what is told of it before
    date_is : (vs : List (Version World)) → History vs d.steps d.state.world d.dates d.touched → (q : Place)
        → elim (d.dates q) as (λ _. ℕ) [ None ↦ length vs | Some n ↦ elim (d.touched q) as (λ _. ℕ) [ true ↦ length vs | false ↦ n ] ] ≡ date (next ∷ vs) q
    date_is [] h q = ap (λ (o : Option ℕ). elim o as (λ _. ℕ) [ None ↦ 0 | Some n ↦ elim (d.touched q) as (λ _. ℕ) [ true ↦ 0 | false ↦ n ] ]) (h q)
    date_is (old ∷ older) h q = by (d.dates q) refl
      where
        abbreviated : Bool → Bool → ℕ
        abbreviated there changed = elim (not there || changed) as (λ _. ℕ) [ true ↦ length (old ∷ older) | false ↦ date (old ∷ older) q ]

        by_touch : (n : ℕ) → d.dates q ≡ Some n → (b : Bool) → along old.world d.steps q ≡ b → elim b as (λ _. ℕ) [ true ↦ length (old ∷ older) | false ↦ n ] ≡ abbreviated true (along old.world d.steps q)
        by_touch n is true changed = sym (ap (λ (c : Bool). abbreviated true c) changed)
        by_touch n is false changed = h.3 q n is ∙ sym (ap (λ (c : Bool). abbreviated true c) changed)

        by : (o : Option ℕ) → d.dates q ≡ o
            → elim o as (λ _. ℕ) [ None ↦ length (old ∷ older) | Some n ↦ elim (d.touched q) as (λ _. ℕ) [ true ↦ length (old ∷ older) | false ↦ n ] ] ≡ abbreviated (on old.world q) (along old.world d.steps q)
        by None is =
            let away : false ≡ on old.world q = ap is_some (sym is) ∙ h.2 q in
            ap (λ (there : Bool). abbreviated there (along old.world d.steps q)) away
        by (Some n) is =
            let there : true ≡ on old.world q = ap is_some (sym is) ∙ h.2 q in
            ap (λ (b : Bool). elim b as (λ _. ℕ) [ true ↦ length (old ∷ older) | false ↦ n ]) (h.1 q n is)
            ∙ by_touch n is (along old.world d.steps q) refl
            ∙ ap (λ (b : Bool). abbreviated b (along old.world d.steps q)) there

    dated_next : (q : Place) (n : ℕ) (b : Bool) → elim b as (λ _. Option ℕ) [ true ↦ Some (date_after entry_of reads_of listed same meets root levels d q) | false ↦ None ] ≡ Some n → n ≡ date (next ∷ d.versions) q
    dated_next q n true h = sym (some_same (date_after entry_of reads_of listed same meets root levels d q) n h) ∙ date_is d.versions holds.history q
    dated_next q n false h = absurd cc

    after_shown : Holds (after_publish entry_of reads_of listed same meets root levels d (Some items))
    after_shown = record {
      right = right_still;
      kept = λ q n dated. kept_still q (among items q) refl (is_there q n (date_after entry_of reads_of listed same meets root levels d q) (among items q) dated);
      marked = λ q n dated is. absurd (none_marked q (among items q) refl is);
      history = (
        refl,
        λ q n dated. refl,
        λ q. has_date q (date_after entry_of reads_of listed same meets root levels d q) (among items q) ∙ ap (λ (ys : Items). among ys q) its_stage,
        λ q n dated. dated_next q n (among items q) dated,
      );
    }

  after_publishing : (d : Told) → Holds d → Holds (dated_step entry_of reads_of listed same meets root levels d publishes)
  after_publishing d holds = by (published entry_of reads_of listed same meets levels d.state root) refl
    where
      by : (o : Option Items) → published entry_of reads_of listed same meets levels d.state root ≡ o → Holds (after_publish entry_of reads_of listed same meets root levels d o)
      by None is = holds
      by (Some items) is = after_shown d holds items is

  -- ---- all happenings

  after_happening : (d : Told) → Holds d → (h : Happening World Place) → Holds (dated_step entry_of reads_of listed same meets root levels d h)
  after_happening d holds (batch v) = after_batch d holds v
  after_happening d holds refusal = holds
  after_happening d holds (begins p) =
      with_state d holds (step entry_of reads_of listed same meets d.state (begun p)) (after_event entry_of reads_of listed same meets are d.state holds.right (begun p)) refl holds.kept holds.marked
  after_happening d holds (ends p) = after_end d holds p
  after_happening d holds (gives_up p) =
      with_state d holds (step entry_of reads_of listed same meets d.state (given_up p)) (after_event entry_of reads_of listed same meets are d.state holds.right (given_up p)) refl holds.kept holds.marked
  after_happening d holds publishes = after_publishing d holds

  after_all : (d : Told) → Holds d → (hs : List (Happening World Place)) → Holds (dated_run entry_of reads_of listed same meets root levels d hs)
  after_all d holds [] = holds
  after_all d holds (h ∷ hs) = after_all (dated_step entry_of reads_of listed same meets root levels d h) (after_happening d holds h) hs

  at_first : (w : World) → Holds (dated_opened entry_of reads_of listed same meets root levels w)
  at_first w = record {
    right = opened_right entry_of reads_of listed same meets are w;
    kept = λ p n dated. absurd cc;
    marked = λ p n dated is. absurd cc;
    history = λ p. refl;
  }

  always : (w : World) (hs : List (Happening World Place)) → Holds (dated_run entry_of reads_of listed same meets root levels (dated_opened entry_of reads_of listed same meets root levels w) hs)
  always w hs = after_all (dated_opened entry_of reads_of listed same meets root levels w) (at_first w) hs

  pub always_right : (w : World) (hs : List (Happening World Place)) → IsRight entry_of reads_of (dated_run entry_of reads_of listed same meets root levels (dated_opened entry_of reads_of listed same meets root levels w) hs).state
  always_right w hs = (always w hs).right

  places_by : (d : Told) (vs : List (Version World)) → History vs d.steps d.state.world d.dates d.touched → DatesItsStage on d vs
  places_by d [] h = λ p. ap is_some (h p)
  places_by d (new ∷ older) h = h.2

  pub always_there : (w : World) (hs : List (Happening World Place))
      → DatesItsStage on (dated_run entry_of reads_of listed same meets root levels (dated_opened entry_of reads_of listed same meets root levels w) hs)
      (dated_run entry_of reads_of listed same meets root levels (dated_opened entry_of reads_of listed same meets root levels w) hs).versions
  always_there w hs =
      let d : Told = dated_run entry_of reads_of listed same meets root levels (dated_opened entry_of reads_of listed same meets root levels w) hs in
      places_by d d.versions (always w hs).history

  dates_by : (d : Told) (vs : List (Version World)) → History vs d.steps d.state.world d.dates d.touched → (p : Place) (n : ℕ) → d.dates p ≡ Some n → n ≡ date vs p
  dates_by d [] h p n dated = absurd (none_some (sym (h p) ∙ dated))
    where
      none_some : None ≡ Some n → ⊥
      none_some e = absurd cc
  dates_by d (new ∷ older) h p n dated = h.3 p n dated

  pub always_dated : (w : World) (hs : List (Happening World Place)) (p : Place) (n : ℕ)
      → (dated_run entry_of reads_of listed same meets root levels (dated_opened entry_of reads_of listed same meets root levels w) hs).dates p ≡ Some n
      → n ≡ date (dated_run entry_of reads_of listed same meets root levels (dated_opened entry_of reads_of listed same meets root levels w) hs).versions p
  always_dated w hs p n dated =
      let d : Told = dated_run entry_of reads_of listed same meets root levels (dated_opened entry_of reads_of listed same meets root levels w) hs in
      dates_by d d.versions (always w hs).history p n dated

pub dates_are_right : (World Place Key Entry : Type 0) → DatesAreRight World Place Key Entry
dates_are_right World Place Key Entry = record {
  right = λ entry_of reads_of listed same meets are root levels w hs. always_right entry_of reads_of listed same meets are root levels w hs;
  places = λ entry_of reads_of listed same meets are root levels w hs. always_there entry_of reads_of listed same meets are root levels w hs;
  dates = λ entry_of reads_of listed same meets are root levels w hs p n dated. always_dated entry_of reads_of listed same meets are root levels w hs p n dated;
}

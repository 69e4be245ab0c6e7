-- A kept stage is right after any events, and what is published of it is what is composed from scratch.
use Rattle.std.proofs.Common.{◌≡◌, refl, sym, ap, ◌∙◌, subst, ℕ, zero, suc, Bool, true, false, true≢false, ◌||◌, List, [], ◌∷◌, ◌++◌, map, flat_map, Option, Some, None}
use Rattle.std.specs.Option.{option_map}
use Rattle.compose_api.specs.Stage.{walked as walked_below}
use Rattle.kept_stages.specs.Machine.{Kept, Flight, State, Event, accepted, refused, begun, ended, given_up, forgotten, with_value, all_joined, composed, meets_kept, flight_after, after_flight, step, run, opened, clean, published, world_after}
use Rattle.kept_stages.specs.Laws.{AreComposed, IsRight, KeptIsComposed}

pub neither : (a b : Bool) → (a || b) ≡ false → (a ≡ false) × (b ≡ false)
neither true b h = absurd (true≢false h)
neither false b h = (refl, h)

pub some_same : {A : Type 0} (x y : A) → Some x ≡ Some y → x ≡ y
some_same {A} x y e = ap of e
  where
    of : Option A → A
    of None = x
    of (Some z) = z

module _ {World Place Key Entry : Type 0} (entry_of : World → Place → Entry) (reads_of : World → Place → List Key) (listed : Place → Entry → List Place) (same : Place → Place → Bool)
    (meets : World → World → List Key → Bool) (are : AreComposed entry_of reads_of same meets) where
  abbrev Stage : Type 0
  Stage = State World Place Key Entry

  abbrev Right : Stage → Type 0
  Right s = IsRight entry_of reads_of s

  -- what is kept is what is composed there
  abbrev IsOf : World → Place → Kept Entry Key → Type 0
  IsOf w p k = (k.entry ≡ entry_of w p) × (k.reads ≡ reads_of w p)

  -- a batch that changes nothing of what is kept leaves it as it would be composed anew
  stays : (w v : World) (p : Place) (k : Kept Entry Key) → IsOf w p k → meets w v k.reads ≡ false → IsOf v p k
  stays w v p k is none =
      let same_there = are.covered w v p (subst (λ (keys : List Key). meets w v keys ≡ false) is.1 none) in
      (is.0 ∙ sym same_there.0, is.1 ∙ sym same_there.1)

  -- ---- batches

  kept_after : (s : Stage) → Right s → (v : World) (p : Place) (k : Kept Entry Key) → s.cache p ≡ Some k → (s.marked p || meets_kept entry_of reads_of listed same meets s.world v (s.cache p)) ≡ false → IsOf v p k
  kept_after s right v p k there none =
      let both = neither (s.marked p) (meets_kept entry_of reads_of listed same meets s.world v (s.cache p)) none in
      let unmet : meets s.world v k.reads ≡ false = subst (λ (o : Option (Kept Entry Key)). meets_kept entry_of reads_of listed same meets s.world v o ≡ false) there both.1 in
      stays s.world v p k (right.cached p k there both.0) unmet

  flown_after : (w v : World) (p : Place) (before : Option (Flight Entry Key)) → ((g : Flight Entry Key) → before ≡ Some g → g.is_stale ≡ false → IsOf w p g.kept)
      → (f : Flight Entry Key) → flight_after entry_of reads_of listed same meets w v before ≡ Some f → f.is_stale ≡ false → IsOf v p f.kept
  flown_after w v p None right f there fresh = absurd cc
  flown_after w v p (Some g) right f there fresh =
      let is : record g { is_stale = g.is_stale || meets w v g.kept.reads } ≡ f = some_same (record g { is_stale = g.is_stale || meets w v g.kept.reads }) f there in
      let both = neither g.is_stale (meets w v g.kept.reads) (ap (λ (x : Flight Entry Key). x.is_stale) is ∙ fresh) in
      subst (λ (x : Flight Entry Key). IsOf v p x.kept) is (stays w v p g.kept (right g refl both.0) both.1)

  after_batch : (s : Stage) → Right s → (v : World) → Right (step entry_of reads_of listed same meets s (accepted v))
  after_batch s right v = record {
    cached = λ p k there none. kept_after s right v p k there none;
    flying = λ p f there fresh. flown_after s.world v p (s.flights p) (λ g is. right.flying p g is) f there fresh;
  }

  -- ---- workers

  at_place : {A : Type 0} (p q : Place) (x : A) (f : Place → A) (P : A → Type 0) → ((h : p ≡ q) → P x) → P (f q) → P (with_value same p x f q)
  at_place {A} p q x f P here there = by (same p q) refl
    where
      by : (b : Bool) → same p q ≡ b → P (elim b as (λ _. A) [ true ↦ x | false ↦ f q ])
      by true is = here (are.one_place p q is)
      by false is = there

  no_flight : (s : Stage) → Right s → (p : Place) → Right (record s { flights = with_value same p None s.flights })
  no_flight s right p = record {
    cached = right.cached;
    flying = λ q f there fresh. at_place p q None s.flights (λ (o : Option (Flight Entry Key)). o ≡ Some f → IsOf s.world q f.kept) (λ h is. absurd cc) (λ is. right.flying q f is fresh) there;
  }

  after_begun : (s : Stage) → Right s → (p : Place) → Right (step entry_of reads_of listed same meets s (begun p))
  after_begun s right p = record {
    cached = right.cached;
    flying = λ q f there fresh.
        at_place p q (Some (record { kept = composed entry_of reads_of listed same meets s.world p; is_stale = false })) s.flights (λ (o : Option (Flight Entry Key)). o ≡ Some f → IsOf s.world q f.kept)
        (λ h is. new q f h (some_same (record { kept = composed entry_of reads_of listed same meets s.world p; is_stale = false }) f is)) (λ is. right.flying q f is fresh) there;
  }
    where
      new : (q : Place) (f : Flight Entry Key) → p ≡ q → record { kept = composed entry_of reads_of listed same meets s.world p; is_stale = false } ≡ f → IsOf s.world q f.kept
      new q f h is = (
        sym (ap (λ (x : Flight Entry Key). x.kept.entry) is) ∙ ap (λ (x : Place). entry_of s.world x) h,
        sym (ap (λ (x : Flight Entry Key). x.kept.reads) is) ∙ ap (λ (x : Place). reads_of s.world x) h,
      )

  kept_now : (s : Stage) → Right s → (p : Place) (g : Flight Entry Key) → s.flights p ≡ Some g → g.is_stale ≡ false
      → Right (record s { cache = with_value same p (Some g.kept) s.cache; marked = with_value same p false s.marked; flights = with_value same p None s.flights })
  kept_now s right p g flies fresh = record {
    cached = λ q k there unmarked. now q k (same p q) refl there unmarked;
    flying = (no_flight s right p).flying;
  }
    where
      now : (q : Place) (k : Kept Entry Key) (b : Bool) → same p q ≡ b → elim b as (λ _. Option (Kept Entry Key)) [ true ↦ Some g.kept | false ↦ s.cache q ] ≡ Some k
          → elim b as (λ _. Bool) [ true ↦ false | false ↦ s.marked q ] ≡ false → IsOf s.world q k
      now q k true is there unmarked =
          let at : p ≡ q = are.one_place p q is in
          let its : IsOf s.world p g.kept = right.flying p g flies fresh in
          subst (λ (x : Kept Entry Key). IsOf s.world q x) (some_same g.kept k there) (subst (λ (x : Place). IsOf s.world x g.kept) at its)
      now q k false is there unmarked = right.cached q k there unmarked

  after_ended : (s : Stage) → Right s → (p : Place) → Right (step entry_of reads_of listed same meets s (ended p))
  after_ended s right p = by (s.flights p) refl
    where
      by_stale : (g : Flight Entry Key) → s.flights p ≡ Some g → (b : Bool) → g.is_stale ≡ b → Right (elim b as (λ _. Stage) [
        | true ↦ record s { flights = with_value same p None s.flights }
        | false ↦ record s { cache = with_value same p (Some g.kept) s.cache; marked = with_value same p false s.marked; flights = with_value same p None s.flights }
      ])
      by_stale g flies true is = no_flight s right p
      by_stale g flies false is = kept_now s right p g flies is

      by : (o : Option (Flight Entry Key)) → s.flights p ≡ o → Right (after_flight entry_of reads_of listed same meets s p o)
      by None is = right
      by (Some g) is = by_stale g is g.is_stale refl

  after_forgotten : (s : Stage) → Right s → (p : Place) → Right (step entry_of reads_of listed same meets s (forgotten p))
  after_forgotten s right p = record {
    cached = λ q k there unmarked. at_place p q None s.cache (λ (o : Option (Kept Entry Key)). o ≡ Some k → IsOf s.world q k) (λ h is. absurd cc) (λ is. right.cached q k is unmarked) there;
    flying = right.flying;
  }

  -- ---- all events

  pub after_event : (s : Stage) → Right s → (e : Event World Place) → Right (step entry_of reads_of listed same meets s e)
  after_event s right (accepted v) = after_batch s right v
  after_event s right refused = right
  after_event s right (begun p) = after_begun s right p
  after_event s right (ended p) = after_ended s right p
  after_event s right (given_up p) = no_flight s right p
  after_event s right (forgotten p) = after_forgotten s right p

  after_events : (s : Stage) → Right s → (es : List (Event World Place)) → Right (run entry_of reads_of listed same meets s es)
  after_events s right [] = right
  after_events s right (e ∷ es) = after_events (step entry_of reads_of listed same meets s e) (after_event s right e) es

  pub opened_right : (w : World) → Right (opened entry_of reads_of listed same meets w)
  opened_right w = record { cached = λ p k there unmarked. absurd cc; flying = λ p f there fresh. absurd cc }

  pub always_right : (w : World) (es : List (Event World Place)) → Right (run entry_of reads_of listed same meets (opened entry_of reads_of listed same meets w) es)
  always_right w es = after_events (opened entry_of reads_of listed same meets w) (opened_right w) es

  -- ---- the world

  pub same_world : (s : Stage) (p : Place) (o : Option (Flight Entry Key)) → (after_flight entry_of reads_of listed same meets s p o).world ≡ s.world
  same_world s p None = refl
  same_world s p (Some f) = by f.is_stale
    where
      by : (b : Bool) → (elim b as (λ _. Stage) [
        | true ↦ record s { flights = with_value same p None s.flights }
        | false ↦ record s { cache = with_value same p (Some f.kept) s.cache; marked = with_value same p false s.marked; flights = with_value same p None s.flights }
      ]).world ≡ s.world
      by true = refl
      by false = refl

  its_world : (s : Stage) (es : List (Event World Place)) → (run entry_of reads_of listed same meets s es).world ≡ world_after s.world es
  its_world s [] = refl
  its_world s (accepted v ∷ es) = its_world (step entry_of reads_of listed same meets s (accepted v)) es
  its_world s (refused ∷ es) = its_world s es
  its_world s (begun p ∷ es) = its_world (step entry_of reads_of listed same meets s (begun p)) es
  its_world s (ended p ∷ es) =
      its_world (step entry_of reads_of listed same meets s (ended p)) es ∙ ap (λ (w : World). world_after w es) (same_world s p (s.flights p))
  its_world s (given_up p ∷ es) = its_world (step entry_of reads_of listed same meets s (given_up p)) es
  its_world s (forgotten p ∷ es) = its_world (step entry_of reads_of listed same meets s (forgotten p)) es

  -- ---- publishing

  its_entry : (s : Stage) → Right s → (p : Place) (e : Entry) → clean entry_of reads_of listed same meets s p ≡ Some e → e ≡ entry_of s.world p
  its_entry s right p e there = by (s.marked p) refl there
    where
      by_kept : s.marked p ≡ false → (o : Option (Kept Entry Key)) → s.cache p ≡ o → option_map (λ k. k.entry) o ≡ Some e → e ≡ entry_of s.world p
      by_kept unmarked None is h = absurd cc
      by_kept unmarked (Some k) is h = sym (some_same k.entry e h) ∙ (right.cached p k is unmarked).0

      by : (b : Bool) → s.marked p ≡ b → elim b as (λ _. Option Entry) [ true ↦ None | false ↦ option_map (λ k. k.entry) (s.cache p) ] ≡ Some e → e ≡ entry_of s.world p
      by true is h = absurd cc
      by false is h = by_kept is (s.cache p) refl h

  -- what all lists together are, where each is what it should be
  joined_is : {A B : Type 0} (f : A → Option (List B)) (g : A → List B) → ((x : A) (ys : List B) → f x ≡ Some ys → ys ≡ g x) → (xs : List A) (zs : List B)
      → all_joined (map f xs) ≡ Some zs → zs ≡ flat_map g xs
  joined_is f g is [] zs h = sym (some_same [] zs h)
  joined_is {A} {B} f g is (x ∷ xs) zs h = by (joined_is f g is xs) (f x) refl h
    where
      by_rest : ((r : List B) → all_joined (map f xs) ≡ Some r → r ≡ flat_map g xs) → (ys : List B) → f x ≡ Some ys → (rest : Option (List B)) → all_joined (map f xs) ≡ rest
          → option_map (λ r. ys ++ r) rest ≡ Some zs → zs ≡ g x ++ flat_map g xs
      by_rest more ys there None rest e = absurd cc
      by_rest more ys there (Some r) rest e =
          let first : ys ≡ g x = is x ys there in
          let others : r ≡ flat_map g xs = more r rest in
          sym (some_same (ys ++ r) zs e) ∙ (λ i. first i ++ others i)

      by : ((r : List B) → all_joined (map f xs) ≡ Some r → r ≡ flat_map g xs) → (o : Option (List B)) → f x ≡ o → all_joined (o ∷ map f xs) ≡ Some zs → zs ≡ g x ++ flat_map g xs
      by more None there e = absurd cc
      by more (Some ys) there e = by_rest more ys there (all_joined (map f xs)) refl e

  -- what is published at a place, for so many levels, is what is composed there
  abbrev Published : Stage → ℕ → Type 0
  Published s levels = (q : Place) (below : List (Place × Entry)) → published entry_of reads_of listed same meets levels s q ≡ Some below → below ≡ walked_below entry_of listed levels s.world q

  pub published_is : (s : Stage) → Right s → (levels : ℕ) (p : Place) (items : List (Place × Entry)) → published entry_of reads_of listed same meets levels s p ≡ Some items
      → items ≡ walked_below entry_of listed levels s.world p
  unfolding published walked_below
  published_is s right zero p items h = sym (some_same [] items h)
  published_is s right (suc levels) p items h = by (published_is s right levels) (clean entry_of reads_of listed same meets s p) refl h
    where
      by_list : Published s levels → (e : Entry) → e ≡ entry_of s.world p → (o : Option (List (Place × Entry))) → all_joined (map (published entry_of reads_of listed same meets levels s) (listed p e)) ≡ o
          → option_map (λ below. (p, e) ∷ below) o ≡ Some items → items ≡ (p, entry_of s.world p) ∷ flat_map (walked_below entry_of listed levels s.world) (listed p (entry_of s.world p))
      by_list deeper e is None below h = absurd cc
      by_list deeper e is (Some rest) below h =
          let others : rest ≡ flat_map (walked_below entry_of listed levels s.world) (listed p e) =
          joined_is (published entry_of reads_of listed same meets levels s) (walked_below entry_of listed levels s.world) deeper (listed p e) rest below in
          sym (some_same ((p, e) ∷ rest) items h)
          ∙ ap (λ (ys : List (Place × Entry)). (p, e) ∷ ys) others
          ∙ ap (λ (x : Entry). (p, x) ∷ flat_map (walked_below entry_of listed levels s.world) (listed p x)) is

      by : Published s levels → (o : Option Entry) → clean entry_of reads_of listed same meets s p ≡ o
          → elim o as (λ _. Option (List (Place × Entry))) [ None ↦ None | Some e ↦ option_map (λ below. (p, e) ∷ below) (all_joined (map (published entry_of reads_of listed same meets levels s) (listed p e))) ] ≡ Some items
          → items ≡ (p, entry_of s.world p) ∷ flat_map (walked_below entry_of listed levels s.world) (listed p (entry_of s.world p))
      by deeper None is e = absurd cc
      by deeper (Some e) is h = by_list deeper e (its_entry s right p e is) (all_joined (map (published entry_of reads_of listed same meets levels s) (listed p e))) refl h

  pub published_composed : (w : World) (es : List (Event World Place)) (levels : ℕ) (p : Place) (items : List (Place × Entry))
      → published entry_of reads_of listed same meets levels (run entry_of reads_of listed same meets (opened entry_of reads_of listed same meets w) es) p ≡ Some items
      → items ≡ walked_below entry_of listed levels (world_after w es) p
  published_composed w es levels p items h =
      let start : Stage = opened entry_of reads_of listed same meets w in
      published_is (run entry_of reads_of listed same meets start es) (always_right w es) levels p items h
      ∙ ap (λ (x : World). walked_below entry_of listed levels x p) (its_world start es)

pub kept_is_composed : (World Place Key Entry : Type 0) → KeptIsComposed World Place Key Entry
kept_is_composed World Place Key Entry = record {
  right = λ entry_of reads_of listed same meets are w es. always_right entry_of reads_of listed same meets are w es;
  published = λ entry_of reads_of listed same meets are w es levels p items h. published_composed entry_of reads_of listed same meets are w es levels p items h;
}

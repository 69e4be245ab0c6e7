-- The places that a table by site keeps are those that composition keeps.
use Rattle.std.proofs.Common.{◌≡◌, ◌∙◌, sym, ap, refl, subst, arith, ℕ, ◌+◌, ◌<◌, Bool, true, false, ◌||◌, cond, List, [], ◌∷◌, ◌++◌, append_assoc, length, length-append, map, Option, Some, None}
use Rattle.std.specs.Prelude.{◌==◌, nat_le, nat_lt, not, filter}
use Rattle.std.specs.List.{list_any}
use Rattle.std.specs.Option.{is_some, is_none}
use Rattle.std.proofs.lemmas.Bool.{and_from, eq-eqb, eqb-true}
use Rattle.std.proofs.lemmas.Bool.Decides.{nat_tests}
use Rattle.std.proofs.lemmas.List.{map-append}
use Rattle.composition.specs.Texts.{both}
use Rattle.composition.specs.Paths.{limits, same_path}
use Rattle.composition.specs.World.{StackName, Root, Asset, same_stack}
use Rattle.composition.specs.Trees.{Tree, node_of}
use Rattle.composition.specs.Strength.{Ranked, strong_of, weak_of, sites, best_places, not_among}
use Rattle.class_arcs.proofs.Sameness.{one_test}
use Rattle.site_order.specs.Best.{site_in, is_there, is_as_good, stands_at, better, next_best, best_from, kept_by, is_alone}
use Rattle.site_order.specs.Places.{beats, beats_later, kept_after}
use Rattle.site_order.specs.SiteKeys.{key_equal}
use Rattle.std.specs.Cmp.Lexicographic.{bytes_decides}
use Rattle.sdf_paths.specs.contracts.path.PathPartialEq.TheImpl.{ghosts as path_eq}
use Rattle.prim_view.specs.contracts.stack_name.StackNamePartialEq.TheImpl.{ghosts as stack_eq}
use Rattle.site_order.specs.contracts.best.SiteKeyPartialEq.TheImpl.{ghosts as key_eq}
use Rattle.site_order.specs.declared.best.SiteKey.{SiteKey}
use Rattle.site_order.specs.declared.best.Place.{Place}
use Rattle.site_order.proofs.Placing.{kept_is}
use Rattle.composition.proofs.Tests.{by_test, both_hold, both_parts}
use Rattle.composition.proofs.Same.{path_same, path_itself, path_test, stack_same, stack_itself}

-- ---- sites

name_itself : (a : StackName) → stack_eq.eq a a ≡ true
name_itself Root = refl
name_itself (Asset a) = (bytes_decides a a).1 refl

pub key_itself : (k : SiteKey) → key_eq.eq k k ≡ true
key_itself k = and_from (stack_eq.eq k.stack k.stack) (path_eq.eq k.path k.path) (name_itself k.stack) (path_test k.path k.path ∙ path_itself k.path)

there_itself : (x : Ranked) → is_there (site_in x.0) x ≡ true
there_itself x =
    both_hold (same_stack (node_of x.0).stack (node_of x.0).stack) (same_path (node_of x.0).path (node_of x.0).path) (stack_itself (node_of x.0).stack) (path_itself (node_of x.0).path)

there_same : (q : SiteKey) (x : Ranked) → is_there q x ≡ true → site_in x.0 ≡ q
there_same q x h =
    let parts = both_parts (same_stack (node_of x.0).stack q.stack) (same_path (node_of x.0).path q.path) h in
    let stack : (node_of x.0).stack ≡ q.stack = stack_same (node_of x.0).stack q.stack parts.0 in
    let path : (node_of x.0).path ≡ q.path = path_same (node_of x.0).path q.path parts.1 in
    λ i. record { stack = stack i; path = path i }

-- comparing sites tells which places are of one
there_is : (q : SiteKey) (x : Ranked) → ((k : SiteKey) → key_eq.eq k k ≡ true) → key_eq.eq (site_in x.0) q ≡ is_there q x
there_is q x itself =
    one_test (site_in x.0) q (key_eq.eq (site_in x.0) q) (is_there q x) (key_equal (site_in x.0) q) (there_same q x)
    (λ e. ap (λ k. key_eq.eq (site_in x.0) k) (sym e) ∙ itself (site_in x.0))
    (λ e. ap (λ k. is_there k x) (sym e) ∙ there_itself x)

-- a place is noted
pub noted : (q key : SiteKey) (x : Ranked) (at : ℕ) (old new : SiteKey → Option Place) (there : Place) → ((k : SiteKey) → key_eq.eq k k ≡ true) → key ≡ site_in x.0
    → (let made : Place = record { rank = x.1; at = at } in there ≡ made)
    → new q ≡ cond (is_as_good (old key) there.rank) (old q) (cond (key_eq.eq key q) (Some there) (old q)) → new q ≡ next_best q (old q) at x
noted q key x at old new there itself is made written =
    written
    ∙ (λ i. cond (is_as_good (old (is i)) (made i).rank) (old q) (cond (key_eq.eq (is i) q) (Some (made i)) (old q)))
    ∙ ap (λ b. cond (is_as_good (old (site_in x.0)) x.1) (old q) (cond b (Some (record { rank = x.1; at = at })) (old q))) (there_is q x itself)
    ∙ by_site (is_there q x) refl
  where
    one_choice : (o : Option Place) → cond (is_as_good o x.1) o (Some (record { rank = x.1; at = at })) ≡ better o x.1 at
    one_choice None = refl
    one_choice (Some p) = elim (nat_le p.rank x.1) as (λ b. cond b (Some p) (Some (record { rank = x.1; at = at })) ≡ (elim b as (λ _. Option Place) [ true ↦ Some p | false ↦ Some (record { rank = x.1; at = at }) ])) [ true ↦ refl | false ↦ refl ]

    stays : (b : Bool) → cond b (old q) (old q) ≡ old q
    stays true = refl
    stays false = refl

    by_site : (b : Bool) → is_there q x ≡ b
        → cond (is_as_good (old (site_in x.0)) x.1) (old q) (cond b (Some (record { rank = x.1; at = at })) (old q)) ≡ (elim b as (λ _. Option Place) [ true ↦ better (old q) x.1 at | false ↦ old q ])
    by_site true on = ap (λ k. cond (is_as_good (old k) x.1) (old q) (Some (record { rank = x.1; at = at }))) (there_same q x on) ∙ one_choice (old q)
    by_site false off = stays (is_as_good (old (site_in x.0)) x.1)

-- ---- the best place of a site

module _ (q : SiteKey) where
  pub best_append : (found : Option Place) (at : ℕ) (xs ys : List Ranked) → best_from q found at (xs ++ ys) ≡ best_from q (best_from q found at xs) (at + length xs) ys
  best_append found at [] ys =
      let same : at ≡ at + length {A = Ranked} [] = omega arith in
      ap (λ n. best_from q found n ys) same
  best_append found at (x ∷ xs) ys =
      let same : at + 1 + length xs ≡ at + length (x ∷ xs) = omega arith in
      best_append (next_best q found at x) (at + 1) xs ys ∙ ap (λ n. best_from q (best_from q found at (x ∷ xs)) n ys) same

  -- a place of no greater rank is found where there is one
  abbrev as_good_there : ℕ → Ranked → Bool
  as_good_there rank x = both (nat_le x.1 rank) (is_there q x)

  good_next : (o : Option Place) (b : Bool) (r at k : ℕ) → is_as_good (elim b as (λ _. Option Place) [ true ↦ better o r at | false ↦ o ]) k ≡ (is_as_good o k || both (nat_le r k) b)
  good_next o false r at k = none_more (is_as_good o k) (nat_le r k)
    where
      none_more : (g l : Bool) → g ≡ (g || both l false)
      none_more true l = refl
      none_more false true = refl
      none_more false false = refl
  good_next None true r at k = alone (nat_le r k)
    where
      alone : (l : Bool) → l ≡ (false || both l true)
      alone true = refl
      alone false = refl
  good_next (Some p) true r at k =
      let chosen : Bool → Bool = λ b. is_as_good (elim b as (λ _. Option Place) [ true ↦ Some p | false ↦ Some (record { rank = r; at = at }) ]) k in
      by_test (nat_le p.rank r)
      (λ on. ap chosen on ∙ old_stays (nat_le p.rank k) (nat_le r k) (low p.rank r k on))
      (λ off. ap chosen off ∙ new_comes (nat_le p.rank k) (nat_le r k) (high p.rank r k off))
    where
      low : (a b c : ℕ) → nat_le a b ≡ true → nat_le b c ≡ true → nat_le a c ≡ true
      low a b c h g = grind (arith, nat_tests)

      high : (a b c : ℕ) → nat_le a b ≡ false → nat_le a c ≡ true → nat_le b c ≡ true
      high a b c h g = grind (arith, nat_tests)

      old_stays : (old new : Bool) → (new ≡ true → old ≡ true) → old ≡ (old || both new true)
      old_stays true new f = refl
      old_stays false true f = f refl
      old_stays false false f = refl

      new_comes : (old new : Bool) → (old ≡ true → new ≡ true) → new ≡ (old || both new true)
      new_comes true new f = f refl
      new_comes false true f = refl
      new_comes false false f = refl

  pub good_all : (found : Option Place) (at k : ℕ) (xs : List Ranked) → is_as_good (best_from q found at xs) k ≡ (is_as_good found k || list_any (as_good_there k) xs)
  good_all found at k [] = last (is_as_good found k)
    where
      last : (b : Bool) → b ≡ (b || false)
      last true = refl
      last false = refl
  good_all found at k (x ∷ xs) =
      good_all (next_best q found at x) (at + 1) k xs
      ∙ ap (λ b. b || list_any (as_good_there k) xs) (good_next found (is_there q x) x.1 at k)
      ∙ grouped (is_as_good found k) (as_good_there k x) (list_any (as_good_there k) xs)
    where
      grouped : (a b c : Bool) → ((a || b) || c) ≡ (a || (b || c))
      grouped true b c = refl
      grouped false b c = refl

  -- what is found is where there is a place
  some_next : (o : Option Place) (b : Bool) (r at : ℕ) → is_some (elim b as (λ _. Option Place) [ true ↦ better o r at | false ↦ o ]) ≡ (is_some o || b)
  some_next None true r at = refl
  some_next None false r at = refl
  some_next (Some p) true r at = elim (nat_le p.rank r) as (λ b. is_some (elim b as (λ _. Option Place) [ true ↦ Some p | false ↦ Some (record { rank = r; at = at }) ]) ≡ true) [ true ↦ refl | false ↦ refl ]
  some_next (Some p) false r at = refl

  pub some_all : (found : Option Place) (at : ℕ) (xs : List Ranked) → is_some (best_from q found at xs) ≡ (is_some found || list_any (is_there q) xs)
  some_all found at [] = last (is_some found)
    where
      last : (b : Bool) → b ≡ (b || false)
      last true = refl
      last false = refl
  some_all found at (x ∷ xs) =
      some_all (next_best q found at x) (at + 1) xs
      ∙ ap (λ b. b || list_any (is_there q) xs) (some_next found (is_there q x) x.1 at)
      ∙ grouped (is_some found) (is_there q x) (list_any (is_there q) xs)
    where
      grouped : (a b c : Bool) → ((a || b) || c) ≡ (a || (b || c))
      grouped true b c = refl
      grouped false b c = refl

  -- what is found stands before the next place
  abbrev IsBefore : Option Place → ℕ → Type 0
  IsBefore None at = Unit {0}
  IsBefore (Some p) at = p.at < at

  before_next : (o : Option Place) (b : Bool) (r at : ℕ) → IsBefore o at → IsBefore (elim b as (λ _. Option Place) [ true ↦ better o r at | false ↦ o ]) (at + 1)
  before_next None true r at h = omega arith
  before_next None false r at h = tt
  before_next (Some p) false r at h = omega (arith, h)
  before_next (Some p) true r at h = by_rank (nat_le p.rank r)
    where
      by_rank : (c : Bool) → IsBefore (elim c as (λ _. Option Place) [ true ↦ Some p | false ↦ Some (record { rank = r; at = at }) ]) (at + 1)
      by_rank true = omega (arith, h)
      by_rank false = omega arith

  before_all : (found : Option Place) (at : ℕ) (xs : List Ranked) → IsBefore found at → IsBefore (best_from q found at xs) (at + length xs)
  before_all found at [] h =
      let same : at ≡ at + length {A = Ranked} [] = omega arith in
      subst (λ (n : ℕ). IsBefore found n) same h
  before_all found at (x ∷ xs) h =
      let same : at + 1 + length xs ≡ at + length (x ∷ xs) = omega arith in
      subst (λ (n : ℕ). IsBefore (best_from q (next_best q found at x) (at + 1) xs) n) same
      (before_all (next_best q found at x) (at + 1) xs (before_next found (is_there q x) x.1 at h))

  not_here : (m n : ℕ) → (m ≡ n → ⊥) → (m == n) ≡ false
  not_here m n apart = by_test (m == n) (λ on. absurd (apart (eqb-true m n on))) (λ off. off)

  -- where another place is found, a place that was passed is not found later
  stays_away : (p : Place) (i at : ℕ) (xs : List Ranked) → (p.at ≡ i → ⊥) → i < at → stands_at (best_from q (Some p) at xs) i ≡ false
  stays_away p i at [] apart h = not_here p.at i apart
  stays_away p i at (x ∷ xs) apart h = by_case (is_there q x) (nat_le p.rank x.1) (λ r d. stays_away r i (at + 1) xs d (omega (arith, h)))
    where
      by_case : (b c : Bool) → ((r : Place) → (r.at ≡ i → ⊥) → stands_at (best_from q (Some r) (at + 1) xs) i ≡ false) → stands_at (best_from q (elim b as (λ _. Option Place) [
        | true ↦ elim c as (λ _. Option Place) [ true ↦ Some p | false ↦ Some (record { rank = x.1; at = at }) ]
        | false ↦ Some p
      ]) (at + 1) xs) i ≡ false
      by_case true true later = later p apart
      by_case true false later = later (record { rank = x.1; at = at }) (λ e. omega (arith, e, h))
      by_case false c later = later p apart

  -- a place that is found stays where none of lesser rank follows
  abbrev lesser_there : ℕ → Ranked → Bool
  lesser_there rank x = both (nat_lt x.1 rank) (is_there q x)

  less_is : (r k : ℕ) → nat_lt r k ≡ not (nat_le k r)
  less_is r k = grind (arith, nat_tests)

  stays_first : (r i at : ℕ) (xs : List Ranked) → i < at → (let p : Place = record { rank = r; at = i } in stands_at (best_from q (Some p) at xs) i ≡ not (list_any (lesser_there r) xs))
  stays_first r i at [] h = eq-eqb i i refl
  stays_first r i at (x ∷ xs) h =
      by_case (is_there q x) (nat_le r x.1) (nat_lt x.1 r) (less_is x.1 r) (stays_first r i (at + 1) xs (omega (arith, h)))
      (stays_away (record { rank = x.1; at = at }) i (at + 1) xs (λ e. omega (arith, e, h)) (omega (arith, h)))
    where
      by_case : (b c d : Bool) → d ≡ not c
          → (let p : Place = record { rank = r; at = i } in stands_at (best_from q (Some p) (at + 1) xs) i ≡ not (list_any (lesser_there r) xs))
          → (let p : Place = record { rank = x.1; at = at } in stands_at (best_from q (Some p) (at + 1) xs) i ≡ false)
          → stands_at (best_from q (elim b as (λ _. Option Place) [
            | true ↦ elim c as (λ _. Option Place) [ true ↦ Some (record { rank = r; at = i }) | false ↦ Some (record { rank = x.1; at = at }) ]
            | false ↦ Some (record { rank = r; at = i })
          ]) (at + 1) xs) i ≡ not (both d b || list_any (lesser_there r) xs)
      by_case true true d e stays away = stays ∙ ap (λ (t : Bool). not (both t true || list_any (lesser_there r) xs)) (sym e)
      by_case true false d e stays away = away ∙ ap (λ (t : Bool). not (both t true || list_any (lesser_there r) xs)) (sym e)
      by_case false c true e stays away = stays
      by_case false c false e stays away = stays

-- ---- which places are kept

module _ (earlier : List Ranked) (x : Ranked) (later : List Ranked) where
  abbrev before : Option Place
  before = best_from (site_in x.0) None 0 earlier

  abbrev is_kept : Bool → Bool → Bool
  is_kept b c = elim b as (λ _. Bool) [ true ↦ false | false ↦ elim c as (λ _. Bool) [ true ↦ false | false ↦ true ] ]

  not_kept : (c : Bool) → not c ≡ is_kept false c
  not_kept true = refl
  not_kept false = refl

  after_step : (found : Option Place) → IsBefore (site_in x.0) found (length earlier)
      → stands_at (best_from (site_in x.0) (better found x.1 (length earlier)) (length earlier + 1) later) (length earlier) ≡ is_kept (is_as_good found x.1) (list_any (beats_later x) later)
  after_step None h = stays_first (site_in x.0) x.1 (length earlier) (length earlier + 1) later (omega arith) ∙ not_kept (list_any (beats_later x) later)
  after_step (Some p) h = by_rank (nat_le p.rank x.1)
    where
      by_rank : (c : Bool) → stands_at (best_from (site_in x.0) (elim c as (λ _. Option Place) [ true ↦ Some p | false ↦ Some (record { rank = x.1; at = length earlier }) ]) (length earlier + 1) later) (length earlier)
          ≡ is_kept c (list_any (beats_later x) later)
      by_rank true = stays_away (site_in x.0) p (length earlier) (length earlier + 1) later (λ e. omega (arith, e, h)) (omega arith)
      by_rank false = stays_first (site_in x.0) x.1 (length earlier) (length earlier + 1) later (omega arith) ∙ not_kept (list_any (beats_later x) later)

  abbrev at_step : Bool → Bool
  at_step b = stands_at (best_from (site_in x.0) (elim b as (λ _. Option Place) [ true ↦ better before x.1 (length earlier) | false ↦ before ]) (length earlier + 1) later) (length earlier)

  stands_is : stands_at (best_from (site_in x.0) None 0 (earlier ++ x ∷ later)) (length earlier) ≡ is_kept (list_any (beats x) earlier) (list_any (beats_later x) later)
  stands_is =
      let same : 0 + length earlier ≡ length earlier = omega arith in
      ap (λ (o : Option Place). stands_at o (length earlier)) (best_append (site_in x.0) None 0 earlier (x ∷ later))
      ∙ ap (λ (n : ℕ). stands_at (best_from (site_in x.0) before n (x ∷ later)) (length earlier)) same
      ∙ ap at_step (there_itself x)
      ∙ after_step before (subst (λ (n : ℕ). IsBefore (site_in x.0) before n) same (before_all (site_in x.0) None 0 earlier tt))
      ∙ ap (λ b. is_kept b (list_any (beats_later x) later)) (good_all (site_in x.0) None 0 x.1 earlier)

kept_from : (best : SiteKey → Option Place) (earlier later : List Ranked) → ((q : SiteKey) → best q ≡ best_from q None 0 (earlier ++ later)) → kept_by best (length earlier) later ≡ kept_after earlier later
kept_from best earlier [] tells = refl
kept_from best earlier (x ∷ later) tells =
    let more : kept_by best (length earlier + 1) later ≡ kept_after (earlier ++ x ∷ []) later =
    ap (λ (n : ℕ). kept_by best n later) (sym (length-append earlier (x ∷ []))) ∙ kept_from best (earlier ++ x ∷ []) later (λ q. tells q ∙ ap (λ (xs : List Ranked). best_from q None 0 xs) (sym (append_assoc earlier (x ∷ []) later))) in
    ap (λ (b : Bool). elim b as (λ _. List Ranked) [ true ↦ x ∷ kept_by best (length earlier + 1) later | false ↦ kept_by best (length earlier + 1) later ])
    (ap (λ (o : Option Place). stands_at o (length earlier)) (tells (site_in x.0)) ∙ stands_is earlier x later)
    ∙ by_kept (list_any (beats x) earlier) (list_any (beats_later x) later) more
  where
    by_kept : (b c : Bool) → kept_by best (length earlier + 1) later ≡ kept_after (earlier ++ x ∷ []) later
        → (elim (elim b as (λ _. Bool) [ true ↦ false | false ↦ elim c as (λ _. Bool) [ true ↦ false | false ↦ true ] ]) as (λ _. List Ranked) [ true ↦ x ∷ kept_by best (length earlier + 1) later | false ↦ kept_by best (length earlier + 1) later ])
        ≡ (elim b as (λ _. List Ranked) [
          | true ↦ kept_after (earlier ++ x ∷ []) later
          | false ↦ elim c as (λ _. List Ranked) [ true ↦ kept_after (earlier ++ x ∷ []) later | false ↦ x ∷ kept_after (earlier ++ x ∷ []) later ]
        ])
    by_kept true c h = h
    by_kept false true h = h
    by_kept false false h = ap (λ (xs : List Ranked). x ∷ xs) h

pub kept_are : (best : SiteKey → Option Place) (xs : List Ranked) → ((q : SiteKey) → best q ≡ best_from q None 0 xs) → kept_by best 0 xs ≡ best_places limits [] xs
kept_are best xs tells = kept_from best [] xs tells ∙ sym (kept_is xs)

alone_is : (best : SiteKey → Option Place) (xs : List Ranked) (x : Ranked) → ((q : SiteKey) → best q ≡ best_from q None 0 xs) → is_alone best x ≡ not_among limits xs x
alone_is best xs x tells = ap (λ (o : Option Place). is_none o) (tells (site_in x.0)) ∙ none_is (best_from (site_in x.0) None 0 xs) ∙ ap (λ (b : Bool). not b) (some_all (site_in x.0) None 0 xs)
  where
    none_is : (o : Option Place) → is_none o ≡ not (is_some o)
    none_is None = refl
    none_is (Some p) = refl

-- the places of the two parts
pub places_are : (t : Tree) (strong weak weaker : List Ranked) (best best_weaker : SiteKey → Option Place) (kept : List Tree) → strong ≡ strong_of limits t → weak ≡ weak_of limits t
    → ((q : SiteKey) → best q ≡ best_from q None 0 strong) → weaker ≡ filter (is_alone best) weak → ((q : SiteKey) → best_weaker q ≡ best_from q None 0 weaker)
    → kept ≡ map (λ e. e.0) (kept_by best 0 strong) ++ map (λ e. e.0) (kept_by best_weaker 0 weaker) → kept ≡ sites limits t
places_are t strong weak weaker best best_weaker kept s w tells left tells_weaker all =
    all
    ∙ (λ i. map (λ e. e.0) (kept_are best strong tells i) ++ map (λ e. e.0) (kept_are best_weaker weaker tells_weaker i))
    ∙ (λ i. map (λ e. e.0) (best_places limits [] strong) ++ map (λ e. e.0) (best_places limits [] (left i)))
    ∙ (λ i. map (λ e. e.0) (best_places limits [] strong) ++ map (λ e. e.0) (best_places limits [] (filter (λ x. alone_is best strong x tells i) weak)))
    ∙ (λ i. map (λ e. e.0) (best_places limits [] (s i)) ++ map (λ e. e.0) (best_places limits [] (filter (not_among limits (s i)) (w i))))
    ∙ sym (map-append (λ (e : Ranked). e.0) (best_places limits [] (strong_of limits t)) (best_places limits [] (filter (not_among limits (strong_of limits t)) (weak_of limits t))))

-- Each step keeps the rule.
use Rattle.std.proofs.Common.{◌≡◌, ℕ, suc, ◌+◌, ◌-◌, ◌%◌, ◌<◌, ◌≤◌, ◌≢◌, List, [], ◌∷◌, ◌++◌, length, get_or, set, sym, refl, ap, ◌∙◌, subst, arith, length-set, get_or-set_other, get_or-set_same, Option, Some, None}
use mathlib.Core.Logic.{dite}
use mathlib.Core.Option.{none, some, some-injective}
use native.Mathlib.Decide.{ℕ_discrete, dec_le}
use lib.ListN.{get_elem?}
use lib.Seq.{set-get_or}
use Rattle.std.specs.Prelude.{All}
use Rattle.std.proofs.lemmas.Option.{none-some}
use Rattle.std.proofs.lemmas.List.{append_assoc, append-nil}
use Rattle.std.proofs.lemmas.List.Elements.{All-append, All-nil}
use Rattle.atomic_table.specs.Table.{State, Me, Step, step, rest, keeps, takes, gives, Allows, opening}
use Rattle.atomic_table.proofs.Lists.{set_here, set_else, set_again, one_turn}
use Rattle.turn_lock.specs.Weights.{total, span, only, times}
use Rattle.turn_lock.specs.Turns.{nothing, weight, first_view, drawn, noted, returned, NoneBorne, GoesOn, Unused, Adds, PartFits, Fits, Kept, draws, Takes, looks, advances}
use Rattle.turn_lock.specs.declared.view.Part.{Part}
use Rattle.turn_lock.specs.declared.view.View.{View}
use Rattle.turn_lock.proofs.Sums.{each_set, total-set, span_more, total_mono, total-one, span-one, below-one, span_only, only-same, term_le, terms_le, at_within, one_there, some_same, below-once, below-none, span_first, below_span, none_from}

module _ {T E N : Type 0} (bears : E → ℕ) (entries : T → List E) (named : T → N) (name : N) (seats : ℕ) where
  abbrev pub St : Type 0
  St = State (Option T) (View E N)

  -- the steps are told nothing
  abbrev pub any_step : Step (Option T)
  any_step = step 0 0 0 0 none

  abbrev pub Holds : St → Type 0
  Holds = Kept bears entries named name seats

  abbrev pub Ok : ℕ → List E → View E N → Type 0
  Ok = Fits bears name seats

  -- how much the numbers of a view weigh
  abbrev pub all : (ℕ → ℕ) → View E N → ℕ
  all h v = weight h v.mine + weight h v.told

  -- where no view notes a turn, none did before a step of a seat whose view noted none
  pub quiet_before : (views : List (View E N)) (id : ℕ) (v w : View E N) → get_elem? views id ≡ some v → v.turn ≡ None → ((k : ℕ) (u : View E N) → get_elem? (set views id w) k ≡ some u → u.turn ≡ None)
      → (k : ℕ) (u : View E N) → get_elem? views k ≡ some u → u.turn ≡ None
  quiet_before views id v w me free quiet k u e =
      dite (ℕ_discrete k id)
      (λ is. ap (λ (x : View E N). x.turn) (some-injective u v (sym e ∙ (ap (get_elem? views) is ∙ me))) ∙ free)
      (λ ne. quiet k u (set_else views id k w ne ∙ e))

  draw_allowed : (n id : ℕ) (v : View E N) → v.tickets ≡ [] → v.turn ≡ None → 0 < length v.mine.own
      → Allows Holds n id (v, []) 0 (λ x. (x + 1) % 18446744073709551616) (draws bears entries named any_step (v, []))
  draw_allowed n id v bare free live s o wide me fits =
      let t : ℕ = o.now + o.waiting in let w : View E N = drawn t v in let next = o.next_is in let long = o.words in
      let ok = o.fits id v me in (
        w,
        keeps,
        tt,
        record {
          now = o.now;
          waiting = o.waiting + 1;
          log = o.log;
          words = length-set s.words 0 _ ∙ o.words;
          slots = o.slots;
          seats_fit = o.seats_fit;
          next_is = get_or-set_same s.words 0 _ 0 (omega arith) ∙ omega arith;
          now_is = get_or-set_other s.words 0 1 _ 0 (λ e. omega arith) ∙ o.now_is;
          tickets = λ h. omega (arith, total-set (λ u. total h u.tickets) s.views id v w me, o.tickets h, span_more h o.now o.waiting, ap (total h) bare);
          numbers = λ h. omega (arith, total-set (all h) s.views id v w me, o.numbers h);
          borne = o.borne;
          fits = each_set (Ok o.now o.log) s.views id w
              record { desk = ok.desk; one = omega arith; mine = ok.mine; told = ok.told; turn = λ taken e. absurd (none-some taken (sym free ∙ e)) }
              (λ k u ne e. o.fits k u e);
          home = λ quiet. o.home (quiet_before s.views id v w me free quiet);
        },
        (t, next, refl),
      )

  -- no more tickets wait than there are numbers
  waits_few : (s : St) (o : Holds s) → o.waiting ≤ 256
  waits_few s o =
      let tickets = o.tickets (λ _. 1) in let owned = o.numbers (λ _. 1) in let fit = o.seats_fit in
      let le = total_mono (λ (u : View E N). total (λ _. 1) u.tickets) (all (λ _. 1)) s.views
      (λ k u e. let one = (o.fits k u e).one in omega (arith, total-one u.tickets, total-one u.mine.own)) in
      omega (arith, span-one o.now o.waiting, below-one seats)

  -- the seat whose ticket's remainder is the serving word has the ticket that is served
  served : (s : St) (o : Holds s) (id : ℕ) (v : View E N) (t : ℕ) → get_elem? s.views id ≡ some v → v.tickets ≡ t ∷ [] → get_or s.words 1 0 ≡ t % 18446744073709551616 → o.now ≡ t
  served s o id v t me ticket found =
      let few = waits_few s o in let tickets = o.tickets (only t) in let mine = term_le (λ (u : View E N). total (only t) u.tickets) s.views id v me in
      let within = (span_only t o.now o.waiting).1 (omega (arith, ap (total (only t)) ticket, only-same t)) in
      let lo = within.0 in let hi = within.1 in
      one_turn o.now t 18446744073709551616 lo (omega arith) (sym o.now_is ∙ found)

  -- two views have different tickets
  apart : (s : St) (o : Holds s) (id k t : ℕ) (v u : View E N) → k ≢ id → get_elem? s.views id ≡ some v → get_elem? s.views k ≡ some u → v.tickets ≡ t ∷ [] → u.tickets ≡ t ∷ [] → ⊥
  apart s o id k t v u ne me them one two =
      absurd (omega (arith, terms_le (λ (x : View E N). total (only t) x.tickets) s.views id k v u ne me them, o.tickets (only t), (span_only t o.now o.waiting).0, ap (total (only t)) one, ap (total (only t)) two, only-same t))

  pub no_turn : (x : Option (List E)) → ((taken : List E) → x ≡ Some taken → ⊥) → x ≡ None
  no_turn None h = refl
  no_turn (Some y) h = absurd (h y refl)

  quiet_now : (s : St) (o : Holds s) (id : ℕ) (v : View E N) → get_elem? s.views id ≡ some v → v.tickets ≡ o.now ∷ [] → v.turn ≡ None → (k : ℕ) (u : View E N) → get_elem? s.views k ≡ some u → u.turn ≡ None
  quiet_now s o id v me ticket free k u e =
      no_turn u.turn (λ taken noted.
      dite (ℕ_discrete k id)
      (λ is. let same : u ≡ v = some-injective u v (sym e ∙ (ap (get_elem? s.views) is ∙ me)) in none-some taken (sym free ∙ (sym (ap (λ (x : View E N). x.turn) same) ∙ noted)))
      (λ ne. apart s o id k o.now v u ne me e ticket ((o.fits k u e).turn taken noted).0))

  pub unmoved : (s : St) (o : Holds s) (i id : ℕ) (v : View E N) → get_elem? s.views id ≡ some v → Holds record { words = set s.words i (get_or s.words i 0); homes = s.homes; views = set s.views id v }
  unmoved s o i id v me = subst (λ (ws : List ℕ). Holds record { words = ws; homes = s.homes; views = set s.views id v }) (sym (set-get_or s.words i 0))
      (subst (λ (vs : List (View E N)). Holds record { words = s.words; homes = s.homes; views = vs }) (sym (set_again s.views id v me)) o)

  one_head : (a b : ℕ) → a ∷ [] ≡ b ∷ [] → a ≡ b
  one_head a b e = ap (λ l. get_or l 0 0) e

  look_allowed : (n id t : ℕ) (v : View E N) → v.tickets ≡ t ∷ [] → v.turn ≡ None
      → Allows Holds n id (v, []) 1 (λ x. x) (looks bears entries named any_step (v, []))
  look_allowed n id t v ticket free s o wide me fits =
      let ok = o.fits id v me in let long = o.words in
      dite (ℕ_discrete (get_or s.words 1 0) (t % 18446744073709551616))
      (λ hit.
      let is : o.now ≡ t = served s o id v t me ticket hit in
      let ticket' : v.tickets ≡ o.now ∷ [] = ticket ∙ ap (λ (x : ℕ). x ∷ []) (sym is) in
      let h = o.home (quiet_now s o id v me ticket' free) in let value : T = h.0 in let w : View E N = noted (entries value) v in
      let tells : Takes bears entries named (v, []) (w, (0, Some value) ∷ []) = (value, refl, (λ x e. h.3 ∙ sym (ok.desk x e)), subst (GoesOn bears v.mine) (sym h.2) ok.mine.seen) in (
        w,
        takes 0 (Some value),
        h.1,
        record {
          now = o.now;
          waiting = o.waiting;
          log = o.log;
          words = length-set s.words 1 _ ∙ o.words;
          slots = length-set s.homes 0 none ∙ o.slots;
          seats_fit = o.seats_fit;
          next_is = get_or-set_other s.words 1 0 _ 0 (λ e. omega arith) ∙ o.next_is;
          now_is = get_or-set_same s.words 1 _ 0 (omega arith) ∙ o.now_is;
          tickets = λ h. omega (arith, total-set (λ u. total h u.tickets) s.views id v w me, o.tickets h);
          numbers = λ h. omega (arith, total-set (all h) s.views id v w me, o.numbers h);
          borne = o.borne;
          fits = each_set (Ok o.now o.log) s.views id w
              record { desk = ok.desk; one = ok.one; mine = ok.mine; told = ok.told; turn = λ taken e. (ticket', sym (some_same (entries value) taken e) ∙ h.2) }
              (λ k u ne e. o.fits k u e);
          home = λ quiet. absurd (none-some (entries value) (sym (quiet id w (set_here s.views id w (at_within s.views id v me)))));
        },
        λ t' e. ((λ _. tells), λ miss. absurd (miss (hit ∙ ap (λ (x : ℕ). x % 18446744073709551616) (one_head t t' (sym ticket ∙ e))))),
      ))
      (λ miss. (
        v,
        keeps,
        tt,
        unmoved s o 1 id v me,
        λ t' e. ((λ hit. absurd (miss (hit ∙ ap (λ (x : ℕ). x % 18446744073709551616) (sym (one_head t t' (sym ticket ∙ e)))))), λ _. refl),
      ))

  -- a number that a view has as its own is no other number of that view, and is one of the desk's
  own_once : (s : St) (o : Holds s) (id number : ℕ) (v : View E N) (more : List ℕ) → get_elem? s.views id ≡ some v → v.mine.own ≡ number ∷ more
      → (times number v.told.own ≡ 0) × (span (only number) v.mine.least v.mine.spare ≡ 0) × (span (only number) v.told.least v.told.spare ≡ 0) × (number < seats)
  own_once s o id number v more me own =
      let each = o.numbers (only number) in let once = below-once number seats in
      let le = term_le (all (only number)) s.views id v me in
      let mine = ap (total (only number)) own in let one = only-same number in
      (omega arith, omega arith, omega arith, dite (dec_le seats number) (λ past. let no = below-none number seats past in absurd (omega arith)) (λ within. omega arith))

  -- and no other view has it
  own_alone : (s : St) (o : Holds s) (id k number : ℕ) (v u : View E N) (more : List ℕ) → k ≢ id → get_elem? s.views id ≡ some v → get_elem? s.views k ≡ some u → v.mine.own ≡ number ∷ more
      → all (only number) u ≡ 0
  own_alone s o id k number v u more ne me them own =
      let each = o.numbers (only number) in let once = below-once number seats in
      let le = terms_le (all (only number)) s.views id k v u ne me them in
      let mine = ap (total (only number)) own in let one = only-same number in
      omega arith

  borne_not : (number : ℕ) (numbers : List ℕ) (added : List E) → times number numbers ≡ 0 → All (λ e. bears e ≡ number) added → NoneBorne bears numbers added
  borne_not number numbers added none-there are k d lt = ap (λ (x : ℕ). times x numbers) (are k d lt) ∙ none-there

  module _ (number : ℕ) (log more added : List E) (is : more ≡ log ++ added) (are : All (λ e. bears e ≡ number) added) (p : Part E) (f : PartFits bears seats log p) where
    unused_further : span (only number) p.least p.spare ≡ 0 → Unused bears p more
    unused_further none-there = subst (Unused bears p) (sym is) (All-append (λ e. span (only (bears e)) p.least p.spare ≡ 0) log added f.unused (λ k d lt. ap (λ (x : ℕ). span (only x) p.least p.spare) (are k d lt) ∙ none-there))

    -- a part goes on fitting where entries are added that bear none of its numbers
    part_further : times number p.own ≡ 0 → span (only number) p.least p.spare ≡ 0 → PartFits bears seats more p
    part_further none-own none-spare = record {
      seen = (
        f.seen.0 ++ added,
        is ∙ (ap (λ (l : List E). l ++ added) f.seen.1 ∙ append_assoc p.seen f.seen.0 added),
        All-append (λ e. times (bears e) p.own ≡ 0) f.seen.0 added f.seen.2 (borne_not number p.own added none-own are),
      );
      unused = unused_further none-spare;
      top = f.top;
    }

  advance_allowed : (n id number : ℕ) (v : View E N) (others : List ℕ) (taken : List E) (value : T) → v.mine.own ≡ number ∷ others → v.turn ≡ Some taken → Adds bears number taken (entries value) → named value ≡ name
      → Allows Holds n id (v, (0, Some value) ∷ []) 1 (λ x. (x + 1) % 18446744073709551616) (advances bears entries named any_step (v, (0, Some value) ∷ []))
  advance_allowed n id number v others taken value own turn adds names s o wide me fits =
      let ok = o.fits id v me in let noted = ok.turn taken turn in let ticket = noted.0 in let same = noted.1 in
      let more : List E = entries value in let added : List E = adds.0 in
      let is : more ≡ o.log ++ added = adds.1 ∙ ap (λ (l : List E). l ++ added) same in
      let w : View E N = returned more v in let long = o.words in let deep = o.slots in let next = o.next_is in let now = o.now_is in
      let some-wait : 0 < o.waiting = omega (arith, term_le (λ (u : View E N). total (λ _. 1) u.tickets) s.views id v me, o.tickets (λ _. 1), span-one o.now o.waiting, ap (total (λ _. 1)) ticket) in
      let left : ℕ = o.waiting - 1 in let count : o.waiting ≡ suc left = omega arith in let once = own_once s o id number v others me own in let in-range = once.3 in (
        w,
        gives,
        tt,
        record {
          now = o.now + 1;
          waiting = left;
          log = more;
          words = length-set s.words 1 _ ∙ o.words;
          slots = length-set s.homes 0 (some (Some value)) ∙ o.slots;
          seats_fit = o.seats_fit;
          next_is = get_or-set_other s.words 1 0 _ 0 (λ e. omega arith) ∙ (o.next_is ∙ ap (λ (x : ℕ). x % 18446744073709551616) (omega arith));
          now_is = get_or-set_same s.words 1 _ 0 (omega arith) ∙ omega arith;
          tickets = λ h. omega (arith, total-set (λ u. total h u.tickets) s.views id v w me, o.tickets h, ap (span h o.now) count, span_first h o.now left, ap (total h) ticket);
          numbers = λ h. omega (arith, total-set (all h) s.views id v w me, o.numbers h);
          borne = subst (All (λ e. bears e < seats)) (sym is) (All-append (λ e. bears e < seats) o.log added o.borne (λ k d lt. subst (λ (x : ℕ). x < seats) (sym (adds.2 k d lt)) in-range));
          fits = each_set (Ok (o.now + 1) more) s.views id w
              record {
                desk = ok.desk;
                one = omega arith;
                mine = record {
                  seen = ([], sym (append-nil more), All-nil (λ e. times (bears e) v.mine.own ≡ 0));
                  unused = unused_further number o.log more added is adds.2 v.mine ok.mine once.1;
                  top = ok.mine.top;
                };
                told = part_further number o.log more added is adds.2 v.told ok.told once.0 once.2;
                turn = λ taken e. absurd (none-some taken e);
              }
              (λ k u ne e. let f = o.fits k u e in let not = own_alone s o id k number v u others ne me e own in record {
                desk = f.desk;
                one = f.one;
                mine = part_further number o.log more added is adds.2 u.mine f.mine (omega arith) (omega arith);
                told = part_further number o.log more added is adds.2 u.told f.told (omega arith) (omega arith);
                turn = λ theirs t. absurd (apart s o id k o.now v u ne me e ticket (f.turn theirs t).0);
              });
          home = λ quiet. (value, set_here s.homes 0 (some (Some value)) (omega arith), refl, names);
        },
        λ other e. ap (λ (x : T). (returned (entries x) v, [])) (some_same value other (ap (λ (l : List (ℕ × Option T)). (get_or l 0 (0, None)).1) e)),
      )

  abbrev pub Place : Type 0
  Place = Me (Option T) (View E N)

  pub draw_at : (n id : ℕ) (m : Place) (v : View E N) → m ≡ (v, []) → v.tickets ≡ [] → v.turn ≡ None → 0 < length v.mine.own
      → Allows Holds n id m 0 (λ x. (x + 1) % 18446744073709551616) (draws bears entries named any_step m)
  draw_at n id m v e bare free live = subst (λ (x : Place). Allows Holds n id x 0 (λ y. (y + 1) % 18446744073709551616) (draws bears entries named any_step x)) (sym e) (draw_allowed n id v bare free live)

  pub look_at : (n id t : ℕ) (m : Place) (v : View E N) → m ≡ (v, []) → v.tickets ≡ t ∷ [] → v.turn ≡ None
      → Allows Holds n id m 1 (λ x. x) (looks bears entries named any_step m)
  look_at n id t m v e ticket free = subst (λ (x : Place). Allows Holds n id x 1 (λ y. y) (looks bears entries named any_step x)) (sym e) (look_allowed n id t v ticket free)

  pub advance_at : (n id number : ℕ) (m : Place) (v : View E N) (others : List ℕ) (taken : List E) (value : T) → m ≡ (v, (0, Some value) ∷ [])
      → v.mine.own ≡ number ∷ others → v.turn ≡ Some taken → Adds bears number taken (entries value) → named value ≡ name
      → Allows Holds n id m 1 (λ x. (x + 1) % 18446744073709551616) (advances bears entries named any_step m)
  advance_at n id number m v others taken value e own turn adds names =
      subst (λ (x : Place). Allows Holds n id x 1 (λ y. (y + 1) % 18446744073709551616) (advances bears entries named any_step x)) (sym e) (advance_allowed n id number v others taken value own turn adds names)

module _ {T E N : Type 0} (bears : E → ℕ) (entries : T → List E) (named : T → N) where
  abbrev Spot : Type 0
  Spot = Me (Option T) (View E N)

  -- what the turn gave
  abbrev Gave : View E N → T → Type 0
  Gave v x = ((y : N) → v.name ≡ Some y → named x ≡ y) × GoesOn bears v.mine (entries x)

  pub took : (m after : Spot) (v : View E N) (t : ℕ) → m ≡ (drawn t v, []) → Takes bears entries named m after
      → (value : T) × (after ≡ (noted (entries value) (drawn t v), (0, Some value) ∷ [])) × Gave v value
  took m after v t e = subst (λ (x : Spot). Takes bears entries named x after → (value : T) × (after ≡ (noted (entries value) (drawn t v), (0, Some value) ∷ [])) × Gave v value) (sym e) (λ h. (h.0, h.1, (h.2, h.3)))

  -- the slot was read and left empty
  pub emptied : (m after : Spot) (w : View E N) (value : T) (out : Option T) → m ≡ (w, (0, Some value) ∷ []) → m.1 ≡ (0, out) ∷ rest m.1 → after ≡ (m.0, (0, None) ∷ rest m.1)
      → (after ≡ (w, (0, None) ∷ [])) × (out ≡ Some value)
  emptied m after w value out e was now = (now ∙ ap (λ (x : Spot). (x.0, (0, None) ∷ rest x.1)) e, ap (λ (l : List (ℕ × Option T)). (get_or l 0 (0, None)).1) (sym was ∙ ap (λ (x : Spot). x.1) e))

  -- what a seat has after its turn began, and the value was taken out
  pub turned_to : (m middle after : Spot) (v : View E N) (t : ℕ) (out : Option T) (x : T) → m ≡ (drawn t v, []) → Takes bears entries named m middle → middle.1 ≡ (0, out) ∷ rest middle.1 → after ≡ (middle.0, (0, None) ∷ rest middle.1) → out ≡ Some x
      → (after ≡ (noted (entries x) (drawn t v), (0, None) ∷ [])) × Gave v x
  turned_to m middle after v t out x e takes-it was now is =
      let got = took m middle v t e takes-it in let left = emptied middle after (noted (entries got.0) (drawn t v)) got.0 out got.1 was now in
      subst (λ (y : T). (after ≡ (noted (entries y) (drawn t v), (0, None) ∷ [])) × Gave v y) (some_same got.0 x (sym left.1 ∙ is)) (left.0, got.2)

module _ {E : Type 0} (bears : E → ℕ) where
  pub bare_fits : (seats : ℕ) (log : List E) → PartFits bears seats log nothing
  bare_fits seats log = record { seen = (log, refl, λ k d lt. refl); unused = λ k d lt. refl; top = λ h. absurd (omega arith) }

pub opens : {T E N : Type 0} (bears : E → ℕ) (entries : T → List E) (named : T → N) (seats : ℕ) (value : T) (slots : List (Option T)) → slots ≡ Some value ∷ [] → 1 ≤ seats → seats ≤ 256 → All (λ e. bears e ≡ 0) (entries value)
    → Kept bears entries named (named value) seats (opening (0 ∷ 0 ∷ []) slots (first_view (entries value) (named value) seats))
opens {T} {E} {N} bears entries named seats value slots is least fit zeros = let v : View E N = first_view (entries value) (named value) seats in
    subst (λ (l : List (Option T)). Kept bears entries named (named value) seats (opening (0 ∷ 0 ∷ []) l v)) (sym is) record {
      now = 0;
      waiting = 0;
      log = entries value;
      words = refl;
      slots = refl;
      seats_fit = fit;
      next_is = refl;
      now_is = refl;
      tickets = λ h. refl;
      numbers = λ h. let count : seats ≡ suc (seats - 1) = omega arith in omega (arith, below_span h seats, ap (span h 0) count, span_first h 0 (seats - 1));
      borne = λ k d lt. let z = zeros k d lt in omega arith;
      fits = λ id u e. subst (Fits bears (named value) seats 0 (entries value)) (one_there v u id e) record {
        desk = λ x e. sym (some_same (named value) x e);
        one = omega arith;
        mine = record {
          seen = ([], sym (append-nil (entries value)), All-nil (λ e. times (bears e) (0 ∷ []) ≡ 0));
          unused = λ k d lt. ap (λ (x : ℕ). span (only x) 1 (seats - 1)) (zeros k d lt) ∙ none_from 0 1 (seats - 1) (omega arith);
          top = λ h. omega arith;
        };
        told = bare_fits bears seats (entries value);
        turn = λ taken e. absurd (none-some taken e);
      };
      home = λ quiet. (value, refl, refl, refl);
    }

pub opens_at : {T E N : Type 0} (bears : E → ℕ) (entries : T → List E) (named : T → N) (seats : ℕ) (key value : T) (slots : List (Option T)) → key ≡ value → slots ≡ Some value ∷ [] → 1 ≤ seats → seats ≤ 256 → All (λ e. bears e ≡ 0) (entries value)
    → Kept bears entries named (named key) seats (opening (0 ∷ 0 ∷ []) slots (first_view (entries key) (named key) seats))
opens_at {T} {E} {N} bears entries named seats key value slots same is least fit zeros =
    subst (λ (k : T). Kept bears entries named (named k) seats (opening (0 ∷ 0 ∷ []) slots (first_view (entries k) (named k) seats))) (sym same) (opens bears entries named seats value slots is least fit zeros)

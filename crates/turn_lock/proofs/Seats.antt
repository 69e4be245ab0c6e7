-- Seats are split, joined and given up.
use Rattle.std.proofs.Common.{◌≡◌, ℕ, zero, suc, ◌+◌, ◌-◌, ◌<◌, ◌≢◌, ◌⊎◌, List, [], ◌∷◌, ◌++◌, length, get_or, set, sym, refl, ap, ◌∙◌, subst, inl, inr, ⊎_elim, arith, cond, eqb, eq-eqb, ne_eqb, lt-ltb, le-ltb, Bool, Option, Some, None}
use mathlib.Core.Logic.{dite}
use mathlib.Core.Option.{some, some-injective}
use native.Mathlib.Decide.{ℕ_discrete, dec_le}
use lib.ListN.{get_elem?}
use lib.Seq.{set-get_or}
use Rattle.std.specs.Prelude.{All}
use Rattle.std.proofs.lemmas.Option.{none-some}
use Rattle.std.proofs.lemmas.List.{append-nil, length-append}
use Rattle.std.proofs.lemmas.List.Elements.{All-head}
use Rattle.atomic_table.specs.Table.{State, keeps, Allows, Splits, Joins, Final, Seen}
use Rattle.atomic_table.proofs.Lists.{set_here, set_else, at_snoc, at_longer}
use Rattle.turn_lock.specs.Weights.{total, span, only, times}
use Rattle.turn_lock.specs.Turns.{weight, IsBare, longer, merged, kept, split_off, joined, settled, spent, NoneBorne, Unused, Longer, PartFits, settles, unborne, IsWhole}
use Rattle.turn_lock.specs.Seats.{numbers_from}
use Rattle.turn_lock.specs.declared.view.Part.{Part}
use Rattle.turn_lock.specs.declared.view.View.{View}
use Rattle.turn_lock.proofs.Sums.{each_set, total-append, total-set, only-same, term_le, terms_le, at_within, below-once, below-none, span_first, span_has, span_none, times-append, All-left, All-right, prefix_of}
use Rattle.turn_lock.proofs.Steps.{St, Holds, Ok, all, any_step, Place, quiet_before, no_turn, unmoved, bare_fits}

module _ {E : Type 0} (bears : E → ℕ) where
  pub bare_weight : (h : ℕ → ℕ) (p : Part E) → IsBare p → weight h p ≡ 0
  bare_weight h p bare = omega (arith, ap (total h) bare.0, span_none h p.least p.spare bare.1)

  -- of two parts that fit one list, one has seen no more than the other
  longer_goes_on : (seats : ℕ) (log : List E) (p q : Part E) → PartFits bears seats log p → PartFits bears seats log q
      → Longer bears p q (longer p.seen q.seen) × ((left : List E) × (log ≡ longer p.seen q.seen ++ left) × NoneBorne bears (p.own ++ q.own) left)
  longer_goes_on seats log p q f g =
      let r = f.seen in let t = g.seen in
      let both : (left : List E) → NoneBorne bears p.own left → NoneBorne bears q.own left → NoneBorne bears (p.own ++ q.own) left
      = λ left a b k d lt. times-append (bears (get_or left k d)) p.own q.own (a k d lt) (b k d lt) in
      let F : Bool → Type 0 = λ x. Longer bears p q (cond x q.seen p.seen) × ((left : List E) × (log ≡ cond x q.seen p.seen ++ left) × NoneBorne bears (p.own ++ q.own) left) in
      dite (dec_le (length q.seen) (length p.seen))
      (λ le.
      let more = prefix_of q.seen p.seen t.0 r.0 (sym t.1 ∙ r.1) le in let later = subst (NoneBorne bears q.own) more.2 t.2 in
      subst F (sym (le-ltb (length p.seen) (length q.seen) le)) (
        inl (refl, (more.0, more.1, All-left (λ e. times (bears e) q.own ≡ 0) more.0 r.0 later)),
        (r.0, r.1, both r.0 r.2 (All-right (λ e. times (bears e) q.own ≡ 0) more.0 r.0 later)),
      ))
      (λ gt.
      let more = prefix_of p.seen q.seen r.0 t.0 (sym r.1 ∙ t.1) (omega arith) in let later = subst (NoneBorne bears p.own) more.2 r.2 in
      subst F (sym (lt-ltb (length p.seen) (length q.seen) (omega arith))) (
        inr (refl, (more.0, more.1, All-left (λ e. times (bears e) p.own ≡ 0) more.0 t.0 later)),
        (t.0, t.1, both t.0 (All-right (λ e. times (bears e) p.own ≡ 0) more.0 t.0 later) t.2),
      ))

  -- by cases on whether the first has spare numbers
  by_spare : (p q : Part E) (F : ℕ → ℕ → Type 0) → (p.spare ≡ 0 → F q.least q.spare) → (p.spare ≢ 0 → F p.least p.spare) → F (cond (eqb p.spare 0) q.least p.least) (cond (eqb p.spare 0) q.spare p.spare)
  by_spare p q F none-here here = dite (ℕ_discrete p.spare 0)
      (λ z. subst (λ (x : Bool). F (cond x q.least p.least) (cond x q.spare p.spare)) (sym (eq-eqb p.spare 0 z)) (none-here z))
      (λ nz. subst (λ (x : Bool). F (cond x q.least p.least) (cond x q.spare p.spare)) (sym (ne_eqb p.spare 0 nz)) (here nz))

  pub merged_fits : (seats : ℕ) (log : List E) (p q : Part E) → PartFits bears seats log p → PartFits bears seats log q → PartFits bears seats log (merged p q)
  merged_fits seats log p q f g = record {
    seen = (longer_goes_on seats log p q f g).1;
    unused = by_spare p q (λ least n. All (λ e. span (only (bears e)) least n ≡ 0) log) (λ _. g.unused) (λ _. f.unused);
    top = by_spare p q (λ least n. 0 < n → least + n ≡ seats) (λ _. g.top) (λ _. f.top);
  }

  pub merged_weight : (h : ℕ → ℕ) (p q : Part E) → (p.spare ≡ 0) ⊎ (q.spare ≡ 0) → weight h (merged p q) ≡ weight h p + weight h q
  merged_weight h p q one = by_spare p q (λ least n. total h (p.own ++ q.own) + span h least n ≡ weight h p + weight h q)
      (λ z. omega (arith, total-append h p.own q.own, span_none h p.least p.spare z))
      (λ nz. omega (arith, total-append h p.own q.own, span_none h q.least q.spare (⊎_elim (λ z. absurd (nz z)) (λ z. z) one)))

module _ {T E N : Type 0} (bears : E → ℕ) (entries : T → List E) (named : T → N) (name : N) (seats : ℕ) where
  abbrev H : State (Option T) (View E N) → Type 0
  H = Holds bears entries named name seats

  abbrev weigh : (ℕ → ℕ) → View E N → ℕ
  weigh = all bears entries named name seats

  pub split_allowed : (id : ℕ) (v : View E N) → 0 < v.mine.spare → v.turn ≡ None → Splits H id v (kept v) (split_off v)
  split_allowed id v has free s o me =
      let w : View E N = kept v in let u : View E N = split_off v in let vs : List (View E N) = set s.views id w in let ok = o.fits id v me in
      let least : ℕ = v.mine.least in let left : ℕ = v.mine.spare - 1 in let count : v.mine.spare ≡ suc left = omega arith in
      let cut : (h : ℕ → ℕ) → span h least v.mine.spare ≡ h least + span h (least + 1) left = λ h. ap (span h least) count ∙ span_first h least left in
      record {
        now = o.now;
        waiting = o.waiting;
        log = o.log;
        words = o.words;
        slots = o.slots;
        seats_fit = o.seats_fit;
        next_is = o.next_is;
        now_is = o.now_is;
        tickets = λ h. omega (arith, total-append (λ x. total h x.tickets) vs (u ∷ []), total-set (λ x. total h x.tickets) s.views id v w me, o.tickets h);
        numbers = λ h. omega (arith, total-append (weigh h) vs (u ∷ []), total-set (weigh h) s.views id v w me, o.numbers h, cut h);
        borne = o.borne;
        fits = λ k x e. ⊎_elim
            (λ (t : get_elem? vs k ≡ some x). each_set (Ok bears entries named name seats o.now o.log) s.views id w
            record {
              desk = ok.desk;
              one = ok.one;
              mine = record {
                seen = ok.mine.seen;
                unused = λ j d lt. omega (arith, ok.mine.unused j d lt, cut (only (bears (get_or o.log j d))));
                top = λ h. omega (arith, ok.mine.top has);
              };
              told = ok.told;
              turn = ok.turn;
            }
            (λ j y ne at. o.fits j y at) k x t)
            (λ (t : u ≡ x). subst (Ok bears entries named name seats o.now o.log) t record {
              desk = ok.desk;
              one = omega arith;
              mine = record {
                seen = (
                  ok.mine.seen.0,
                  ok.mine.seen.1,
                  λ j d lt. let r = All-right (λ y. span (only (bears y)) least v.mine.spare ≡ 0) v.mine.seen ok.mine.seen.0 (subst (Unused bears v.mine) ok.mine.seen.1 ok.mine.unused) j d lt in
                      omega (arith, cut (only (bears (get_or ok.mine.seen.0 j d)))),
                );
                unused = λ j d lt. refl;
                top = λ h. absurd (omega arith);
              };
              told = bare_fits bears seats o.log;
              turn = λ taken e. absurd (none-some taken e);
            })
            (at_snoc vs u x k e);
        home = λ quiet. o.home (quiet_before bears entries named name seats s.views id v w me free (λ k x e. quiet k x (at_longer vs (u ∷ []) k x e)));
      }

  pub join_allowed : (id : ℕ) (v : View E N) (other : ℕ) (w : View E N) → IsBare v.told → IsBare w.told → v.turn ≡ None → w.turn ≡ None → w.tickets ≡ []
      → Joins H id v other w (joined v w) spent
  join_allowed id v other w bare bare' free free' idle s o me apart them =
      let both : View E N = joined v w in let vs : List (View E N) = set s.views id both in let ok = o.fits id v me in
      let there : get_elem? s.views other ≡ some w = sym (set_else s.views id other both apart) ∙ them in let theirs = o.fits other w there in record {
        now = o.now;
        waiting = o.waiting;
        log = o.log;
        words = o.words;
        slots = o.slots;
        seats_fit = o.seats_fit;
        next_is = o.next_is;
        now_is = o.now_is;
        tickets = λ h. omega (arith, total-set (λ x. total h x.tickets) vs other w spent them, total-set (λ x. total h x.tickets) s.views id v both me, o.tickets h, ap (total h) idle);
        numbers = λ h. omega (arith, total-set (weigh h) vs other w spent them, total-set (weigh h) s.views id v both me, o.numbers h, bare_weight bears h v.told bare, bare_weight bears h w.told bare');
        borne = o.borne;
        fits = each_set (Ok bears entries named name seats o.now o.log) vs other spent
            record { desk = λ x e. absurd (none-some x e); one = omega arith; mine = bare_fits bears seats o.log; told = bare_fits bears seats o.log; turn = λ taken e. absurd (none-some taken e) }
            (λ j y ne at. each_set (Ok bears entries named name seats o.now o.log) s.views id both
            record { desk = ok.desk; one = ok.one; mine = ok.mine; told = theirs.mine; turn = ok.turn } (λ i z nz at'. o.fits i z at') j y at);
        home = λ quiet. o.home (quiet_before bears entries named name seats s.views id v both me free
            (quiet_before bears entries named name seats vs other w spent them free' quiet));
      }

  -- two parts of one view do not both have spare numbers
  one_spare : (s : St bears entries named name seats) (o : H s) (id : ℕ) (v : View E N) → get_elem? s.views id ≡ some v → (v.mine.spare ≡ 0) ⊎ (v.told.spare ≡ 0)
  one_spare s o id v me = let ok = o.fits id v me in
      dite (ℕ_discrete v.mine.spare 0) (λ z. inl z) (λ nz. dite (ℕ_discrete v.told.spare 0) (λ z. inr z) (λ nz'.
      let a = ok.mine.top (omega arith) in let b = ok.told.top (omega arith) in let last : ℕ = seats - 1 in
      let p = span_has last v.mine.least v.mine.spare (omega arith) (omega arith) in let q = span_has last v.told.least v.told.spare (omega arith) (omega arith) in
      absurd (omega (arith, term_le (weigh (only last)) s.views id v me, o.numbers (only last), below-once last seats))))

  settle_allowed : (n id : ℕ) (v : View E N) (held : List (ℕ × Option T)) → Allows H n id (v, held) 0 (λ x. x) (settles bears entries named (any_step bears entries named name seats) (v, held))
  settle_allowed n id v held s o wide me fits =
      let w : View E N = settled v in let ok = o.fits id v me in let one = one_spare s o id v me in (
        w,
        keeps,
        tt,
        subst (λ (ws : List ℕ). H record { words = ws; homes = s.homes; views = set s.views id w }) (sym (set-get_or s.words 0 0)) record {
          now = o.now;
          waiting = o.waiting;
          log = o.log;
          words = o.words;
          slots = o.slots;
          seats_fit = o.seats_fit;
          next_is = o.next_is;
          now_is = o.now_is;
          tickets = λ h. omega (arith, total-set (λ x. total h x.tickets) s.views id v w me, o.tickets h);
          numbers = λ h. omega (arith, total-set (weigh h) s.views id v w me, o.numbers h, merged_weight bears h v.mine v.told one);
          borne = o.borne;
          fits = each_set (Ok bears entries named name seats o.now o.log) s.views id w
              record { desk = ok.desk; one = omega (arith, ok.one, length-append v.mine.own v.told.own); mine = merged_fits bears seats o.log v.mine v.told ok.mine ok.told; told = bare_fits bears seats o.log; turn = ok.turn }
              (λ j y ne at. o.fits j y at);
          home = λ quiet. o.home (λ k x e. dite (ℕ_discrete k id)
              (λ is. ap (λ (y : View E N). y.turn) (some-injective x v (sym e ∙ (ap (get_elem? s.views) is ∙ me))) ∙ quiet id w (set_here s.views id w (at_within s.views id v me)))
              (λ ne. quiet k x (set_else s.views id k w ne ∙ e)));
        },
        (refl, (longer_goes_on bears seats o.log v.mine v.told ok.mine ok.told).0, one),
      )

  pub settle_at : (n id : ℕ) (m : Place bears entries named name seats) → Allows H n id m 0 (λ x. x) (settles bears entries named (any_step bears entries named name seats) m)
  settle_at n id m = settle_allowed n id m.0 m.1

  -- a seat learns that no entry that it has seen bears a spare number
  pub unborne_at : (n id : ℕ) (m : Place bears entries named name seats) → Allows H n id m 0 (λ x. x) (unborne bears entries named (any_step bears entries named name seats) m)
  unborne_at n id m s o wide me fits =
      let v : View E N = m.0 in let mine = (o.fits id v me).mine in (
        v,
        keeps,
        tt,
        unmoved bears entries named name seats s o 0 id v me,
        (refl, All-left (λ e. span (only (bears e)) v.mine.least v.mine.spare ≡ 0) v.mine.seen mine.seen.0 (subst (Unused bears v.mine) mine.seen.1 mine.unused)),
      )

  -- where a view has every number, no other has one
  others_bare : (s : St bears entries named name seats) (o : H s) (id k : ℕ) (v u : View E N) → IsWhole seats v → k ≢ id → get_elem? s.views id ≡ some v → get_elem? s.views k ≡ some u → (l : List ℕ) → u.mine.own ≡ l → l ≡ []
  others_bare s o id k v u whole ne me them [] e = refl
  others_bare s o id k v u whole ne me them (x ∷ l) e =
      let each = o.numbers (only x) in let one = only-same x in let mine = ap (total (only x)) e in
      let le = terms_le (weigh (only x)) s.views id k v u ne me them in let once = below-once x seats in
      dite (dec_le seats x) (λ past. let no = below-none x seats past in absurd (omega arith)) (λ within. let w = whole x (omega arith) in absurd (omega arith))

  pub closes : (words : List ℕ) (slots : List (Option T)) (id : ℕ) (v : View E N) → IsWhole seats v → v.turn ≡ None → Final (Seen H id v) words slots
      → (value : T) × (get_elem? slots 0 ≡ some (Some value)) × (named value ≡ name) × (entries value ≡ v.mine.seen) × All (λ e. 0 < times (bears e) v.mine.own) (entries value) × All (λ e. bears e < seats) (entries value)
  closes words slots id v whole free final =
      let s = final.0 in let o = final.1.0 in let me = final.1.1 in let ok = o.fits id v me in
      let h = o.home (λ k u e. dite (ℕ_discrete k id)
      (λ is. ap (λ (y : View E N). y.turn) (some-injective u v (sym e ∙ (ap (get_elem? s.views) is ∙ me))) ∙ free)
      (λ ne. no_turn bears entries named name seats u.turn (λ taken noted.
      let f = o.fits k u e in let none-own = others_bare s o id k v u whole ne me e u.mine.own refl in let ticket = (f.turn taken noted).0 in
      absurd (omega (arith, f.one, ap length none-own, ap length ticket))))) in
      let own : All (λ e. 0 < times (bears e) v.mine.own) o.log = λ k d lt. let w = whole (bears (get_or o.log k d)) (o.borne k d lt) in let z = ok.mine.unused k d lt in omega arith in
      let none-left : (r : List E) → o.log ≡ v.mine.seen ++ r → NoneBorne bears v.mine.own r → r ≡ [] = elim [
        | [] ↦ λ e none-borne. refl
        | (x ∷ r) ↦ λ e none-borne.
            let P : E → Type 0 = λ y. 0 < times (bears y) v.mine.own in let mine = All-head P x r (All-right P v.mine.seen (x ∷ r) (subst (All P) e own)) in
            let not = All-head (λ y. times (bears y) v.mine.own ≡ 0) x r none-borne in absurd (omega arith)
      ] in
      let last = ok.mine.seen in (
        h.0,
        final.4 0 (Some h.0) h.1,
        h.3,
        h.2 ∙ (last.1 ∙ (ap (λ (l : List E). v.mine.seen ++ l) (none-left last.0 last.1 last.2) ∙ append-nil v.mine.seen)),
        subst (All (λ e. 0 < times (bears e) v.mine.own)) (sym h.2) own,
        subst (All (λ e. bears e < seats)) (sym h.2) o.borne,
      )

pub numbers_weigh : (h : ℕ → ℕ) (a n : ℕ) → total h (numbers_from a n) ≡ span h a n
numbers_weigh h a zero = refl
numbers_weigh h a (suc n) = omega (arith, numbers_weigh h (a + 1) n, span_first h a n)

-- from a seat's lists of numbers to its view
pub whole_of : {E N : Type 0} (seats : ℕ) (v : View E N) (least spare : ℕ) → v.mine.least ≡ least → v.mine.spare ≡ spare → ((k : ℕ) → k < seats → 0 < times k (v.mine.own ++ numbers_from least spare)) → IsWhole seats v
whole_of seats v least spare a b all k lt = let h = all k lt in
    omega (arith, total-append (only k) v.mine.own (numbers_from least spare), numbers_weigh (only k) least spare, ap (λ (x : ℕ). span (only k) x v.mine.spare) a, ap (span (only k) least) b)

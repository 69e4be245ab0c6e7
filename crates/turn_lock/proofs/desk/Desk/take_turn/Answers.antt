use Rattle.std.proofs.Common.{rules, refl, ap, sym, ◌∙◌, ◌∷◌, Some, arith, length, subst, ℕ, ◌+◌, ◌≤◌}
use Rattle.std.specs.Prelude.{IsSome}
use Rattle.atomic_table.specs.Table.{rest}
use Rattle.turn_lock.proofs.Sums.{same_first}
use Rattle.turn_lock.proofs.Steps.{draw_at, look_at, took, emptied, turned_to}
use Rattle.turn_lock.specs.Turns.{drawn}
use Rattle.turn_lock.specs.Seats.{numbers_from, part_of}
use Rattle.turn_lock.proofs.Owned.{own_found}
use Rattle.turn_lock.proofs.desk.Desk.take_turn.Goals as goal

pub fetch_add-ticket-requires : goal.fetch_add-ticket-requires
fetch_add-ticket-requires g c = let v = c.args.seat.now.place.me.0 in let free = c.requires.seat.1 in (
  c.requires.seat.0.0,
  search rules,
  draw_at g.T.Journalled.bears g.T.Journalled.entries g.T.Journalled.named _ _ _ _ _ v
      (ap (λ l. (v, l)) free.0) free.1.0 free.1.1 (omega (arith, ap length c.args.seat.now.numbered)),
)

pub load-serving-requires : goal.load-serving-requires
load-serving-requires g c = let inv = c.loop.invariant in let v = c.args.seat.now.place.me.0 in (
  inv.0 ∙ c.requires.seat.0.0,
  search rules,
  look_at g.T.Journalled.bears g.T.Journalled.entries g.T.Journalled.named _ _ _ _ inv.4.0 _ (drawn inv.4.0 v) inv.4.2 refl c.requires.seat.1.1.1,
)

pub exchange-requires : goal.exchange-requires
exchange-requires g c = let inv = c.loop.invariant in let v = c.args.seat.now.place.me.0 in
    let looked = c.load-serving.ensures.2 inv.4.0 (ap (λ m. m.0.tickets) inv.4.2) in
    let got = took g.T.Journalled.bears g.T.Journalled.entries g.T.Journalled.named _ _ v inv.4.0 inv.4.2 (looked.0 (c.if-serving-ticket.true ∙ inv.4.1)) in
    let out = ap (λ m. m.1) got.1 in
    (c.load-serving.ensures.0 ∙ (inv.0 ∙ c.requires.seat.0.0), (Some got.0, out ∙ ap (λ l. (0, Some got.0) ∷ rest l) (sym out)))

pub unwrap-requires : goal.unwrap-requires
unwrap-requires g c = let inv = c.loop.invariant in let v = c.args.seat.now.place.me.0 in
    let looked = c.load-serving.ensures.2 inv.4.0 (ap (λ m. m.0.tickets) inv.4.2) in
    let got = took g.T.Journalled.bears g.T.Journalled.entries g.T.Journalled.named _ _ v inv.4.0 inv.4.2 (looked.0 (c.if-serving-ticket.true ∙ inv.4.1)) in
    let left = emptied g.T.Journalled.bears g.T.Journalled.entries g.T.Journalled.named _ _ _ got.0 _ got.1 c.exchange.ensures.2 c.exchange.ensures.3 in
    subst IsSome (sym left.1) refl

pub invariant_of-seat-then-serving-ticket : goal.invariant_of-seat-then-serving-ticket
invariant_of-seat-then-serving-ticket g c = let inv = c.loop.invariant in let seat = c.args.seat.now in let v = seat.place.me.0 in
    let looked = c.load-serving.ensures.2 inv.4.0 (ap (λ m. m.0.tickets) inv.4.2) in
    let got = took g.T.Journalled.bears g.T.Journalled.entries g.T.Journalled.named _ _ v inv.4.0 inv.4.2 (looked.0 (c.if-serving-ticket.true ∙ inv.4.1)) in
    let now = (emptied g.T.Journalled.bears g.T.Journalled.entries g.T.Journalled.named _ _ _ got.0 _ got.1 c.exchange.ensures.2 c.exchange.ensures.3).0 in
    let mine = ap (λ m. m.0.mine) now in let told = ap (λ m. m.0.told) now in
    record {
      numbered = same_first _ v.mine.own _ _ (ap (λ p. p.own) mine) seat.numbered inv.1;
      spares = (ap (λ p. p.least) mine ∙ (seat.spares.0 ∙ sym inv.2), ap (λ p. p.spare) mine ∙ (seat.spares.1 ∙ sym inv.3));
      few = subst (λ (x : ℕ × ℕ). x.0 + x.1 ≤ 256) (λ i. (sym inv.2 i, sym inv.3 i)) seat.few;
      settled = (ap (λ p. p.own) told ∙ seat.settled.0, ap (λ p. p.spare) told ∙ seat.settled.1);
    }

pub invariant_of-seat-else-serving-ticket : goal.invariant_of-seat-else-serving-ticket
invariant_of-seat-else-serving-ticket g c = let inv = c.loop.invariant in let seat = c.args.seat.now in let v = seat.place.me.0 in
    let looked = c.load-serving.ensures.2 inv.4.0 (ap (λ m. m.0.tickets) inv.4.2) in
    let now = looked.1 (λ e. c.if-serving-ticket.false (e ∙ sym inv.4.1)) ∙ inv.4.2 in
    let mine = ap (λ m. m.0.mine) now in let told = ap (λ m. m.0.told) now in
    record {
      numbered = same_first _ v.mine.own _ _ (ap (λ p. p.own) mine) seat.numbered inv.1;
      spares = (ap (λ p. p.least) mine ∙ (seat.spares.0 ∙ sym inv.2), ap (λ p. p.spare) mine ∙ (seat.spares.1 ∙ sym inv.3));
      few = subst (λ (x : ℕ × ℕ). x.0 + x.1 ≤ 256) (λ i. (sym inv.2 i, sym inv.3 i)) seat.few;
      settled = (ap (λ p. p.own) told ∙ seat.settled.0, ap (λ p. p.spare) told ∙ seat.settled.1);
    }

pub returns-then-serving-ticket-clause-turn : goal.returns-then-serving-ticket-clause-turn
returns-then-serving-ticket-clause-turn g c = let inv = c.loop.invariant in let v = c.args.seat.now.place.me.0 in
    let looked = c.load-serving.ensures.2 inv.4.0 (ap (λ m. m.0.tickets) inv.4.2) in
    let now = turned_to g.T.Journalled.bears g.T.Journalled.entries g.T.Journalled.named _ _ _ v inv.4.0 _ _ inv.4.2 (looked.0 (c.if-serving-ticket.true ∙ inv.4.1)) c.exchange.ensures.2 c.exchange.ensures.3 c.unwrap.ensures in
    ((c.exchange.ensures.0 ∙ (c.load-serving.ensures.0 ∙ (inv.0 ∙ c.requires.seat.0.0)), ap (λ m. m.0.name) now.0 ∙ c.requires.seat.0.1), (ap (λ m. m.1) now.0, ap (λ m. m.0.turn) now.0))

pub returns-then-serving-ticket-clause-same : goal.returns-then-serving-ticket-clause-same
returns-then-serving-ticket-clause-same g c = let inv = c.loop.invariant in let v = c.args.seat.now.place.me.0 in
    let looked = c.load-serving.ensures.2 inv.4.0 (ap (λ m. m.0.tickets) inv.4.2) in
    let now = turned_to g.T.Journalled.bears g.T.Journalled.entries g.T.Journalled.named _ _ _ v inv.4.0 _ _ inv.4.2 (looked.0 (c.if-serving-ticket.true ∙ inv.4.1)) c.exchange.ensures.2 c.exchange.ensures.3 c.unwrap.ensures in
    ((inv.1, ap (λ m. m.0.mine.own) now.0, (λ i. numbers_from (inv.2 i) (inv.3 i))), ap (λ m. m.0.mine.seen) now.0)

pub returns-then-serving-ticket-clause-name : goal.returns-then-serving-ticket-clause-name
returns-then-serving-ticket-clause-name g c =
    let inv = c.loop.invariant in let v = c.args.seat.now.place.me.0 in
    let looked = c.load-serving.ensures.2 inv.4.0 (ap (λ m. m.0.tickets) inv.4.2) in
    let now = turned_to g.T.Journalled.bears g.T.Journalled.entries g.T.Journalled.named _ _ _ v inv.4.0 _ _ inv.4.2 (looked.0 (c.if-serving-ticket.true ∙ inv.4.1)) c.exchange.ensures.2 c.exchange.ensures.3 c.unwrap.ensures in
    now.1.0 _ c.requires.seat.0.1

pub returns-then-serving-ticket-clause-found : goal.returns-then-serving-ticket-clause-found
returns-then-serving-ticket-clause-found g c =
    let inv = c.loop.invariant in let v = c.args.seat.now.place.me.0 in
    let looked = c.load-serving.ensures.2 inv.4.0 (ap (λ m. m.0.tickets) inv.4.2) in
    let now = turned_to g.T.Journalled.bears g.T.Journalled.entries g.T.Journalled.named _ _ _ v inv.4.0 _ _ inv.4.2 (looked.0 (c.if-serving-ticket.true ∙ inv.4.1)) c.exchange.ensures.2 c.exchange.ensures.3 c.unwrap.ensures in
    now.1.1

pub returns-then-serving-ticket-clause-own : goal.returns-then-serving-ticket-clause-own
returns-then-serving-ticket-clause-own g c =
    let inv = c.loop.invariant in let v = c.args.seat.now.place.me.0 in
    let looked = c.load-serving.ensures.2 inv.4.0 (ap (λ m. m.0.tickets) inv.4.2) in
    let now = turned_to g.T.Journalled.bears g.T.Journalled.entries g.T.Journalled.named _ _ _ v inv.4.0 _ _ inv.4.2 (looked.0 (c.if-serving-ticket.true ∙ inv.4.1)) c.exchange.ensures.2 c.exchange.ensures.3 c.unwrap.ensures in
    own_found g.T.Journalled.bears (part_of c.args.seat.now) _ now.1.1

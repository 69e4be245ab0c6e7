use Rattle.std.proofs.Common.{rules, arith, refl, ap, sym, subst, ◌∙◌, ◌+◌, ◌-◌}
use Rattle.turn_lock.specs.Turns.{Unused}
use Rattle.turn_lock.specs.Seats.{own_entries}
use Rattle.turn_lock.proofs.Owned.{numbers_from_above, own_fresh}
use Rattle.turn_lock.proofs.Seats.{split_allowed, unborne_at}
use Rattle.turn_lock.proofs.desk.Desk.split_seat.Goals as goal

pub load-requires : goal.load-requires
load-requires g c = (c.requires.seat.0.0, search rules, unborne_at g.T.Journalled.bears g.T.Journalled.entries g.T.Journalled.named _ _ _ _ c.args.seat.now.place.me)

pub split_seat-place-requires : goal.split_seat-place-requires
split_seat-place-requires g c = let seat = c.args.seat.now in let has = c.if-seat-eq0.false in let same = c.load.ensures.2.0 in let count = ap (λ m. m.0.mine.spare) same ∙ seat.spares.1 in
    (c.load.ensures.0 ∙ c.requires.seat.0.0, search rules, split_allowed g.T.Journalled.bears g.T.Journalled.entries g.T.Journalled.named _ _ _ c.load.new.seat.me.0 (omega arith) (ap (λ m. m.0.turn) same ∙ c.requires.seat.1.1.1))

pub returns-clause-least : goal.returns-clause-least
returns-clause-least g c = let seat = c.args.seat.now in numbers_from_above seat.least (seat.least + 1) (seat.spare - 1) (omega arith)

pub returns-clause-fresh : goal.returns-clause-fresh
returns-clause-fresh g c = let seat = c.args.seat.now in let b = g.T.Journalled.bears in let has = c.if-seat-eq0.false in let same = c.load.ensures.2.0 in let count = ap (λ m. m.0.mine.spare) same ∙ seat.spares.1 in
    let w = c.load.new.seat.me.0.mine in
    ap (λ m. own_entries b m.0.mine.own m.0.mine.seen) c.split_seat-place.ensures.4 ∙ own_fresh b w w.least refl (omega arith) (subst (λ m. Unused b m.0.mine m.0.mine.seen) (sym same) c.load.ensures.2.1)

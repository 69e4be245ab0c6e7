use Rattle.std.proofs.Common.{rules, ap, ◌∙◌}
use Rattle.turn_lock.proofs.Owned.{own_settled}
use Rattle.turn_lock.proofs.Seats.{join_allowed, settle_at}
use Rattle.turn_lock.proofs.desk.Desk.join_seat.Goals as goal

pub join_seat-requires : goal.join_seat-requires
join_seat-requires g c = let seat = c.args.seat.now in let other = c.args.other in (
  c.requires.seat.0.0,
  c.requires.other.0.0,
  c.requires.other.1.0,
  search rules,
  join_allowed g.T.Journalled.bears g.T.Journalled.entries g.T.Journalled.named _ _ _ seat.place.me.0 _ other.place.me.0 seat.settled other.settled c.requires.seat.1.1.1 c.requires.other.1.1.1 c.requires.other.1.1.0,
)

pub load-requires : goal.load-requires
load-requires g c = (c.join_seat.ensures.0 ∙ c.requires.seat.0.0, search rules, settle_at g.T.Journalled.bears g.T.Journalled.entries g.T.Journalled.named _ _ _ _ c.join_seat.new.seat.me)

pub returns-then-seat-eq0-clause-own : goal.returns-then-seat-eq0-clause-own
returns-then-seat-eq0-clause-own g c = (own_settled g.T.Journalled.bears g.T.Journalled.entries g.T.Journalled.named _ _ c.args.seat.now.place.me.0 c.args.other.place.me.0 (ap (λ m. m.0) c.join_seat.ensures.2) c.load.ensures.2).0

pub returns-then-seat-eq0-clause-theirs : goal.returns-then-seat-eq0-clause-theirs
returns-then-seat-eq0-clause-theirs g c = (own_settled g.T.Journalled.bears g.T.Journalled.entries g.T.Journalled.named _ _ c.args.seat.now.place.me.0 c.args.other.place.me.0 (ap (λ m. m.0) c.join_seat.ensures.2) c.load.ensures.2).1

pub returns-else-seat-eq0-clause-own : goal.returns-else-seat-eq0-clause-own
returns-else-seat-eq0-clause-own g c = (own_settled g.T.Journalled.bears g.T.Journalled.entries g.T.Journalled.named _ _ c.args.seat.now.place.me.0 c.args.other.place.me.0 (ap (λ m. m.0) c.join_seat.ensures.2) c.load.ensures.2).0

pub returns-else-seat-eq0-clause-theirs : goal.returns-else-seat-eq0-clause-theirs
returns-else-seat-eq0-clause-theirs g c = (own_settled g.T.Journalled.bears g.T.Journalled.entries g.T.Journalled.named _ _ c.args.seat.now.place.me.0 c.args.other.place.me.0 (ap (λ m. m.0) c.join_seat.ensures.2) c.load.ensures.2).1

use Rattle.std.proofs.Common.{rules, ap, sym, subst, ◌≡◌, ◌∙◌, ◌∷◌, drop, Some}
use Rattle.atomic_table.specs.Table.{rest}
use Rattle.turn_lock.specs.Turns.{Adds}
use Rattle.turn_lock.specs.Seats.{own_entries}
use Rattle.turn_lock.proofs.Owned.{own_added}
use Rattle.turn_lock.proofs.Sums.{some_same}
use Rattle.turn_lock.proofs.Steps.{advance_at}
use Rattle.turn_lock.proofs.desk.Desk.give_back.Goals as goal

pub fetch_add-requires : goal.fetch_add-requires
fetch_add-requires g c = let turn = c.requires.turn in let v = c.args.seat.now.place.me.0 in let value = c.args.value in (
  c.exchange-left.ensures.0 ∙ c.requires.seat.0,
  search rules,
  advance_at g.T.Journalled.bears g.T.Journalled.entries g.T.Journalled.named _ _ _ _ c.args.seat.now.number _ v (drop 1 v.mine.own) turn.0 value
      (c.exchange-left.ensures.3 ∙ ap (λ l. (v, (0, Some value) ∷ rest l)) turn.1.0) c.args.seat.now.numbered turn.1.1 turn.2 c.requires.name,
)

pub returns-clause-own : goal.returns-clause-own
returns-clause-own g c taken added turn more = let asked = c.requires.turn in let seat = c.args.seat.now in let own = seat.place.me.0.mine.own in let b = g.T.Journalled.bears in
    let same : asked.0 ≡ taken = some_same asked.0 taken (sym asked.1.1 ∙ turn.1) in
    let adds : Adds b seat.number taken (g.T.Journalled.entries c.args.value) = subst (λ l. Adds b seat.number l (g.T.Journalled.entries c.args.value)) same asked.2 in
    let before = c.exchange-left.ensures.3 ∙ ap (λ l. (seat.place.me.0, (0, Some c.args.value) ∷ rest l)) asked.1.0 in
    ap (λ m. own_entries b own m.0.mine.seen) (c.fetch_add.ensures.2 c.args.value (ap (λ m. m.1) before)) ∙ own_added b own seat.number (drop 1 own) seat.numbered taken added _ adds more

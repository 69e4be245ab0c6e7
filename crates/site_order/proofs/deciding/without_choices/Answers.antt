use Rattle.site_order.proofs.Noting.{undecided_are}
use Rattle.site_order.proofs.deciding.without_choices.Goals as goal

pub returns : goal.returns
returns c = undecided_are c.in_ok-table.table c.args.choices.now c.args.sets.now c.in_ok-left.left c.in_ok-table.ensures c.in_ok-left.ensures

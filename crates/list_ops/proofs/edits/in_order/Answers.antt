use Rattle.std.proofs.Common.{◌∙◌, sym}
use Rattle.list_ops.proofs.Skipped.{nothing_ordered}
use Rattle.list_ops.proofs.edits.in_order.Goals as goal

pub returns-then-is_empty : goal.returns-then-is_empty
returns-then-is_empty g c = nothing_ordered g.T.PartialEq.eq c.args.ordered.now c.args.list (sym c.is_empty.ensures ∙ c.if-is_empty.true)

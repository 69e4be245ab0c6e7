use Rattle.std.proofs.Common.{◌∙◌, sym}
use Rattle.list_ops.proofs.Skipped.{nothing_deleted}
use Rattle.list_ops.proofs.edits.with_deleted.Goals as goal

pub returns-then-is_empty : goal.returns-then-is_empty
returns-then-is_empty g c = c.in_ok-list.ensures ∙ nothing_deleted g.T.PartialEq.eq c.args.deleted.now c.args.list (sym c.is_empty.ensures ∙ c.if-is_empty.true)

use Rattle.std.proofs.Common.{◌∙◌, sym}
use Rattle.list_ops.proofs.Skipped.{nothing_prepended}
use Rattle.list_ops.proofs.edits.with_prepended.Goals as goal

pub returns-then-is_empty : goal.returns-then-is_empty
returns-then-is_empty g c = nothing_prepended g.T.PartialEq.eq c.args.prepended.now c.args.list (sym c.is_empty.ensures ∙ c.if-is_empty.true)

use Rattle.std.proofs.Common.{◌∙◌, sym}
use Rattle.list_ops.proofs.Skipped.{nothing_appended}
use Rattle.list_ops.proofs.edits.with_appended.Goals as goal

pub returns-then-is_empty : goal.returns-then-is_empty
returns-then-is_empty g c = nothing_appended g.T.PartialEq.eq c.args.appended.now c.args.list (sym c.is_empty.ensures ∙ c.if-is_empty.true)

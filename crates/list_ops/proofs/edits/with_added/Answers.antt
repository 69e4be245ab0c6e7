use Rattle.std.proofs.Common.{◌∙◌, sym}
use Rattle.list_ops.proofs.Skipped.{nothing_added, added_to_none}
use Rattle.list_ops.proofs.edits.with_added.Goals as goal

pub returns-then-is_empty : goal.returns-then-is_empty
returns-then-is_empty g c = nothing_added g.T.PartialEq.eq c.args.added.now c.args.list (sym c.is_empty.ensures ∙ c.if-is_empty.true)

pub returns-then-is_empty-2 : goal.returns-then-is_empty-2
returns-then-is_empty-2 g c = c.in_ok-added.ensures ∙ added_to_none g.T.PartialEq.eq c.args.added.now c.args.list (c.is_empty-2.ensures.0 c.if-is_empty-2.true)

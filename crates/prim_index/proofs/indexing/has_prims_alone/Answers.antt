use Rattle.std.proofs.Common.{◌∙◌, sym}
use Rattle.prim_index.proofs.Alone.{with_property, without_property}
use Rattle.prim_index.proofs.indexing.has_prims_alone.Goals as goal

pub returns-then-is_property : goal.returns-then-is_property
returns-then-is_property c = with_property c.args.path.now (sym c.is_property.ensures ∙ c.if-is_property.true)

pub returns : goal.returns
returns c = c.is_plain.ensures ∙ without_property c.args.path.now (sym c.is_property.ensures ∙ c.if-is_property.false)

use Rattle.std.proofs.Common.{◌∙◌, ap}
use Rattle.prim_index.specs.Answer.{choices_in}
use Rattle.prim_index.proofs.Answering.{has_choices}
use Rattle.prim_index.proofs.indexing.PrimIndex.choices.Goals as goal

pub returns : goal.returns
returns c = has_choices c.self.inside.is_overgrown c.self.inside.choices c.self.inside.sites c.self.inside.faults c.self.invariant ∙ ap choices_in c.self.view_is

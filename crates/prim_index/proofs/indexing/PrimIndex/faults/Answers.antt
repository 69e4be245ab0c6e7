use Rattle.std.proofs.Common.{◌∙◌, ap}
use Rattle.prim_index.specs.Answer.{faults_in}
use Rattle.prim_index.proofs.Answering.{has_faults}
use Rattle.prim_index.proofs.indexing.PrimIndex.faults.Goals as goal

pub returns : goal.returns
returns c = c.as_slice.ensures ∙ has_faults c.self.inside.is_overgrown c.self.inside.choices c.self.inside.sites c.self.inside.faults c.self.invariant ∙ ap faults_in c.self.view_is

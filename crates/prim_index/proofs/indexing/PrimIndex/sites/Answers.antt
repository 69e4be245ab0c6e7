use Rattle.std.proofs.Common.{◌∙◌, ap}
use Rattle.prim_index.specs.Answer.{sites_in}
use Rattle.prim_index.proofs.Answering.{has_sites}
use Rattle.prim_index.proofs.indexing.PrimIndex.sites.Goals as goal

pub returns : goal.returns
returns c = c.as_slice.ensures ∙ has_sites c.self.inside.is_overgrown c.self.inside.choices c.self.inside.sites c.self.inside.faults c.self.invariant ∙ ap sites_in c.self.view_is

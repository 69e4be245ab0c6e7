use Rattle.std.proofs.Common.{◌∙◌, ap}
use Rattle.prim_index.specs.Answer.{is_none}
use Rattle.prim_index.proofs.Answering.{has_growth}
use Rattle.prim_index.proofs.indexing.PrimIndex.is_overgrown.Goals as goal

pub returns : goal.returns
returns c = has_growth c.self.inside.is_overgrown c.self.inside.choices c.self.inside.sites c.self.inside.faults ∙ ap is_none c.self.view_is

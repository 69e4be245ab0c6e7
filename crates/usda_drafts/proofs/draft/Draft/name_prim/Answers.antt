use Rattle.usda_drafts.specs.Prims.{named_prim}
use Rattle.usda_drafts.proofs.draft.Draft.name_prim.Goals as goal

pub returns-in-Ok : goal.returns-in-Ok
unfolding named_prim
returns-in-Ok c = rw c.in-Ok.ensures c.enter_prim.ensures

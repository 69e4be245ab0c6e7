use Rattle.usda_drafts.specs.Prims.{prim_name_act}
use Rattle.usda_drafts.proofs.draft.Draft.take_prim_name.Goals as goal

pub returns-in-Ok : goal.returns-in-Ok
unfolding prim_name_act
returns-in-Ok c = rw c.in-Ok.ensures c.name_prim.ensures

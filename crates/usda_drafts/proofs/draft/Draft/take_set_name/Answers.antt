use Rattle.usda_drafts.specs.Prims.{set_name_act}
use Rattle.usda_drafts.proofs.draft.Draft.take_set_name.Goals as goal

pub returns-in-Ok : goal.returns-in-Ok
unfolding set_name_act
returns-in-Ok c = rw c.in-Ok.ensures c.begin_set.ensures

use Rattle.usda_drafts.specs.Prims.{variant_name_act}
use Rattle.usda_drafts.proofs.draft.Draft.take_variant_name.Goals as goal

pub returns-in-Ok : goal.returns-in-Ok
unfolding variant_name_act
returns-in-Ok c = rw c.in-Ok.ensures c.name_variant.ensures

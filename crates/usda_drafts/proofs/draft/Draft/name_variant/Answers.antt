use Rattle.usda_drafts.specs.Prims.{named_variant}
use Rattle.usda_drafts.proofs.draft.Draft.name_variant.Goals as goal

pub returns-in-Ok : goal.returns-in-Ok
unfolding named_variant
returns-in-Ok c = rw c.in-Ok.ensures c.enter_variant.ensures

use Rattle.std.proofs.Common.{refl}
use Rattle.layer_apply.specs.Edits.{edit}
use Rattle.layer_apply.proofs.batches.edit_all.Goals as goal

pub loop-i-init : goal.loop-i-init
unfolding edit
loop-i-init c = refl

use Rattle.kept_stages.proofs.Machine.{kept_is_composed}
use Rattle.kept_stages.proofs.laws.a_kept_stage_is_the_composed_one.Goals as goal

pub returns : goal.returns
returns g c = kept_is_composed _ _ _ _

use Rattle.kept_stages.proofs.Dates.{dates_are_right}
use Rattle.kept_stages.proofs.laws.the_dates_of_a_kept_stage_are_right.Goals as goal

pub returns : goal.returns
returns g c = dates_are_right _ _ _ _

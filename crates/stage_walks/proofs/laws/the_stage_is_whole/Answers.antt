use Rattle.stage_walks.proofs.Whole.{stage_is_whole}
use Rattle.stage_walks.proofs.laws.the_stage_is_whole.Goals as goal

pub returns : goal.returns
returns c = stage_is_whole

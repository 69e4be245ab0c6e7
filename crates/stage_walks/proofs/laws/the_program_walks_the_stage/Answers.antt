use Rattle.stage_walks.proofs.Walks.{walks_the_stage}
use Rattle.stage_walks.proofs.laws.the_program_walks_the_stage.Goals as goal

pub returns : goal.returns
returns c = walks_the_stage

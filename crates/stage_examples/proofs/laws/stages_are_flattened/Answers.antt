use Rattle.stage_examples.proofs.Layers.{are_told}
use Rattle.stage_examples.proofs.laws.stages_are_flattened.Goals as goal

pub returns : goal.returns
returns c = are_told

use Rattle.layer_reads.proofs.ValueSteps.{value_stepped}
use Rattle.layer_reads.proofs.laws.values_are_stepped.Goals as goal

pub returns : goal.returns
returns c = value_stepped

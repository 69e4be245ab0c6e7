use Rattle.layer_reads.proofs.OpenValues.{value_taken}
use Rattle.layer_reads.proofs.laws.values_are_taken.Goals as goal

pub returns : goal.returns
returns c = value_taken

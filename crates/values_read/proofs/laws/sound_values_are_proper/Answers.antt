use Rattle.values_read.proofs.Proper.{sound_proper}
use Rattle.values_read.proofs.laws.sound_values_are_proper.Goals as goal

pub returns : goal.returns
returns c = sound_proper

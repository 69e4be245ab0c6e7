use Rattle.values_read.proofs.Keeps.{sound}
use Rattle.values_read.proofs.laws.read_values_are_sound.Goals as goal

pub returns : goal.returns
returns c = sound

use Rattle.values_read.proofs.Open.{open_sound}
use Rattle.values_read.proofs.laws.open_values_are_sound.Goals as goal

pub returns : goal.returns
returns c = open_sound

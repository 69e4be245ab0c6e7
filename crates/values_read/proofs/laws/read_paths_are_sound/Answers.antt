use Rattle.values_read.proofs.Paths.{paths_sound}
use Rattle.values_read.proofs.laws.read_paths_are_sound.Goals as goal

pub returns : goal.returns
returns c = paths_sound

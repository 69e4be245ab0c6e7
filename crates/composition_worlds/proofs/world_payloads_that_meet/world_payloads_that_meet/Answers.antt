-- World payloads_that_meet, by computing.
use Rattle.std.proofs.Common.{refl}
use Rattle.std.specs.Fmt.{digits}
use Rattle.composition.specs.Compose.{meaning}
use Rattle.composition_worlds.proofs.world_payloads_that_meet.world_payloads_that_meet.Goals as goal

pub returns : goal.returns
unfolding meaning digits
returns c = refl

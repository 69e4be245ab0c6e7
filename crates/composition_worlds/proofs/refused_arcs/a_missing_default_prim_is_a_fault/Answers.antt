-- By computing.
use Rattle.std.proofs.Common.{refl}
use Rattle.std.specs.Fmt.{digits}
use Rattle.composition.specs.Compose.{meaning}
use Rattle.composition_worlds.proofs.refused_arcs.a_missing_default_prim_is_a_fault.Goals as goal

pub returns : goal.returns
unfolding digits meaning
returns c = refl

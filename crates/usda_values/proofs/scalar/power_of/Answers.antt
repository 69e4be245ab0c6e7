use Rattle.std.proofs.Common.{arith}
use Rattle.std.proofs.lemmas.Int.{ints}
use Rattle.usda_values.proofs.Powers.{power_fits}
use Rattle.usda_values.proofs.scalar.power_of.Goals as goal

pub pow-requires : goal.pow-requires
pow-requires c = power_fits _ (omega (arith, ints))

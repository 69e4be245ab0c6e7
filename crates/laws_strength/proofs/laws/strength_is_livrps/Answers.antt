use Rattle.laws_strength.proofs.Livrps.{is_livrps}
use Rattle.laws_strength.proofs.laws.strength_is_livrps.Goals as goal

pub returns : goal.returns
returns c = is_livrps

use Rattle.laws_strength.proofs.Last.{come_last}
use Rattle.laws_strength.proofs.laws.specializes_come_last.Goals as goal

pub returns : goal.returns
returns c = come_last

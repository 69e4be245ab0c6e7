use Rattle.choice_rounds.proofs.Rounds.{composition_chooses}
use Rattle.choice_rounds.proofs.laws.composition_chooses_by_rounds.Goals as goal

pub returns : goal.returns
returns c = composition_chooses

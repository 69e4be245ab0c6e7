use Rattle.asset_names.proofs.Normalised.{stays_is}
use Rattle.asset_names.proofs.laws.normalised_names_stay.Goals as goal

pub returns : goal.returns
returns c = stays_is

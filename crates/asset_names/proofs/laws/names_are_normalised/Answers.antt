use Rattle.asset_names.proofs.Normalised.{normal_is, anchored_is}
use Rattle.asset_names.proofs.laws.names_are_normalised.Goals as goal

pub returns : goal.returns
returns c = record { alone = normal_is; anchored = anchored_is }

use Rattle.asset_names.proofs.Normalised.{segments_are}
use Rattle.asset_names.proofs.laws.segments_are_the_parts_between_slashes.Goals as goal

pub returns : goal.returns
returns c = segments_are

use Rattle.values_read.proofs.Placed.{owners_have_paths}
use Rattle.values_read.proofs.laws.owners_have_paths.Goals as goal

pub returns : goal.returns
returns c = owners_have_paths

use Rattle.fields_read.proofs.Keys.{metadata_read}
use Rattle.fields_read.proofs.laws.read_metadata_is_proper.Goals as goal

pub returns : goal.returns
returns c = metadata_read

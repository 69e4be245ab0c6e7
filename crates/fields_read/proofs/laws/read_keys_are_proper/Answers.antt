use Rattle.fields_read.proofs.Keys.{keys_read}
use Rattle.fields_read.proofs.laws.read_keys_are_proper.Goals as goal

pub returns : goal.returns
returns c = keys_read

use Rattle.fields_read.proofs.FieldActs.{lists_read}
use Rattle.fields_read.proofs.laws.read_lists_are_proper.Goals as goal

pub returns : goal.returns
returns c = lists_read

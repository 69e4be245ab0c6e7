use Rattle.fields_read.proofs.Others.{others_read}
use Rattle.fields_read.proofs.laws.selections_and_orders_are_read.Goals as goal

pub returns : goal.returns
returns c = others_read

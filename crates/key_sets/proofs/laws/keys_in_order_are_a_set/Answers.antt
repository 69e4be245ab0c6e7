use Rattle.key_sets.proofs.Order.{keys_in_order}
use Rattle.key_sets.proofs.laws.keys_in_order_are_a_set.Goals as goal

pub returns : goal.returns
returns c = keys_in_order

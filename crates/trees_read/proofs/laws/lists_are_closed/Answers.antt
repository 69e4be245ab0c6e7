use Rattle.trees_read.proofs.ListKept.{read_lists}
use Rattle.trees_read.proofs.laws.lists_are_closed.Goals as goal

pub returns : goal.returns
returns c = read_lists

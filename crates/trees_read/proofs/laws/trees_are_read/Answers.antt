use Rattle.trees_read.proofs.Texts.{read_trees}
use Rattle.trees_read.proofs.laws.trees_are_read.Goals as goal

pub returns : goal.returns
returns c = read_trees

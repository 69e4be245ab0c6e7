use Rattle.laws_extending.proofs.Stages.{trees_extend}
use Rattle.laws_extending.proofs.laws.a_tree_extends_its_parents.Goals as goal

pub returns : goal.returns
returns c = trees_extend

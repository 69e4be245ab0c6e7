use Rattle.laws_extending.proofs.ThinStages.{thin_trees_extend}
use Rattle.laws_extending.proofs.laws.an_index_extends_its_parents.Goals as goal

pub returns : goal.returns
returns c = thin_trees_extend

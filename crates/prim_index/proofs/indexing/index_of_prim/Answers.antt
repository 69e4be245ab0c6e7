use Rattle.composition.specs.Paths.{limits}
use Rattle.layer_set.specs.LookUps.{look_ups}
use Rattle.prim_trees.specs.Meant.{meant}
use Rattle.prim_index.proofs.Answering.{index_result}
use Rattle.prim_index.proofs.indexing.index_of_prim.Goals as goal

pub returns : goal.returns
returns c = index_result limits (look_ups c.args.world.now) c.args.place.now (meant c.in_ok-tree.tree) c.index_of.result c.in_ok-tree.ensures c.index_of.ensures

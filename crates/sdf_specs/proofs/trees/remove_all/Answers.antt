use Rattle.sdf_specs.specs.Layers.{without_paths}
use Rattle.sdf_specs.proofs.TreeLemmas.{one_removed}
use Rattle.sdf_specs.proofs.trees.remove_all.Goals as goal

pub loop-path-preserved : goal.loop-path-preserved
loop-path-preserved g c =
    one_removed c.args.paths.now c.loop-path.path-index c.path-item.result c.loop-path.specs c.remove.new.self (without_paths c.args.paths.now c.args.specs.now)
    c.loop-path-test.true c.path-item.is c.in_ok-remove.ensures.ok c.loop-path.invariant

use Rattle.std.proofs.Common.{take}
use Rattle.layer_changes.specs.Covering.{HasSpec}
use Rattle.layer_changes.proofs.Walks.{more_hold, all_hold, specs_kept}
use Rattle.layer_changes.proofs.trees.add_specs.Goals as goal

pub loop-path-preserved : goal.loop-path-preserved
loop-path-preserved c = (
  more_hold (HasSpec c.add_spec.new.keys.keys c.args.name.now) c.args.paths.now c.loop-path.path-index c.path-item.result c.loop-path-test.true c.path-item.is
      (specs_kept c.loop-path.keys.keys c.add_spec.new.keys.keys c.args.name.now (take c.loop-path.path-index c.args.paths.now) c.in_ok-add_spec.ensures.kept c.loop-path.invariant.0)
      c.in_ok-add_spec.ensures.added,
  λ k has. c.in_ok-add_spec.ensures.kept k (c.loop-path.invariant.1 k has),
)

pub returns-clause-added : goal.returns-clause-added
returns-clause-added c = all_hold (HasSpec c.loop-path.keys.keys c.args.name.now) c.args.paths.now c.loop-path.path-index c.loop-path-test.false c.loop-path.invariant.0

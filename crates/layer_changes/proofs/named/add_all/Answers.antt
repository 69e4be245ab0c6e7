use Rattle.std.proofs.Common.{subst, take}
use Rattle.std.specs.List.{Contains}
use Rattle.layer_changes.specs.declared.part.Part.{Part}
use Rattle.layer_changes.proofs.Walks.{more_hold, all_hold, parts_kept}
use Rattle.layer_changes.proofs.named.add_all.Goals as goal

pub loop-part-preserved : goal.loop-part-preserved
loop-part-preserved c = (
  more_hold (Contains c.add.new.set.keys) c.args.parts.now c.loop-part.part-index c.part-item.result c.loop-part-test.true c.part-item.is
      (parts_kept c.loop-part.set.keys c.add.new.set.keys (take c.loop-part.part-index c.args.parts.now) c.in_ok-add.ensures.kept c.loop-part.invariant.0)
      (subst (λ (p : Part). Contains c.add.new.set.keys p) c.in_ok-copy.ensures c.in_ok-add.ensures.added),
  λ k has. c.in_ok-add.ensures.kept k (c.loop-part.invariant.1 k has),
)

pub returns-clause-added : goal.returns-clause-added
returns-clause-added c = all_hold (Contains c.loop-part.set.keys) c.args.parts.now c.loop-part.part-index c.loop-part-test.false c.loop-part.invariant.0

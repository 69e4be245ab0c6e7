use Rattle.std.proofs.Common.{◌∙◌, sym, ap, List, ◌++◌, append-nil}
use Rattle.composition.specs.Nodes.{Tried}
use Rattle.layer_set.specs.LookUps.{look_ups}
use Rattle.prim_index.proofs.Saying.{tried_unseen}
use Rattle.prim_index.proofs.reading.push_level.Goals as goal

pub returns-then-not-is_looked_at : goal.returns-then-not-is_looked_at
returns-then-not-is_looked_at c =
    sym (ap (λ (r : List Tried). c.args.out.now ++ r)
    (tried_unseen (look_ups c.args.world.now) c.args.node.now c.args.kind c.args.level c.args.said.now c.is_looked_at.result c.is_looked_at.ensures c.if-not-is_looked_at.true)
    ∙ append-nil c.args.out.now)

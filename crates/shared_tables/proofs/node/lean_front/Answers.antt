use Rattle.shared_tables.specs.Trees.{entries}
use Rattle.shared_tables.proofs.Nodes.{node_is, if_made, leant_front}
use Rattle.shared_tables.proofs.node.lean_front.Goals as goal

pub returns : goal.returns
returns g c = if_made (λ n. entries n.value) _ _ (leant_front _ _ _ _ _ _ _ _ (node_is c.args.after.now) c.in_ok-last.ensures c.in_ok-back.ensures) _ c.divided.ensures

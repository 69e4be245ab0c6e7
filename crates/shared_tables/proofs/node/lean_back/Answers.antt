use Rattle.shared_tables.specs.Trees.{entries}
use Rattle.shared_tables.proofs.Nodes.{node_is, if_made, leant_back}
use Rattle.shared_tables.proofs.node.lean_back.Goals as goal

pub returns : goal.returns
returns g c = if_made (λ n. entries n.value) _ _ (leant_back _ _ _ _ _ _ _ _ (node_is c.args.before.now) c.in_ok-front.ensures c.in_ok-first.ensures) _ c.divided.ensures

use Rattle.shared_tables.specs.Trees.{entries}
use Rattle.shared_tables.proofs.Nodes.{if_made, joined_front, joined_back}
use Rattle.shared_tables.proofs.node.divided.Goals as goal

pub returns-in_ok-front : goal.returns-in_ok-front
returns-in_ok-front g c = if_made (λ n. entries n.value) _ _ (joined_front _ _ _ _ _ _ _ _ c.first.view_is c.in_ok-front.ensures c.in_ok-shared.ensures) _ c.joined-then-height.ensures

pub returns-in_ok-back : goal.returns-in_ok-back
returns-in_ok-back g c = if_made (λ n. entries n.value) _ _ (joined_back _ _ _ _ _ _ _ c.in_ok-back.ensures c.in_ok-shared-2.ensures) _ c.joined-else-height-2.ensures

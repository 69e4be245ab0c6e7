use Rattle.std.proofs.Common.{refl, sym, ap, ◌∙◌}
use Rattle.shared_tables.specs.Trees.{entries, link_entries}
use Rattle.shared_tables.proofs.Nodes.{node_is, first_here, first_below}
use Rattle.shared_tables.proofs.remove.+split_first.Goals as goal

pub returns-in_ok-shared-in-None-2 : goal.returns-in_ok-shared-in-None-2
returns-in_ok-shared-in-None-2 g t c = first_here _ _ _ _ _ _ (node_is c.args.node.now) (ap link_entries c.in-None.is) c.in_ok-shared-in-None.ensures c.in_ok-shared-in-None-2.ensures

pub returns-in_ok-tree-in-Some : goal.returns-in_ok-tree-in-Some
returns-in_ok-tree-in-Some g t c =
    let below = ap link_entries c.in-Some.is ∙ ap entries (sym c.deref.ensures) ∙ c.in_ok-first-in-Some.ensures in
    first_below _ _ _ _ _ _ _ _ _ (node_is c.args.node.now) below refl refl c.in_ok-tree-in-Some.ensures

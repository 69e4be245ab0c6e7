use Rattle.std.proofs.Common.{sym, ap, ◌∙◌}
use Rattle.shared_tables.specs.Trees.{entries, link_entries}
use Rattle.shared_tables.proofs.Nodes.{met}
use Rattle.shared_tables.proofs.remove.together.Goals as goal

pub returns-in_ok-tree-in-Some : goal.returns-in_ok-tree-in-Some
returns-in_ok-tree-in-Some g c = met _ _ _ _ _ _ c.in_ok-front-in-Some.ensures (ap link_entries c.in-Some.is ∙ ap entries (sym c.deref.ensures) ∙ c.in_ok-first-in-Some.ensures) c.in_ok-tree-in-Some.ensures

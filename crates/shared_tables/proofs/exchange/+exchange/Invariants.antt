use Rattle.std.proofs.Common.{length}
use Rattle.shared_tables.specs.Trees.{link_entries}
use Rattle.shared_tables.proofs.exchange.+exchange.Given as goal

abbrev pub decreases-exchange : goal.decreases-exchange
decreases-exchange g l = length (link_entries l.tree.now)

use Rattle.std.proofs.Common.{length}
use Rattle.spec_tables.proofs.insert.+move_to_tree.Given as goal

abbrev pub decreases-move_to_tree : goal.decreases-move_to_tree
decreases-move_to_tree g l = length l.entries.now.items

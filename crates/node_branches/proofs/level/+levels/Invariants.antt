use Rattle.std.proofs.Common.{length}
use Rattle.node_branches.proofs.level.+levels.Given as goal

abbrev pub decreases-levels : goal.decreases-levels
decreases-levels l = length l.elements.now

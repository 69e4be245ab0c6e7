use Rattle.std.proofs.Common.{length}
use Rattle.prim_view.proofs.exact_view.+same_choices.Given as goal

abbrev pub decreases-same_choices : goal.decreases-same_choices
decreases-same_choices l = length l.a.now

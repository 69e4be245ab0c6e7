use Rattle.std.proofs.Common.{◌≡◌, ◌++◌}
use Rattle.arc_expand.proofs.authored.push_selections.Given as goal

abbrev pub invariant-loop-set : goal.invariant-loop-set
invariant-loop-set l = l.out ++ l.set-iterator ≡ l.initial.out ++ l.selections

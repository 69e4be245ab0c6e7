use Rattle.std.proofs.Common.{◌≡◌, length}
use Rattle.usda_grammar.specs.Machine.{is_done}
use Rattle.usda_machine.specs.Stacks.{stack_of}
use Rattle.usda_machine.proofs.is_done.Given as goal

abbrev pub invariant-loop-symbol : goal.invariant-loop-symbol
invariant-loop-symbol l = is_done (stack_of l.stack) ≡ is_done (stack_of l.initial.stack)

abbrev pub decreases-loop-symbol : goal.decreases-loop-symbol
decreases-loop-symbol l = length l.stack

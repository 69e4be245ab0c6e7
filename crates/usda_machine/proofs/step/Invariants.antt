use Rattle.std.proofs.Common.{◌≡◌, length}
use Rattle.usda_grammar.specs.Machine.{step}
use Rattle.usda_machine.specs.Stacks.{stack_of}
use Rattle.usda_machine.proofs.step.Given as goal

abbrev pub invariant-loop-symbol : goal.invariant-loop-symbol
invariant-loop-symbol l = step (stack_of l.stack) l.kind ≡ step (stack_of l.initial.stack) l.kind

abbrev pub decreases-loop-symbol : goal.decreases-loop-symbol
decreases-loop-symbol l = length l.stack

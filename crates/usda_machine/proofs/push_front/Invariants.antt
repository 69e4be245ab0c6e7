use Rattle.std.proofs.Common.{◌≡◌, ◌-◌, ◌++◌, drop}
use Rattle.usda_machine.specs.Stacks.{stack_of}
use Rattle.usda_machine.proofs.push_front.Given as goal

abbrev pub invariant-loop-i : goal.invariant-loop-i
invariant-loop-i l = stack_of l.stack ≡ drop (l.count - l.i) l.after ++ stack_of l.initial.stack

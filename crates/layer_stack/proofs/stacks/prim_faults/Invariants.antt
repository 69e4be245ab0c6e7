use Rattle.std.proofs.Common.{◌≡◌, map, take}
use Rattle.prim_view.specs.declared.fault.PrimFault.TheVariants.{Sublayer}
use Rattle.layer_stack.proofs.stacks.prim_faults.Given as goal

abbrev pub invariant-loop-fault : goal.invariant-loop-fault
invariant-loop-fault l = l.all ≡ map Sublayer (take l.fault-index l.fault-items)

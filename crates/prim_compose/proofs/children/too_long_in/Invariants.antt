use Rattle.std.proofs.Common.{◌≡◌, take}
use Rattle.prim_compose.specs.Room.{too_long_in}
use Rattle.prim_compose.proofs.children.too_long_in.Given as goal

abbrev pub invariant-loop-name : goal.invariant-loop-name
invariant-loop-name l = l.faults ≡ too_long_in l.room (take l.name-index l.names)

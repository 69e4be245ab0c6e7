use Rattle.std.proofs.Common.{◌≡◌, take}
use Rattle.prim_compose.specs.Room.{listed_in}
use Rattle.prim_compose.proofs.children.listed_in.Given as goal

abbrev pub invariant-loop-name : goal.invariant-loop-name
invariant-loop-name l = l.listed ≡ listed_in l.room (take l.name-index l.names)

use Rattle.std.proofs.Common.{◌≡◌, ◌++◌, take}
use Rattle.layer_set.specs.LookUps.{look_ups}
use Rattle.prim_opinions.specs.Gathering.{said_in}
use Rattle.prim_opinions.proofs.gather.push_said_in.Given as goal

abbrev pub invariant-loop-layer : goal.invariant-loop-layer
invariant-loop-layer l = l.out ≡ l.initial.out ++ said_in (look_ups l.world) l.site (take l.layer-index l.layers)

use Rattle.std.proofs.Common.{◌≡◌, take}
use Rattle.std.specs.Prelude.{flat_map}
use Rattle.layer_set.specs.LookUps.{look_ups}
use Rattle.prim_compose.specs.Composed.{namings_of}
use Rattle.prim_compose.proofs.root.root_names.Given as goal

abbrev pub invariant-loop-layer : goal.invariant-loop-layer
invariant-loop-layer l = l.edits.items ≡ flat_map (λ e. namings_of ((look_ups l.world).roots e.0)) (take l.layer-index l.layers)

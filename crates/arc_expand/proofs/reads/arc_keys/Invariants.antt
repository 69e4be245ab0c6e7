use Rattle.std.proofs.Common.{◌≡◌, map, take}
use Rattle.layer_set.specs.declared.key.Key.TheVariants.{Arcs}
use Rattle.arc_expand.proofs.reads.arc_keys.Given as goal

abbrev pub invariant-loop-layer : goal.invariant-loop-layer
invariant-loop-layer l = l.keys ≡ map (λ e. Arcs e.0 l.at) (take l.layer-index l.layers)

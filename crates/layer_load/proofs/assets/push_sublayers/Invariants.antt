use Rattle.std.proofs.Common.{◌≡◌, ◌++◌, drop, map}
use Rattle.spec_parts.specs.declared.items.SubLayer.{SubLayer}
use Rattle.layer_load.proofs.assets.push_sublayers.Given as goal

abbrev pub invariant-loop-sublayer : goal.invariant-loop-sublayer
invariant-loop-sublayer l = l.out ++ map (λ (s : SubLayer). s.asset) (drop l.sublayer-index l.sublayers) ≡ l.fn.out ++ map (λ (s : SubLayer). s.asset) l.sublayers

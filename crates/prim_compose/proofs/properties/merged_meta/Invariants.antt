use Rattle.std.proofs.Common.{◌≡◌, map, take}
use Rattle.composition.specs.Merging.{merged_all}
use Rattle.composition.specs.Views.{property_meta}
use Rattle.prim_compose.proofs.properties.merged_meta.Given as goal

abbrev pub invariant-loop-spec : goal.invariant-loop-spec
invariant-loop-spec l = l.meta ≡ merged_all (map (λ p. property_meta p.property) (take l.spec-index l.specs))

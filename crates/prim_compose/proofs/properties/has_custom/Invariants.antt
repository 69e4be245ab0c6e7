use Rattle.std.proofs.Common.{◌≡◌, drop}
use Rattle.std.specs.List.{list_any}
use Rattle.composition.specs.Views.{is_custom}
use Rattle.prim_compose.proofs.properties.has_custom.Given as goal

abbrev pub invariant-loop-spec : goal.invariant-loop-spec
invariant-loop-spec l = list_any (λ p. is_custom p.property) (drop l.spec-index l.specs) ≡ list_any (λ p. is_custom p.property) l.specs

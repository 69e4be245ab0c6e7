use Rattle.std.proofs.Common.{◌≡◌, map, take}
use Rattle.field_resolve.specs.Folding.{properties_edit}
use Rattle.field_resolve.proofs.names.properties_edits.Given as goal

abbrev pub invariant-loop-opinion : goal.invariant-loop-opinion
invariant-loop-opinion l = l.edits.items ≡ map (λ s. properties_edit s.spec.body) (take l.opinion-index l.said)

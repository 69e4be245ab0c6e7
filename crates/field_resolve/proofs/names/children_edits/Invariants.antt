use Rattle.std.proofs.Common.{◌≡◌, map, take}
use Rattle.field_resolve.specs.Folding.{children_edit}
use Rattle.field_resolve.proofs.names.children_edits.Given as goal

abbrev pub invariant-loop-opinion : goal.invariant-loop-opinion
invariant-loop-opinion l = l.edits.items ≡ map (λ s. children_edit s.spec.body) (take l.opinion-index l.said)

use Rattle.std.proofs.Common.{◌≡◌, map, take}
use Rattle.composition.specs.Merging.{merged_all}
use Rattle.field_resolve.proofs.fields.meta_of.Given as goal

abbrev pub invariant-loop-opinion : goal.invariant-loop-opinion
invariant-loop-opinion l = l.meta ≡ merged_all (map (λ s. s.spec.body.meta) (take l.opinion-index l.said))

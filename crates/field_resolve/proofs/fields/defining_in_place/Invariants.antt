use Rattle.std.proofs.Common.{◌≡◌, not, filter, drop}
use Rattle.composition.specs.Fields.{defining}
use Rattle.field_resolve.proofs.fields.defining_in_place.Given as goal

abbrev pub invariant-loop-opinion : goal.invariant-loop-opinion
invariant-loop-opinion l = defining (filter (λ s. not s.site.by_class) (drop l.opinion-index l.said)) ≡ defining (filter (λ s. not s.site.by_class) l.said)

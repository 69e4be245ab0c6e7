use Rattle.std.proofs.Common.{◌≡◌, filter, drop}
use Rattle.composition.specs.Fields.{defining}
use Rattle.field_resolve.proofs.fields.defining_by_class.Given as goal

abbrev pub invariant-loop-opinion : goal.invariant-loop-opinion
invariant-loop-opinion l = defining (filter (λ s. s.site.by_class) (drop l.opinion-index l.said)) ≡ defining (filter (λ s. s.site.by_class) l.said)

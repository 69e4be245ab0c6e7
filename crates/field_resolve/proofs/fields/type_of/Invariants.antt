use Rattle.std.proofs.Common.{◌≡◌, drop}
use Rattle.composition.specs.Fields.{type_of}
use Rattle.field_resolve.proofs.fields.type_of.Given as goal

abbrev pub invariant-loop-opinion : goal.invariant-loop-opinion
invariant-loop-opinion l = type_of (drop l.opinion-index l.said) ≡ type_of l.said

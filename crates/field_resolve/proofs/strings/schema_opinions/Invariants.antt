use Rattle.std.proofs.Common.{◌≡◌, map, filter, take}
use Rattle.list_ops.specs.Opinions.{is_opinion}
use Rattle.field_resolve.proofs.strings.schema_opinions.Given as goal

abbrev pub invariant-loop-opinion : goal.invariant-loop-opinion
invariant-loop-opinion l = l.opinions.items ≡ filter is_opinion (map (λ s. s.spec.body.api_schemas) (take l.opinion-index l.said))

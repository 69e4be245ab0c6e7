use Rattle.std.proofs.Common.{◌∙◌, sym, ap, List}
use Rattle.spec_properties.specs.Properties.{property_at}
use Rattle.composition.specs.Values.{PropertySaid}
use Rattle.prim_opinions.specs.Counting.{with_property_of}
use Rattle.prim_opinions.proofs.Counted.{none_counted, counted_next}
use Rattle.prim_opinions.proofs.counting.specs_of.Goals as goal

pub loop-opinion-init : goal.loop-opinion-init
loop-opinion-init c = c.new-specs.ensures ∙ sym (none_counted c.args.name.now)

pub loop-opinion-preserved : goal.loop-opinion-preserved
loop-opinion-preserved c =
    c.in_ok-push_property_of.ensures
    ∙ (ap (λ (ps : List PropertySaid). with_property_of ps c.opinion-item.result (property_at c.args.name.now c.opinion-item.result.spec.body.properties)) c.loop-opinion.invariant
    ∙ counted_next c.args.name.now c.args.said.now c.loop-opinion.opinion-index c.opinion-item.result c.loop-opinion-test.true c.opinion-item.is)

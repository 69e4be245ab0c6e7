use Rattle.std.proofs.Common.{◌∙◌, ap, refl, arith, List, ◌++◌}
use Rattle.std.proofs.lemmas.List.{take_all}
use Rattle.prim_view.specs.declared.fault.PrimFault.{PrimFault}
use Rattle.composition.specs.Values.{given}
use Rattle.value_resolve.specs.declared.decision.Decision.{Decision}
use Rattle.value_resolve.specs.Deciding.{decided_next}
use Rattle.value_resolve.specs.Resolving.{fault_if}
use Rattle.value_resolve.proofs.Decided.{decided, none_decided, none_fault, decided_at, faults_at, default_decided, samples_decided}
use Rattle.value_resolve.proofs.attr.resolve_attr_by.Goals as goal

pub loop-opinion-init : goal.loop-opinion-init
loop-opinion-init c = record { decision = c.open-decision.ensures ∙ none_decided; faults = c.new-faults.ensures ∙ none_fault c.args.name.now }

pub loop-opinion-preserved : goal.loop-opinion-preserved
loop-opinion-preserved c = record {
  decision = c.in_ok-take_opinion.ensures.decision
      ∙ (ap (λ (d : Decision). decided_next d (given c.opinion-item.result)) c.loop-opinion.invariant.decision
      ∙ decided_at c.args.specs.now c.loop-opinion.opinion-index c.opinion-item.result c.loop-opinion-test.true c.opinion-item.is);
  faults = c.in_ok-take_opinion.ensures.faults
      ∙ (ap (λ (fs : List PrimFault). fs ++ fault_if c.args.name.now c.opinion-item.result.said (given c.opinion-item.result).left_out) c.loop-opinion.invariant.faults
      ∙ faults_at c.args.name.now c.args.specs.now c.loop-opinion.opinion-index c.opinion-item.result c.loop-opinion-test.true c.opinion-item.is
      c.opinion-item.result.said (given c.opinion-item.result).left_out refl refl);
}

pub returns-clause-default : goal.returns-clause-default
returns-clause-default c =
    ap (λ (d : Decision). d.default) (c.loop-opinion.invariant.decision ∙ ap decided (take_all c.loop-opinion.opinion-index c.args.specs.now (omega arith)))
    ∙ default_decided c.args.specs.now

pub returns-clause-samples : goal.returns-clause-samples
returns-clause-samples c =
    ap (λ (d : Decision). d.samples) (c.loop-opinion.invariant.decision ∙ ap decided (take_all c.loop-opinion.opinion-index c.args.specs.now (omega arith)))
    ∙ samples_decided c.args.specs.now

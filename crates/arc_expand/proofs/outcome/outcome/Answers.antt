use Rattle.std.proofs.Common.{◌∙◌, ap}
use Rattle.std.proofs.lemmas.Result.{IfOk-weaker}
use Rattle.composition.specs.Texts.{Text}
use Rattle.composition.specs.World.{StackName, stack_of}
use Rattle.layer_set.specs.LookUps.{look_ups, heading_of}
use Rattle.layer_set.specs.declared.held.Held.{Held}
use Rattle.arc_expand.specs.Outcomes.{outcome_within}
use Rattle.arc_expand.proofs.Outcomes.{own_outcome, named_outcome, unanchored_outcome}
use Rattle.arc_expand.proofs.outcome.outcome.Goals as goal

pub returns-in-Own : goal.returns-in-Own
returns-in-Own c =
    IfOk-weaker c.outcome_within.result _ _
    (λ o is.
    is
    ∙ (ap (λ (h : Held). outcome_within (look_ups c.args.world.now) c.args.stack.now.name c.args.item.now (heading_of h)) c.held-held.ensures
    ∙ (ap (λ (n : Text). outcome_within (look_ups c.args.world.now) c.args.stack.now.name c.args.item.now ((look_ups c.args.world.now).heading n)) c.first_layer.ensures
    ∙ own_outcome (look_ups c.args.world.now) c.args.stack.now.name c.args.item.now c.in-Own.is)))
    c.outcome_within.ensures

pub returns-in_ok-stack-in-Named : goal.returns-in_ok-stack-in-Named
returns-in_ok-stack-in-Named c =
    IfOk-weaker c.outcome_within-outcome.result _ _
    (λ o is.
    is
    ∙ (ap (λ (h : Held). outcome_within (look_ups c.args.world.now) c.in_ok-stack-in-Named.stack.name c.args.item.now (heading_of h)) c.held.ensures
    ∙ (ap (λ (s : StackName). outcome_within (look_ups c.args.world.now) s c.args.item.now ((look_ups c.args.world.now).heading c.in-Named.name))
    (c.in_ok-stack-in-Named.ensures.name ∙ ap (λ (n : Text). stack_of (look_ups c.args.world.now) n) c.in_ok-copy-in-Named.ensures)
    ∙ named_outcome (look_ups c.args.world.now) c.args.stack.now.name c.args.item.now c.in-Named.name c.in-Named.is)))
    c.outcome_within-outcome.ensures

pub returns-in-Unanchored : goal.returns-in-Unanchored
returns-in-Unanchored c = unanchored_outcome (look_ups c.args.world.now) c.args.stack.now.name c.args.item.now c.in-Unanchored.field-0 c.in-Unanchored.is

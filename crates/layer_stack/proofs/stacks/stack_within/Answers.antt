use Rattle.std.proofs.Common.{◌∙◌, sym, ap}
use Rattle.std.proofs.lemmas.Result.{IfOk-weaker}
use Rattle.composition.specs.Texts.{Text}
use Rattle.composition.specs.Stacks.{nothing_listed}
use Rattle.layer_set.specs.LookUps.{look_ups}
use Rattle.layer_stack.specs.Meant.{with_stack, stack_within}
use Rattle.layer_stack.proofs.Meaning.{root_after_session, root_alone, layer_alone}
use Rattle.layer_stack.proofs.stacks.stack_within.Goals as goal

pub returns-in-Asset : goal.returns-in-Asset
returns-in-Asset c =
    IfOk-weaker c.one_stack.result _ _
    (λ draft is. is ∙ (layer_alone (look_ups c.args.world.now) c.args.most c.in-Asset.id ∙ ap (stack_within c.args.most (look_ups c.args.world.now)) (sym c.in-Asset.is)))
    c.one_stack.ensures

pub returns-in-Some : goal.returns-in-Some
returns-in-Some c =
    IfOk-weaker c.two_stacks.result _ _
    (λ draft is.
    is
    ∙ (ap (λ (n : Text). with_stack c.args.most (look_ups c.args.world.now) n (with_stack c.args.most (look_ups c.args.world.now) c.in-Some.session.now nothing_listed)) c.root.ensures
    ∙ (root_after_session (look_ups c.args.world.now) c.args.most c.in-Some.session.now (sym c.in-Some.ensures)
    ∙ ap (stack_within c.args.most (look_ups c.args.world.now)) (sym c.in-Root.is))))
    c.two_stacks.ensures

pub returns-in-None : goal.returns-in-None
returns-in-None c =
    IfOk-weaker c.one_stack-in-None.result _ _
    (λ draft is.
    is
    ∙ (ap (λ (n : Text). with_stack c.args.most (look_ups c.args.world.now) n nothing_listed) c.root-in-None.ensures
    ∙ (root_alone (look_ups c.args.world.now) c.args.most (sym c.in-None.ensures)
    ∙ ap (stack_within c.args.most (look_ups c.args.world.now)) (sym c.in-Root.is))))
    c.one_stack-in-None.ensures

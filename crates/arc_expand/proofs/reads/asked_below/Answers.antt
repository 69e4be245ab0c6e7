use Rattle.std.proofs.Common.{◌∙◌, sym, ap}
use Rattle.std.proofs.lemmas.Result.{IfOk-weaker}
use Rattle.composition.specs.Texts.{Text}
use Rattle.composition.specs.World.{Asset, stack_of}
use Rattle.composition.specs.Stacks.{LayerStack}
use Rattle.layer_set.specs.LookUps.{look_ups, heading_of}
use Rattle.layer_set.specs.declared.held.Held.{Held}
use Rattle.layer_stack.specs.Meant.{each_once, defined_stack}
use Rattle.layer_stack.proofs.Meaning.{meant_is_one}
use Rattle.arc_expand.specs.Arcs.{asked_below}
use Rattle.arc_expand.proofs.reads.asked_below.Goals as goal

pub returns-in_ok-stack-in-Present : goal.returns-in_ok-stack-in-Present
returns-in_ok-stack-in-Present c =
    IfOk-weaker c.copy-names.result _ _ (λ names is. is
    ∙ (c.in_ok-stack-in-Present.ensures.asked
    ∙ (ap (λ (n : Text). each_once (defined_stack (look_ups c.args.world.now) (Asset n)).asked) c.in_ok-copy-in-Present.ensures
    ∙ (ap (λ (t : LayerStack). each_once t.asked) (sym (meant_is_one (look_ups c.args.world.now) (Asset c.args.name.now)))
    ∙ ap (λ (h : Held). asked_below (look_ups c.args.world.now) (stack_of (look_ups c.args.world.now) c.args.name.now) (heading_of h)) (sym c.in-Present.is ∙ c.held.ensures)))))
    c.copy-names.ensures

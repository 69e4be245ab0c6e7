use Rattle.std.proofs.Common.{◌∙◌, ap, map}
use Rattle.composition.specs.Stacks.{LayerStack}
use Rattle.prim_view.specs.declared.fault.PrimFault.TheVariants.{Sublayer}
use Rattle.layer_set.specs.LookUps.{look_ups}
use Rattle.layer_stack.specs.Meant.{each_once}
use Rattle.layer_stack.proofs.Meaning.{within_limits}
use Rattle.layer_stack.proofs.stacks.stack.Goals as goal

pub returns-clause-layers : goal.returns-clause-layers
returns-clause-layers c =
    c.into_layers.ensures ∙ (ap (λ (s : LayerStack). s.layers) c.in_ok-draft.ensures ∙ ap (λ (s : LayerStack). s.layers) (within_limits (look_ups c.args.world.now) c.args.name.now))

pub returns-clause-faults : goal.returns-clause-faults
returns-clause-faults c =
    c.in_ok-faults.ensures
    ∙ (ap (map Sublayer) c.faults.ensures
    ∙ (ap (λ (s : LayerStack). map Sublayer s.faults) c.in_ok-draft.ensures ∙ ap (λ (s : LayerStack). map Sublayer s.faults) (within_limits (look_ups c.args.world.now) c.args.name.now)))

pub returns-clause-asked : goal.returns-clause-asked
returns-clause-asked c =
    c.in_ok-asked.ensures
    ∙ (ap each_once c.asked.ensures
    ∙ (ap (λ (s : LayerStack). each_once s.asked) c.in_ok-draft.ensures ∙ ap (λ (s : LayerStack). each_once s.asked) (within_limits (look_ups c.args.world.now) c.args.name.now)))

-- What a layer stack answers is the stack of its name.
use Rattle.std.proofs.Common.{◌≡◌, ◌∙◌, sym, ap}
use Rattle.composition.specs.World.{World, StackName}
use Rattle.composition.specs.Stacks as defined
use Rattle.layer_stack.specs.Meant.{meant, defined_stack}
use Rattle.layer_stack.specs.declared.stacks.LayerStack.{LayerStack}
use Rattle.layer_stack.proofs.Meaning.{meant_is_one}
use Rattle.arc_expand.specs.Authoring.{IsStackOf}

pub is_stack : (w : World) (s : LayerStack) (name : StackName) → s.name ≡ meant w name → s.layers ≡ (defined_stack w name).layers → IsStackOf w s
is_stack w s name named listed = record {
  layers = listed
      ∙ sym (ap (λ (n : StackName). (defined_stack w n).layers) named ∙ ap (λ (t : defined.LayerStack). t.layers) (meant_is_one w name));
}

use Rattle.std.proofs.Common.{◌∙◌, ap, Bool, false, Option, Some, None}
use Rattle.composition.specs.Texts.{Text, same_text}
use Rattle.composition.proofs.Same.{text_told}
use Rattle.layer_stack.proofs.stacks.means_root.Goals as goal

pub returns-in-None : goal.returns-in-None
returns-in-None c =
    text_told c.args.id.now c.root.result.now c.same.result c.same.ensures
    ∙ (ap (λ (x : Text). same_text c.args.id.now x) c.root.ensures
    ∙ ap (λ (s : Option Text). elim s as (λ _. Bool) [ Some x ↦ false | None ↦ same_text c.args.id.now c.args.world.now.root ]) c.in-None.ensures)

use Rattle.std.proofs.Common.{◌∙◌, ap, List, reverse}
use Rattle.std.proofs.lemmas.Result.{IfOk-weaker}
use Rattle.list_ops.specs.declared.op.ListOp.{ListOp}
use Rattle.list_ops.specs.ListEdits.{folded}
use Rattle.composition.specs.Arcs.{Item, same_item}
use Rattle.arc_expand.specs.Authoring.{folded_items}
use Rattle.arc_expand.proofs.edits.folded_items.Goals as goal

pub returns : goal.returns
unfolding folded_items
returns c =
    IfOk-weaker c.strongest_folded.result _ _
    (λ items is. is ∙ ap (λ (ops : List (ListOp Item)). folded same_item (reverse ops)) c.in_ok-without_layers.ensures) c.strongest_folded.ensures

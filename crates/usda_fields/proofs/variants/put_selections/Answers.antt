use Rattle.std.proofs.Common.{◌∙◌, [], ap, sym}
use Rattle.usda_fields.specs.Variants.{with_selection, said}
use Rattle.usda_fields.proofs.Selected.{selections_more}
use Rattle.usda_fields.proofs.variants.put_selections.Goals as goal

pub loop-item-preserved : goal.loop-item-preserved
loop-item-preserved c =
    c.in_ok-put_selection.ensures ∙ ap (with_selection c.in-Some.item.key (said c.in-Some.item.value).text) c.loop-item.invariant
    ∙ sym (selections_more c.loop-item.yielded c.in-Some.item [])

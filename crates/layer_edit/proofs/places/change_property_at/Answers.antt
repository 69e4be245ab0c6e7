use Rattle.std.proofs.Common.{◌∙◌, sym, ap, Some}
use Rattle.layer_edit.specs.Changes.{spec_changed, property_changed}
use Rattle.layer_edit.specs.Places.{last_element, changed_spec, changed_property}
use Rattle.layer_edit.specs.declared.change.SpecChange.TheVariants as spec_change
use Rattle.layer_edit.proofs.Changing.{moved, at_place}
use Rattle.layer_edit.proofs.places.change_property_at.Goals as goal

pub returns-in-Ok-copy : goal.returns-in-Ok-copy
returns-in-Ok-copy c =
    moved c.change_at.result c.change_at.new.layer
    (changed_spec c.in-Ok.owner (spec_changed (spec_change.ChangeProperty c.in-Ok-copy.name c.args.change)) c.args.layer.now)
    (changed_property c.args.path.now (property_changed c.args.change) c.args.layer.now)
    (at_place c.args.path.now c.in-Ok.owner c.in-Some-Property.name c.in-Ok-copy.name c.args.change c.args.layer.now
    c.in-Ok.ensures c.in-Ok-copy.ensures
    (sym (ap Some c.in-Some-Property.field-0-is) ∙ c.in-Some-Property.ensures.value ∙ ap last_element c.elements.ensures.same))
    c.change_at.ensures

use Rattle.std.proofs.Common.{◌≡◌, ◌∙◌, sym, ap, true, Some}
use Rattle.layer_edit.specs.Changes.{spec_changed}
use Rattle.layer_edit.specs.Places.{is_property_path, last_element, changed_spec}
use Rattle.layer_edit.specs.Properties.{blank_attribute, with_new_property}
use Rattle.layer_edit.specs.declared.change.SpecChange.TheVariants as spec_change
use Rattle.layer_edit.proofs.Changing.{moved_if, new_at_place}
use Rattle.layer_edit.proofs.properties.put_attribute.Goals as goal

pub returns-in-Some-Property : goal.returns-in-Some-Property
returns-in-Some-Property c =
    moved_if (is_property_path c.args.path.now ≡ true) c.change_at.result c.change_at.new.layer
    (changed_spec c.in_ok-owner.owner (spec_changed (spec_change.PutProperty c.blank_attribute-property.result)) c.args.layer.now)
    (with_new_property c.args.path.now (λ name. blank_attribute name c.args.ty c.args.custom c.args.uniform) c.args.layer.now)
    (new_at_place c.args.path.now c.in_ok-owner.owner c.in-Some-Property.name c.in_ok-copy-in-Some-Property.field-0 (λ name. blank_attribute name c.args.ty c.args.custom c.args.uniform) c.blank_attribute-property.result c.args.layer.now
    c.in_ok-owner.ensures c.in_ok-copy-in-Some-Property.ensures
    (sym (ap Some c.in-Some-Property.field-0-is) ∙ c.in-Some-Property.ensures.value ∙ ap last_element c.elements.ensures.same)
    c.blank_attribute-property.ensures)
    c.change_at.ensures

-- What has to be unfolded for the definitions to compute: `unfolding of_edits` lets `refl` compute what an operation makes of a world.
use Rattle.layer_apply.specs.Edits.{in_layer, layer_added, layer_put, rule_set, edit}
use Rattle.layer_edit.specs.Fields.{paths_set, references_set, targets_set, connections_set, selection_set, order_set, sublayers_set}
use Rattle.layer_edit.specs.Metadata.{with_meta, meta_set, meta_cleared}
use Rattle.layer_edit.specs.Offsets.{offset_of, is_bad_item}
use Rattle.layer_edit.specs.Outcomes.{passing, given}
use Rattle.layer_edit.specs.Places.{property_in, has_spec, changed_spec, changed_property}
use Rattle.layer_edit.specs.Prims.{with_new_spec, prim_added, variant_added, removed}
use Rattle.layer_edit.specs.Properties.{with_new_property, attribute_added, relationship_added, default_given, default_set, default_dropped, default_cleared, sample_given, sample_set, sample_dropped, sample_cleared}
use Rattle.layer_edit.specs.Typing.{meta_value}
use Rattle.usda_values.specs.Scalars.{whole_of, time_of, tens_out, decimal_of_whole, finite_time}
use Rattle.usda_values.specs.Shaping.{take_shape}

unfoldable pub of_edits : Unit {0}
unfolding in_layer layer_added layer_put rule_set edit paths_set references_set targets_set connections_set selection_set order_set sublayers_set with_meta meta_set meta_cleared meta_value take_shape offset_of is_bad_item passing given property_in has_spec changed_spec changed_property with_new_spec prim_added variant_added removed with_new_property attribute_added relationship_added default_given default_set default_dropped default_cleared sample_given sample_set sample_dropped sample_cleared finite_time whole_of time_of tens_out decimal_of_whole
of_edits = tt

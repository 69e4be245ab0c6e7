-- Prims, variants and properties that are added and removed: they compute.
use Rattle.std.proofs.Common.{refl}
use Rattle.edit_examples.proofs.Computing.{of_edits}
use Rattle.edit_examples.specs.Prims.{AddedAreTold, NotAddedAreTold, RemovedAreTold, AreTold}

added : AddedAreTold
unfolding of_edits
added = record {
  child = refl;
  root_prim = refl;
  variant = refl;
  attribute = refl;
  relationship = refl;
}

not_added : NotAddedAreTold
unfolding of_edits
not_added = record {
  no_parent = refl;
  spec_there = refl;
  property_path = refl;
  root_path = refl;
  prim_path = refl;
  path_first = refl;
  name_there = refl;
  no_type = refl;
  type_last = refl;
  no_layer = refl;
}

removed : RemovedAreTold
unfolding of_edits
removed = record {
  tree = refl;
  child = refl;
  variant = refl;
  property = refl;
  no_prim = refl;
  no_property = refl;
  root_path = refl;
}

pub are_told : AreTold
are_told = record { added = added; not_added = not_added; removed = removed }

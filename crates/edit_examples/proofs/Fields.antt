-- Lists, selections, orders and sublayers: they compute.
use Rattle.std.proofs.Common.{refl}
use Rattle.edit_examples.proofs.Computing.{of_edits}
use Rattle.edit_examples.specs.Fields.{ListsAreTold, NoListsAreTold, OthersAreTold, AreTold}

lists : ListsAreTold
unfolding of_edits
lists = record {
  edit = refl;
  other_edit = refl;
  explicit = refl;
  reference = refl;
  targets = refl;
}

no_lists : NoListsAreTold
unfolding of_edits
no_lists = record {
  property_class = refl;
  root_class = refl;
  variant_class = refl;
  broken_scale = refl;
  no_scale = refl;
  offset_first = refl;
  root_target = refl;
  attribute = refl;
  relationship = refl;
  no_prim = refl;
  property = refl;
}

others : OthersAreTold
unfolding of_edits
others = record {
  selected = refl;
  selected_anew = refl;
  unselected = refl;
  ordered = refl;
  no_order = refl;
  sublayers = refl;
  broken_scale = refl;
}

pub are_told : AreTold
are_told = record { lists = lists; no_lists = no_lists; others = others }

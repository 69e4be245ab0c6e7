-- New layers, load rules and batches: they compute.
use Rattle.std.proofs.Common.{refl}
use Rattle.edit_examples.proofs.Computing.{of_edits}
use Rattle.edit_examples.specs.Batches.{WorldsAreTold, BatchesAreTold, AreTold}

worlds : WorldsAreTold
unfolding of_edits
worlds = record {
  new_layer = refl;
  layer_there = refl;
  no_root = refl;
  gone = refl;
  unloaded = refl;
  loaded = refl;
  unruled = refl;
  root_rule = refl;
  variant_rule = refl;
}

batches : BatchesAreTold
unfolding of_edits
batches = record {
  empty = refl;
  one_by_one = refl;
  refused = refl;
}

pub are_told : AreTold
are_told = record { worlds = worlds; batches = batches }

-- Lists as a layer writes them, and paths below a prim.
use Rattle.std.proofs.Common.{refl}
use Rattle.text_examples.proofs.Computing.{of_lists}
use Rattle.text_examples.specs.Lists.{ListsAreTold, FieldsAreTold, PathsAreTold, ItemsAreTold, OffsetsAreTold, AreTold}

lists : ListsAreTold
unfolding of_lists
lists = record {
  prepend_word = refl;
  no_edit_word = refl;
  explicit = refl;
  empty = refl;
  repeats = refl;
  two_edits = refl;
}

fields : FieldsAreTold
unfolding of_lists
fields = record {
  edits = refl;
  edit_twice = refl;
  explicit_twice = refl;
  explicit_later = refl;
  edit_later = refl;
}

paths : PathsAreTold
unfolding of_lists
paths = record {
  absolute = refl;
  child = refl;
  own_property = refl;
  sibling = refl;
  parents_property = refl;
  root_prim = refl;
  above_root = refl;
  roots_property = refl;
  only_up = refl;
  empty = refl;
  later_up = refl;
  arc = refl;
  target = refl;
  head = refl;
  printed = refl;
}

items : ItemsAreTold
unfolding of_lists
items = record {
  asset = refl;
  no_asset = refl;
  no_path = refl;
  path = refl;
  asset_and_path = refl;
  bad_path = refl;
  sublayer = refl;
}

offsets : OffsetsAreTold
unfolding of_lists
offsets = record {
  offset_word = refl;
  other_word = refl;
  offset = refl;
  scale = refl;
  half = refl;
  no_scale = refl;
  greatest = refl;
  too_great = refl;
  infinite = refl;
  too_long = refl;
}

pub are_told : AreTold
are_told = record { lists = lists; fields = fields; paths = paths; items = items; offsets = offsets }

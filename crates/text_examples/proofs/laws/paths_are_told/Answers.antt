use Rattle.std.proofs.Common.{refl}
use Rattle.text_examples.proofs.Paths.{readings, refusals}
use Rattle.text_examples.proofs.laws.paths_are_told.Goals as goal

pub returns : goal.returns
returns c = record {
  prints = record { root = refl; below = refl; selected = refl; selected_twice = refl };
  readings = readings;
  refusals = refusals;
  parts = record {
    parent_of_root = refl;
    parent_of_prim = refl;
    parent_of_selection = refl;
    parent_of_property = refl;
    last_of_root = refl;
    last_of_property = refl;
    last_of_selection = refl;
    without_selections = refl;
    owner_of_property = refl;
  };
  prefixes = record {
    root = refl;
    itself = refl;
    above = refl;
    below = refl;
    longer_name = refl;
    selection = refl;
    other_selection = refl;
    moved = refl;
    moved_whole = refl;
    moved_from_root = refl;
    not_moved = refl;
  };
}

-- Values whose paths mean the same in the statements of each prim.
use Rattle.std.specs.Prelude.{ℕ, Bool, true, false, ◌&&◌, ◌==◌, List, Option, Some, None}
use Rattle.std.specs.Cmp.Lexicographic.{pointwise}
use Rattle.sdf_paths.specs.Paths.{printed}
use Rattle.sdf_paths.specs.declared.element.Element.{Element}
use Rattle.sdf_values.specs.Proper.{all_true}
use Rattle.sdf_values.specs.declared.value.DictItem.{DictItem, fold-DictItem}
use Rattle.sdf_values.specs.declared.value.Value.{Value, fold-Value}
use Rattle.sdf_values.specs.declared.value.Value.TheOpen.{Value-F, DictItem-F}
use Rattle.usda_lexer.specs.Blanks.{begins}
use Rattle.sdf_paths.specs.Reader.{path_of}

-- the text is what is printed of this path
abbrev pub is_print_of : Option (List Element) → List ℕ → Bool
is_print_of None text = false
is_print_of (Some path) text = pointwise ◌==◌ (printed path) text

-- a path from the root down, as paths are printed
abbrev pub is_full_path : List ℕ → Bool
is_full_path text = begins 47 text && is_print_of (path_of text) text

-- one value, with whether each value inside it has such paths in its place
abbrev pub full_step : Value-F Bool Bool → Bool
full_step (Value-F.PathText text) = is_full_path text
full_step (Value-F.Tuple bs) = all_true bs
full_step (Value-F.Array bs) = all_true bs
full_step (Value-F.Dict bs) = all_true bs
full_step v = true

-- an entry, as its value
abbrev pub full_item : DictItem-F Bool Bool → Bool
full_item item = item.value

-- each path in the value is one from the root down, as paths are printed
abbrev pub has_full_paths : Value → Bool
has_full_paths = fold-Value Bool Bool full_step full_item

-- the same of an entry of a dictionary
abbrev pub has_full_paths_item : DictItem → Bool
has_full_paths_item = fold-DictItem Bool Bool full_step full_item

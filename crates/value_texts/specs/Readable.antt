-- Which values are read where something is expected of them.
use Rattle.std.specs.Prelude.{ℕ, suc, max, Bool, true, false, not, ◌&&◌, ◌||◌, List, [], ◌∷◌, map, codes}
use Rattle.std.specs.Option.{is_none}
use Rattle.std.specs.Cmp.Lexicographic.{pointwise}
use Rattle.std.specs.Prelude.{◌==◌}
use Rattle.sdf_values.specs.Conforms.{holds_step}
use Rattle.sdf_values.specs.Proper.{are_keys_in_order, keys_of, all_proper}
use Rattle.sdf_values.specs.Print.{num_text, whole_text}
use Rattle.sdf_values.specs.declared.decimal.Num.{Num}
use Rattle.sdf_values.specs.declared.decimal.Num.TheVariants as num
use Rattle.sdf_values.specs.declared.type_name.TypeName.{TypeName}
use Rattle.sdf_values.specs.declared.value.DictItem.{DictItem, fold-DictItem}
use Rattle.sdf_values.specs.declared.value.Value.{Value, fold-Value}
use Rattle.sdf_values.specs.declared.value.Value.TheOpen.{Value-F, DictItem-F}
use Rattle.usda_values.specs.PathTexts.{is_path_text}
use Rattle.usda_values.specs.Scalars.{whole_of, is_plain}
use Rattle.usda_values.specs.Shapes.{entry_shape}
use Rattle.usda_values.specs.declared.shape.Shape.{Shape}
use Rattle.usda_values.specs.declared.shape.Shape.TheVariants.{Untyped, Metadata, Typed, Dictionary}

-- whether a value is read as itself where this is expected of it, directly behind the `=` of a statement or not
abbrev pub Reading : Type 0
Reading = Shape → Bool → Bool

-- a number that is no whole one of 128 bits
abbrev pub is_no_whole : Num → Bool
is_no_whole (num.Finite d) = is_none (whole_of d)
is_no_whole x = true

-- the word is `None`, which is read as the block
abbrev pub is_none_word : List ℕ → Bool
is_none_word t = pointwise ◌==◌ t (codes "None")

-- as a member of a type
abbrev pub typed : Reading → TypeName → Bool
typed r t = r (Typed t) false

-- each member is read as itself where this is expected of it
abbrev pub all_read : List Reading → Shape → Bool
all_read [] shape = true
all_read (r ∷ rs) shape = r shape false && all_read rs shape

-- a tuple of an unknown type has a member at least
abbrev pub is_some_list : List Reading → Bool
is_some_list [] = false
is_some_list (r ∷ rs) = true

-- Where no type is expected, a number is whole where it is written as one; in metadata, where its value is. There are no values of
-- times and no `true` and `false` there, which are read as numbers and words.
abbrev pub untyped_step : Value-F Reading (List ℕ × Bool) → Bool
untyped_step (Value-F.Bool b) = false
untyped_step (Value-F.Whole n) = is_plain (whole_text n)
untyped_step (Value-F.Number x) = not (is_plain (num_text x)) || is_no_whole x
untyped_step (Value-F.Time t) = false
untyped_step (Value-F.Text t) = true
untyped_step (Value-F.Asset t) = true
untyped_step (Value-F.PathText t) = is_path_text t
untyped_step (Value-F.Word t) = not (is_none_word t)
untyped_step (Value-F.Tuple rs) = is_some_list rs && all_read rs Untyped
untyped_step (Value-F.Array rs) = all_read rs Untyped
untyped_step (Value-F.Dict es) = are_keys_in_order (keys_of es) && all_proper es
untyped_step Value-F.Block = true

-- in metadata a number is read as a whole one where it is whole and within 128 bits, however it is written
abbrev pub metadata_step : Value-F Reading (List ℕ × Bool) → Bool
metadata_step (Value-F.Whole n) = true
metadata_step (Value-F.Number x) = is_no_whole x
metadata_step (Value-F.Tuple rs) = is_some_list rs && all_read rs Metadata
metadata_step (Value-F.Array rs) = all_read rs Metadata
metadata_step v = untyped_step v

-- a value of a type
abbrev pub typed_step : Value-F Reading (List ℕ × Bool) → TypeName → Bool
typed_step (Value-F.Bool b) t = holds_step (Value-F.Bool b) t
typed_step (Value-F.Whole n) t = holds_step (Value-F.Whole n) t
typed_step (Value-F.Number x) t = holds_step (Value-F.Number x) t
typed_step (Value-F.Time x) t = holds_step (Value-F.Time x) t
typed_step (Value-F.Text s) t = holds_step (Value-F.Text s) t
typed_step (Value-F.Asset s) t = holds_step (Value-F.Asset s) t
typed_step (Value-F.PathText s) t = holds_step (Value-F.PathText s) t
typed_step (Value-F.Word s) t = holds_step (Value-F.Word s) t
typed_step (Value-F.Tuple rs) t = holds_step (Value-F.Tuple (map typed rs)) t
typed_step (Value-F.Array rs) t = holds_step (Value-F.Array (map typed rs)) t
typed_step (Value-F.Dict es) t = false
typed_step Value-F.Block t = false

-- the block stands for a value of any type, directly behind the `=` of a statement
abbrev pub is_block_level : Value-F Reading (List ℕ × Bool) → Bool
is_block_level Value-F.Block = true
is_block_level v = false

-- a dictionary, whose keys are in byte order, each once, and whose entries are values of their types
abbrev pub dictionary_step : Value-F Reading (List ℕ × Bool) → Bool
dictionary_step (Value-F.Dict es) = are_keys_in_order (keys_of es) && all_proper es
dictionary_step v = false

-- by what is expected; for a value of a type `None` may stand, but only directly behind the `=` of a statement
abbrev pub reading_step : Value-F Reading (List ℕ × Bool) → Reading
reading_step v Untyped is_statement = untyped_step v
reading_step v Metadata is_statement = metadata_step v
reading_step v (Typed t) is_statement = (is_statement && is_block_level v) || typed_step v t
reading_step v Dictionary is_statement = dictionary_step v

-- an entry: its key, and whether its value is read as itself as one of its type, for which `None` may not stand
abbrev pub reading_item : DictItem-F Reading (List ℕ × Bool) → List ℕ × Bool
reading_item item = (item.key, item.value (entry_shape item.ty) false)

-- the value is read as itself where this is expected, directly behind the `=` of a statement or not
abbrev pub is_read_as : Value → Shape → Bool → Bool
is_read_as = fold-Value Reading (List ℕ × Bool) reading_step reading_item

-- the key of an entry, and whether its value is read as itself there
abbrev pub is_read_entry : DictItem → List ℕ × Bool
is_read_entry = fold-DictItem Reading (List ℕ × Bool) reading_step reading_item

-- how many tuples, arrays and dictionaries are open inside each other at most
abbrev pub deepest : List ℕ → ℕ
deepest [] = 0
deepest (n ∷ ns) = max n (deepest ns)

-- a tuple, an array or a dictionary is one level round the deepest of its members, also where it is empty
abbrev pub depth_step : Value-F ℕ ℕ → ℕ
depth_step (Value-F.Tuple ns) = suc (deepest ns)
depth_step (Value-F.Array ns) = suc (deepest ns)
depth_step (Value-F.Dict ns) = suc (deepest ns)
depth_step v = 0

abbrev pub depth_item : DictItem-F ℕ ℕ → ℕ
depth_item item = item.value

-- how many tuples, arrays and dictionaries of the value are open inside each other at most
abbrev pub depth : Value → ℕ
depth = fold-Value ℕ ℕ depth_step depth_item

-- the same of the value of an entry
abbrev pub item_depth : DictItem → ℕ
item_depth = fold-DictItem ℕ ℕ depth_step depth_item

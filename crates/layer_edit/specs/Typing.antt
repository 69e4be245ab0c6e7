-- Values as an attribute or a key of metadata takes them.
use Rattle.std.specs.Prelude.{ℕ, Bool, true, false, not, ◌&&◌, if◌then◌else◌, List, map, Option, Some, None, Ok, Err}
use Rattle.std.specs.List.{list_all}
use Rattle.std.specs.Result.{result_ok}
use Rattle.sdf_values.specs.Conforms.{one, is_block}
use Rattle.sdf_values.specs.declared.decimal.Num.{Num}
use Rattle.sdf_values.specs.declared.refusal.RefusalKind.TheVariants.{TimeRange}
use Rattle.sdf_values.specs.declared.type_name.ElementType.{ElementType}
use Rattle.sdf_values.specs.declared.type_name.ElementType.TheVariants as element
use Rattle.sdf_values.specs.declared.type_name.TypeName.{TypeName}
use Rattle.sdf_values.specs.declared.value.DictItem.{DictItem, out-DictItem}
use Rattle.sdf_values.specs.declared.value.Value.{Value, fold-Value, out-Value}
use Rattle.sdf_values.specs.declared.value.Value.TheVariants as value
use Rattle.sdf_values.specs.declared.value.Value.TheOpen.{Value-F, DictItem-F}
use Rattle.usda_values.specs.Scalars.{Taken, by_value}
pub use Rattle.usda_values.specs.Scalars.{finite_time as time_at}
use Rattle.usda_values.specs.Shaping.{take_shape}
use Rattle.usda_fields.specs.Keys.{key_rule, judged}
use Rattle.usda_fields.specs.declared.keys.KeyRule.{KeyRule}
use Rattle.usda_fields.specs.declared.keys.KeyRule.TheVariants as rule

-- ---- values of a type

-- refused for its time alone, if at all
abbrev pub is_but_for_time : Taken → Bool
is_but_for_time (Ok v) = true
is_but_for_time (Err TimeRange) = true
is_but_for_time (Err k) = false

-- the value has the form of a member of such arrays; a block is no member
abbrev pub is_member : ElementType → Value → Bool
is_member e v = not (is_block v) && is_but_for_time (take_shape (one e) v)

-- the type is one of arrays, and each of the values has the form of a member
abbrev pub are_members : TypeName → List Value → Bool
are_members t vs = t.array && list_all (is_member t.element) vs

-- the same, given the level of the value: of an array each member is looked at, anything else as a whole
abbrev pub has_form_by : TypeName → Value → Value-F Value DictItem → Bool
has_form_by t v (Value-F.Array vs) = are_members t vs
has_form_by t v f = is_but_for_time (take_shape t v)

-- the value has the form of the type, its times in range or not
unfoldable pub has_form : TypeName → Value → Bool
has_form t v = has_form_by t v (out-Value v)

-- the value as one of the type
unfoldable pub typed : TypeName → Value → Option Value
typed t v = result_ok (take_shape t v)

-- ---- metadata

-- a number is kept as a whole one where it is one; not inside a dictionary, whose entries have types
abbrev pub kept_number : Bool → Num → Value
kept_number is_typed x = if is_typed then value.Number x else by_value x

-- members of a tuple or an array are kept in the way in which that is kept
abbrev pub kept_all : List (Bool → Value) → Bool → List Value
kept_all cs is_typed = map (λ c. c is_typed) cs

-- how numbers are kept goes on into tuples and arrays, and ends at the entries of a dictionary
abbrev pub kept_step : Value-F (Bool → Value) DictItem → Bool → Value
kept_step (Value-F.Bool b) is_typed = value.Bool b
kept_step (Value-F.Whole n) is_typed = value.Whole n
kept_step (Value-F.Number x) is_typed = kept_number is_typed x
kept_step (Value-F.Time x) is_typed = value.Time x
kept_step (Value-F.Text s) is_typed = value.Text s
kept_step (Value-F.Asset s) is_typed = value.Asset s
kept_step (Value-F.PathText s) is_typed = value.PathText s
kept_step (Value-F.Word s) is_typed = value.Word s
kept_step (Value-F.Tuple cs) is_typed = value.Tuple (kept_all cs is_typed)
kept_step (Value-F.Array cs) is_typed = value.Array (kept_all cs is_typed)
kept_step (Value-F.Dict items) is_typed = value.Dict items
kept_step Value-F.Block is_typed = value.Block

-- an entry of a dictionary has a type, so that its numbers stay as they are
abbrev pub kept_item : DictItem-F (Bool → Value) DictItem → DictItem
kept_item item = record { key = item.key; ty = item.ty; value = item.value true }

-- a value of a key that takes any
abbrev pub kept : Value → Bool → Value
kept = fold-Value (Bool → Value) DictItem kept_step kept_item

-- an entry of a dictionary, with its value as it is kept there
abbrev pub kept_entry : DictItem → DictItem
kept_entry item = kept_item (record { key = (out-DictItem item).key; ty = (out-DictItem item).ty; value = kept (out-DictItem item).value })

-- the value in the type that the key wants: a string, a truth value, or any value as it is kept
abbrev pub as_ruled : KeyRule → Value → Taken
as_ruled rule.Comment v = take_shape (one element.String) v
as_ruled rule.Boolean v = take_shape (one element.Bool) v
as_ruled rule.DefaultPrim v = take_shape (one element.String) v
as_ruled r v = Ok (kept v false)

-- the value, where the rule of the key takes it
abbrev pub judged_by : KeyRule → Option Value → Option Value
judged_by r (Some v) = result_ok (judged r v)
judged_by r None = None

-- the value that a key keeps; none where it does not take the value
unfoldable pub meta_value : List ℕ → Value → Option Value
meta_value key v = judged_by (key_rule key) (result_ok (as_ruled (key_rule key) v))

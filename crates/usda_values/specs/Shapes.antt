-- What is expected of a value at its place.
use Rattle.std.specs.Prelude.{ℕ, Bool, true, false, if◌then◌else◌, Option, Some, None, Ok, Err}
use Rattle.sdf_values.specs.Conforms.{one, members_of}
use Rattle.sdf_values.specs.declared.decimal.Num.TheVariants as num
use Rattle.sdf_values.specs.declared.refusal.RefusalKind.TheVariants.{ValueShape}
use Rattle.sdf_values.specs.declared.type_name.TypeName.{TypeName}
use Rattle.sdf_values.specs.declared.type_name.ElementType.{ElementType}
use Rattle.sdf_values.specs.declared.value.DictType.{DictType}
use Rattle.sdf_values.specs.declared.value.DictType.TheVariants as dict
use Rattle.sdf_values.specs.declared.value.Value.{Value}
use Rattle.sdf_values.specs.declared.value.Value.TheVariants as value
use Rattle.usda_values.specs.declared.shape.Shape.{Shape}
use Rattle.usda_values.specs.declared.shape.Shape.TheVariants.{Untyped, Metadata, Typed, Dictionary}
use Rattle.usda_values.specs.Scalars.{Taken, by_value, take_element}

-- what an entry of a dictionary expects
abbrev pub entry_shape : DictType → Shape
entry_shape (dict.Plain t) = Typed t
entry_shape dict.Dictionary = Dictionary

-- a number of metadata is whole by its value
abbrev pub for_metadata : Value → Value
for_metadata (value.Number x) = by_value x
for_metadata v = v

-- `None` stands for a default or a sample of any type, and never inside a value; no other token is an array
abbrev pub take_typed : Bool → TypeName → Value → Taken
take_typed is_statement t value.Block = if is_statement then Ok value.Block else Err ValueShape
take_typed is_statement t v = if t.array then Err ValueShape else take_element t.element v

-- the value of one token where this is expected, directly behind the `=` of a statement or not
abbrev pub take_value : Shape → Bool → Value → Taken
take_value Untyped is_statement v = Ok v
take_value Metadata is_statement v = Ok (for_metadata v)
take_value (Typed t) is_statement v = take_typed is_statement t v
take_value Dictionary is_statement v = Err ValueShape

-- what the members of a level are to be, and how many; none where such a level cannot stand there
abbrev pub Members : Type 0
Members = Option (Shape × Option ℕ)

-- the members of a tuple: so many of one type
abbrev pub counted_members : Option (ElementType × ℕ) → Members
counted_members (Some m) = Some (Typed (one m.0), Some m.1)
counted_members None = None

-- a tuple: where a type is expected it is one of tuples, which says what the members are and how many
abbrev pub tuple_members : Shape → Members
tuple_members Untyped = Some (Untyped, None)
tuple_members Metadata = Some (Metadata, None)
tuple_members (Typed t) = if t.array then None else counted_members (members_of t.element)
tuple_members Dictionary = None

-- an array, of any length: where a type is expected it is one of arrays, which says what the members are
abbrev pub array_members : Shape → Members
array_members Untyped = Some (Untyped, None)
array_members Metadata = Some (Metadata, None)
array_members (Typed t) = if t.array then Some (Typed (one t.element), None) else None
array_members Dictionary = None

-- a dictionary may stand where no value type is expected
abbrev pub takes_dictionary : Shape → Bool
takes_dictionary (Typed t) = false
takes_dictionary s = true

-- A value as one of a type, equal in meaning, or the kind of its first refusal.
use Rattle.std.specs.Prelude.{◌≡◌, ℕ, zero, suc, Bool, if◌then◌else◌, List, [], ◌∷◌, Option, Some, None, Result, Ok, Err}
use Rattle.sdf_values.specs.Conforms.{one, members_of}
use Rattle.sdf_values.specs.declared.refusal.RefusalKind.{RefusalKind}
use Rattle.sdf_values.specs.declared.refusal.RefusalKind.TheVariants.{ValueShape}
use Rattle.sdf_values.specs.declared.type_name.ElementType.{ElementType}
use Rattle.sdf_values.specs.declared.type_name.TypeName.{TypeName}
use Rattle.sdf_values.specs.declared.value.Value.{Value, fold-Value}
use Rattle.sdf_values.specs.declared.value.Value.TheVariants as value
use Rattle.sdf_values.specs.declared.value.Value.TheOpen.{Value-F, DictItem-F}
use Rattle.usda_values.specs.declared.fault.PartFault.{PartFault}
use Rattle.usda_values.specs.declared.fault.PartFault.TheVariants as fault
use Rattle.usda_values.specs.declared.fault.ValueFault.{ValueFault}
use Rattle.usda_values.specs.declared.fault.ValueFault.TheVariants.{Refused, NoMemory}
use Rattle.usda_values.specs.Scalars.{Taken, take_element}

-- what a value is as one of a type
abbrev pub Taking : Type 0
Taking = TypeName → Taken

-- all members as they are taken, or the kind of the first refusal
abbrev pub TakenAll : Type 0
TakenAll = Result (List Value) RefusalKind

-- one member more before those that are taken
abbrev pub before_all : Value → TakenAll → TakenAll
before_all v (Ok vs) = Ok (v ∷ vs)
before_all v (Err k) = Err k

-- the members of an array, up to the first that is refused
abbrev pub take_all : List Taking → TypeName → TakenAll
take_all [] t = Ok []
take_all (c ∷ cs) t = elim (c t) [ Ok v ↦ before_all v (take_all cs t) | Err k ↦ Err k ]

-- the members of a tuple, of which there have to be so many
abbrev pub take_counted : ℕ → List Taking → TypeName → TakenAll
take_counted zero [] t = Ok []
take_counted zero (c ∷ cs) t = Err ValueShape
take_counted (suc n) [] t = Err ValueShape
take_counted (suc n) (c ∷ cs) t = elim (c t) [ Ok v ↦ before_all v (take_counted n cs t) | Err k ↦ Err k ]

-- a tuple of the members as they are taken
abbrev pub as_tuple : TakenAll → Taken
as_tuple (Ok vs) = Ok (value.Tuple vs)
as_tuple (Err k) = Err k

-- an array of the members as they are taken
abbrev pub as_array : TakenAll → Taken
as_array (Ok vs) = Ok (value.Array vs)
as_array (Err k) = Err k

-- a tuple, where the type is one of tuples
abbrev pub take_tuple : Option (ElementType × ℕ) → List Taking → Taken
take_tuple None cs = Err ValueShape
take_tuple (Some m) cs = as_tuple (take_counted m.1 cs (one m.0))

-- a value of one token
abbrev pub take_leaf : Value → TypeName → Taken
take_leaf v t = if t.array then Err ValueShape else take_element t.element v

-- what a value is as one of a type, by what its members are; no type takes a dictionary, nor a block inside a value
abbrev pub take_step : Value-F Taking Taking → Taking
take_step (Value-F.Bool b) t = take_leaf (value.Bool b) t
take_step (Value-F.Whole n) t = take_leaf (value.Whole n) t
take_step (Value-F.Number x) t = take_leaf (value.Number x) t
take_step (Value-F.Time x) t = take_leaf (value.Time x) t
take_step (Value-F.Text s) t = take_leaf (value.Text s) t
take_step (Value-F.Asset s) t = take_leaf (value.Asset s) t
take_step (Value-F.PathText s) t = take_leaf (value.PathText s) t
take_step (Value-F.Word s) t = take_leaf (value.Word s) t
take_step (Value-F.Tuple cs) t = if t.array then Err ValueShape else take_tuple (members_of t.element) cs
take_step (Value-F.Array cs) t = if t.array then as_array (take_all cs (one t.element)) else Err ValueShape
take_step (Value-F.Dict items) t = Err ValueShape
take_step Value-F.Block t = Err ValueShape

-- an entry, as its value is taken
abbrev pub take_item : DictItem-F Taking Taking → Taking
take_item item = item.value

-- a value that stands inside another
abbrev pub taken : Value → Taking
taken = fold-Value Taking Taking take_step take_item

-- the block as it is, and any other value as one of the type
abbrev pub take_shape_step : Value → TypeName → Taken
take_shape_step value.Block t = Ok value.Block
take_shape_step v t = taken v t

-- the block stands for a value of any type
unfoldable pub take_shape : TypeName → Value → Taken
take_shape t v = take_shape_step v t

-- what the call answers; it sees no token, and gives byte 0 as the place
abbrev pub AnswersShape : Result Value ValueFault → Taken → Type 0
AnswersShape (Ok v) t = t ≡ Ok v
AnswersShape (Err (Refused k at)) t = (t ≡ Err k) × (at ≡ 0)
AnswersShape (Err NoMemory) t = Unit {0}

-- what a call gives for all members, unless memory ran out
abbrev pub GivesAll : Result (List Value) PartFault → TakenAll → Type 0
GivesAll (Ok vs) t = t ≡ Ok vs
GivesAll (Err (fault.Refused k)) t = t ≡ Err k
GivesAll (Err fault.NoMemory) t = Unit {0}

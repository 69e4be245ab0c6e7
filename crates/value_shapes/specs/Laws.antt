-- What holds of the value that is taken of another as one of a type.
use Rattle.std.specs.Prelude.{◌≡◌, ◌↔◌, ℕ, true, List, Option, Result, Ok, Err}
use Rattle.sdf_values.specs.Conforms.{conforms}
use Rattle.sdf_values.specs.Numbers.{DecimalNumber, IsDecimal}
use Rattle.sdf_values.specs.declared.refusal.RefusalKind.{RefusalKind}
use Rattle.sdf_values.specs.declared.type_name.TypeName.{TypeName}
use Rattle.sdf_values.specs.declared.value.Value.{Value}
use Rattle.usda_lexer.specs.declared.token.LexFault.{LexFault}
use Rattle.usda_lexer.specs.Words.{Word, Lexing}
use Rattle.usda_values.specs.declared.level.Place.TheVariants as place
use Rattle.usda_values.specs.declared.shape.Shape.TheVariants.{Typed}
use Rattle.usda_values.specs.Drafts.{draft_of}
use Rattle.usda_values.specs.Reads.{got, reads}
use Rattle.usda_values.specs.Shaping.{take_shape}
use Rattle.usda_values.specs.declared.fault.ValueFault.{ValueFault}
use Rattle.usda_values.specs.declared.fault.ValueFault.TheVariants.{Refused, NoMemory}
use Rattle.value_shapes.specs.Held.{is_form, is_held}
use Rattle.value_shapes.specs.Meanings.{SameMeaning}

-- it is one of the type
abbrev pub AreOfTheType : Type 0
AreOfTheType = (t : TypeName) (v w : Value) → take_shape t v ≡ Ok w → conforms w t ≡ true

-- a value that is one of the type already stays as it is
abbrev pub AreKept : Type 0
AreKept = (t : TypeName) (v : Value) → conforms v t ≡ true → take_shape t v ≡ Ok v

-- it means the same
abbrev pub AreOfTheMeaning : Type 0
AreOfTheMeaning = (t : TypeName) (v w : Value) → take_shape t v ≡ Ok w → SameMeaning v w

-- taken once more it stays
abbrev pub AreTakenOnce : Type 0
AreTakenOnce = (t : TypeName) (v w : Value) → take_shape t v ≡ Ok w → take_shape t w ≡ Ok w

-- Of a value whose numbers are such as a program holds them there is no other such value of the type and the meaning: where there is one,
-- it is taken, and where the value is refused there is none.
pub record AreTheOnly : Type 0 where
  pub held : (t : TypeName) (v w : Value) → is_held v ≡ true → take_shape t v ≡ Ok w → is_held w ≡ true
  pub found : (t : TypeName) (v w : Value) → is_held v ≡ true → is_held w ≡ true → SameMeaning v w → conforms w t ≡ true → take_shape t v ≡ Ok w
  pub refused : (t : TypeName) (v w : Value) (k : RefusalKind) → is_held v ≡ true → take_shape t v ≡ Err k → is_held w ≡ true → SameMeaning v w → conforms w t ≡ true → ⊥
  pub one : (t : TypeName) (v w u : Value) → is_held v ≡ true → is_held w ≡ true → is_held u ≡ true → SameMeaning v w → SameMeaning v u → conforms w t ≡ true → conforms u t ≡ true → w ≡ u
  -- each decimal that a program holds passes the test
  pub decimals : (d : DecimalNumber) → (is_form d ≡ true) ↔ IsDecimal d

-- this value and no other, and no refusal, unless memory runs out
abbrev pub GivesOnly : Result Value ValueFault → Value → Type 0
GivesOnly (Ok u) w = u ≡ w
GivesOnly (Err (Refused kind at)) w = ⊥
GivesOnly (Err NoMemory) w = Unit {0}

-- what is read where a type is expected, directly behind the `=` of a statement, is of the type
abbrev pub AreReadOfTheType : Type 0
AreReadOfTheType =
    (t : TypeName) (ws : List Word) (f : Option LexFault) (end : ℕ) (v : Value) (left : Lexing) → reads ws f end (draft_of place.Value (Typed t)) ≡ got v left → conforms v t ≡ true

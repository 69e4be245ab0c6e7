-- Texts that are read as values, with a type or without, and texts that are refused.
use Rattle.std.specs.Prelude.{◌≡◌, ℕ, ◌*◌, ◌^◌, ℤ, pos, negsuc, true, false, List, [], ◌∷◌, codes, None}
use Rattle.sdf_values.specs.declared.decimal.Num.TheVariants.{Finite, Inf}
use Rattle.sdf_values.specs.declared.refusal.RefusalKind.{RefusalKind}
use Rattle.sdf_values.specs.declared.refusal.RefusalKind.TheVariants.{Syntax, NumberTooLong, NotUtf8, UnknownType, ValueShape, TimeRange, DuplicateSpec}
use Rattle.sdf_values.specs.declared.type_name.ElementType.{ElementType}
use Rattle.sdf_values.specs.declared.type_name.ElementType.TheVariants as element
use Rattle.sdf_values.specs.declared.type_name.Matrix.TheVariants.{Matrix2}
use Rattle.sdf_values.specs.declared.type_name.Precision.TheVariants.{Float}
use Rattle.sdf_values.specs.declared.type_name.Role.TheVariants.{Color3}
use Rattle.sdf_values.specs.declared.type_name.Width.TheVariants.{Two, Three}
use Rattle.sdf_values.specs.declared.value.DictItem.{DictItem}
use Rattle.sdf_values.specs.declared.value.DictType.{DictType}
use Rattle.sdf_values.specs.declared.value.DictType.TheVariants as dict
use Rattle.sdf_values.specs.declared.value.Value.{Value}
use Rattle.sdf_values.specs.declared.value.Value.TheVariants as value
use Rattle.usda_lexer.specs.Words.{Lexing}
use Rattle.usda_values.specs.Drafts.{draft_of}
use Rattle.usda_values.specs.Reads.{got, refused, lexing_of, reads_left}
use Rattle.usda_values.specs.declared.level.Place.TheVariants as place
use Rattle.usda_values.specs.declared.shape.Shape.{Shape}
use Rattle.usda_values.specs.declared.shape.Shape.TheVariants.{Untyped, Metadata, Typed}

-- the whole text is this value, where this is expected
abbrev pub Is : Shape → List ℕ → Value → Type 0
Is shape text v = reads_left (record { source = text; at = 0 }) (draft_of place.Value shape) ≡ got v (lexing_of [] None)

-- the text is refused so, at this byte
abbrev pub IsRefused : Shape → List ℕ → RefusalKind → ℕ → Type 0
IsRefused shape text k at = (rest : Lexing) × (reads_left (record { source = text; at = 0 }) (draft_of place.Value shape) ≡ refused k at rest)

abbrev pub one : ElementType → Shape
one e = Typed (record { element = e; array = false })

abbrev pub array : ElementType → Shape
array e = Typed (record { element = e; array = true })

abbrev pub whole : ℕ → Value
whole n = value.Whole (pos n)

abbrev pub real : ℤ → ℤ → Value
real digits exp = value.Number (Finite (record { digits = digits; exp = exp }))

-- an entry of a dictionary
abbrev pub item : List ℕ → DictType → Value → DictItem
item key ty v = record { key = key; ty = ty; value = v }

abbrev pub plain : ElementType → DictType
plain e = dict.Plain (record { element = e; array = false })

-- where no type is expected
pub record UntypedAreTold : Type 0 where
  pub word : Is Untyped (codes "inherited") (value.Word (codes "inherited"))
  pub block : Is Untyped (codes "None") value.Block
  pub string : Is Untyped (codes "'a\\tb'") (value.Text (codes "a\tb"))
  pub asset : Is Untyped (codes "@a.usda@") (value.Asset (codes "a.usda"))
  -- a path keeps its text, also one that is relative to its prim
  pub path : Is Untyped (codes "<../B.x>") (value.PathText (codes "../B.x"))
  -- whole where it is written without a point and an exponent
  pub whole_number : Is Untyped (codes "-100") (value.Whole (negsuc 99))
  pub pointed : Is Untyped (codes "1.0") (real (pos 1) (pos 0))
  pub infinite : Is Untyped (codes "inf") (value.Number Inf)
  -- metadata look at the value, and not at how it is written
  pub metadata : Is Metadata (codes "1.0") (whole 1)
  pub metadata_pointed : Is Metadata (codes "2.50") (real (pos 25) (negsuc 0))

pub record NestedAreTold : Type 0 where
  -- a comma may stand behind the last member
  pub tuple : Is Untyped (codes "(1, a,)") (value.Tuple (whole 1 ∷ value.Word (codes "a") ∷ []))
  pub empty_array : Is Untyped (codes "[]") (value.Array [])
  pub nested : Is Untyped (codes "[(1, 2), []]") (value.Array (value.Tuple (whole 1 ∷ whole 2 ∷ []) ∷ value.Array [] ∷ []))
  -- entries stand in byte order of their keys, whatever order they are written in
  pub dictionary : Is Untyped (codes "{ int b = 1; dictionary c = { } string \"a b\" = \"x\" }") (value.Dict (item (codes "a b") (plain element.String) (value.Text (codes "x")) ∷ item (codes "b") (plain element.Int) (whole 1) ∷ item (codes "c") dict.Dictionary (value.Dict []) ∷ []))
  pub dictionary_array : Is Untyped (codes "{ int[] a = [1] }") (value.Dict (item (codes "a") (dict.Plain (record { element = element.Int; array = true })) (value.Array (whole 1 ∷ [])) ∷ []))

-- where a value of a type is expected
pub record TypedAreTold : Type 0 where
  pub bool_word : Is (one element.Bool) (codes "true") (value.Bool true)
  pub bool_bit : Is (one element.Bool) (codes "0") (value.Bool false)
  pub uchar : Is (one element.Uchar) (codes "255") (whole 255)
  -- a whole number is a `float` too
  pub float : Is (one (element.Real Float)) (codes "3") (real (pos 3) (pos 0))
  -- times are kept in units of 10^-18
  pub timecode : Is (one element.Timecode) (codes "1.5") (value.Time (pos (15 * 10 ^ 17)))
  pub token : Is (one element.Token) (codes "\"Y\"") (value.Text (codes "Y"))
  pub ints : Is (one (element.Ints Two)) (codes "(1, -2)") (value.Tuple (whole 1 ∷ value.Whole (negsuc 1) ∷ []))
  pub color : Is (one (element.Role Color3 Float)) (codes "(1, 0.5, 0)") (value.Tuple (real (pos 1) (pos 0) ∷ real (pos 5) (negsuc 0) ∷ real (pos 0) (pos 0) ∷ []))
  -- a matrix is a tuple of rows
  pub matrix : Is (one (element.Matrix Matrix2)) (codes "((1, 0), (0, 1))") (value.Tuple (value.Tuple (real (pos 1) (pos 0) ∷ real (pos 0) (pos 0) ∷ []) ∷ value.Tuple (real (pos 0) (pos 0) ∷ real (pos 1) (pos 0) ∷ []) ∷ []))
  pub tuples : Is (array (element.Ints Two)) (codes "[(1, 2)]") (value.Array (value.Tuple (whole 1 ∷ whole 2 ∷ []) ∷ []))
  -- `None` blocks an attribute of any type
  pub block : Is (array element.Int) (codes "None") value.Block

-- values that the type does not take, at the token that shows it
pub record ShapesAreTold : Type 0 where
  pub short_tuple : IsRefused (one (element.Ints Three)) (codes "(1, 2)") ValueShape 5
  pub long_tuple : IsRefused (one (element.Ints Two)) (codes "(1, 2, 3)") ValueShape 7
  pub short_row : IsRefused (one (element.Matrix Matrix2)) (codes "((1, 0), (0))") ValueShape 11
  pub uchar : IsRefused (one element.Uchar) (codes "300") ValueShape 0
  pub negative : IsRefused (one element.Uint) (codes "-1") ValueShape 0
  pub int : IsRefused (one element.Int) (codes "2147483648") ValueShape 0
  pub pointed : IsRefused (one element.Int) (codes "1.0") ValueShape 0
  pub word : IsRefused (one element.Bool) (codes "yes") ValueShape 0
  -- a string is no word, and a word is no string
  pub token : IsRefused (one element.Token) (codes "Y") ValueShape 0
  pub quoted : IsRefused (one element.Int) (codes "\"1\"") ValueShape 0
  -- `None` stands for the whole alone
  pub block_inside : IsRefused (array element.Int) (codes "[1, None]") ValueShape 4
  pub no_array : IsRefused (array element.Int) (codes "1") ValueShape 0
  pub no_dictionary : IsRefused (one element.Int) (codes "{ }") ValueShape 0
  -- an entry of a dictionary has its own type
  pub entry : IsRefused Untyped (codes "{ uchar a = 300 }") ValueShape 12

-- other refusals of values
pub record RefusalsAreTold : Type 0 where
  pub empty_text : IsRefused Untyped [] Syntax 0
  -- a tuple has a member, and a comma stands between two
  pub empty_tuple : IsRefused Untyped (codes "()") Syntax 1
  pub no_comma : IsRefused Untyped (codes "[1 2]") Syntax 3
  pub open_tuple : IsRefused Untyped (codes "(1,") Syntax 3
  pub wrong_bracket : IsRefused Untyped (codes "(1]") Syntax 2
  pub path : IsRefused Untyped (codes "</A//B>") Syntax 0
  pub unclosed : IsRefused Untyped (codes "[1, \"a]") Syntax 4
  pub not_utf8 : IsRefused Untyped (codes "\"\\xff\"") NotUtf8 0
  -- a number of 35 digits, and the same where no number may stand
  pub long_number : IsRefused Untyped (codes "[12345678901234567890123456789012345]") NumberTooLong 1
  pub misplaced_number : IsRefused Untyped (codes "[1 12345678901234567890123456789012345]") Syntax 3
  pub time : IsRefused (one element.Timecode) (codes "1000000000001") TimeRange 0
  pub fine_time : IsRefused (one element.Timecode) (codes "1e-19") TimeRange 0
  pub type : IsRefused Untyped (codes "{ integer a = 1 }") UnknownType 2
  pub key_twice : IsRefused Untyped (codes "{ int a = 1 int a = 1 }") DuplicateSpec 16

pub record AreTold : Type 0 where
  pub untyped : UntypedAreTold
  pub nested : NestedAreTold
  pub typed : TypedAreTold
  pub shapes : ShapesAreTold
  pub refusals : RefusalsAreTold

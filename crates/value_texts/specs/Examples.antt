-- Values that are read back, and values that are not.
use Rattle.std.specs.Prelude.{◌≡◌, ℕ, Bool, true, false, List, [], ◌∷◌, codes, ℤ, pos, negsuc, ◌^◌}
use Rattle.sdf_values.specs.declared.decimal.Num.TheVariants as num
use Rattle.sdf_values.specs.declared.type_name.ElementType.{ElementType}
use Rattle.sdf_values.specs.declared.type_name.ElementType.TheVariants as element
use Rattle.sdf_values.specs.declared.value.DictItem.{DictItem}
use Rattle.sdf_values.specs.declared.value.DictType.{DictType}
use Rattle.sdf_values.specs.declared.value.DictType.TheVariants as dict
use Rattle.sdf_values.specs.declared.value.Value.{Value}
use Rattle.sdf_values.specs.declared.value.Value.TheVariants as value
use Rattle.usda_values.specs.declared.shape.Shape.TheVariants.{Untyped, Metadata, Typed}
use Rattle.value_texts.specs.Writable.{is_writable, is_writable_asset}
use Rattle.value_texts.specs.Readable.{is_read_as, depth}

-- the number `digits * 10^exp`
abbrev pub number : ℤ → ℤ → Value
number digits exp = value.Number (num.Finite (record { digits = digits; exp = exp }))

-- a value that can be written, whether it is read as itself without a type, and whether in metadata
abbrev pub IsRead : Value → Bool → Bool → Type 0
IsRead v untyped metadata = (is_writable v ≡ true) × (is_read_as v Untyped true ≡ untyped) × (is_read_as v Metadata true ≡ metadata)

-- a value that cannot be written
abbrev pub IsUnwritable : Value → Type 0
IsUnwritable v = is_writable v ≡ false

-- an entry of a dictionary
abbrev pub entry : List ℕ → DictType → Value → DictItem
entry key ty v = record { key = key; ty = ty; value = v }

-- a type that is no array, as the type of an entry
abbrev pub plain : ElementType → DictType
plain e = dict.Plain (record { element = e; array = false })

-- which values can be written, and which are read as themselves without a type and in metadata
pub record AreTold : Type 0 where
  -- 5 is read as the whole number
  pub whole : IsRead (value.Whole (pos 5)) true true
  pub number_is_whole : IsRead (number (pos 5) (pos 0)) false false
  -- 0.5
  pub fraction : IsRead (number (pos 5) (negsuc 0)) true true
  -- 10^36 is written with an exponent, which makes it no whole number but in metadata
  pub exponent : IsRead (value.Whole (pos (10 ^ 36))) false true
  pub number_with_exponent : IsRead (number (pos 1) (pos 36)) true false
  -- 2^120 has 37 digits
  pub long : IsUnwritable (value.Whole (pos (2 ^ 120)))
  -- truth values and times are read as words and numbers
  pub truth : IsRead (value.Bool true) false false
  pub time : IsRead (value.Time (pos 0)) false false
  pub truth_of_type : is_read_as (value.Bool true) (Typed (record { element = element.Bool; array = false })) true ≡ true
  -- the word `None` is the block
  pub block : IsRead value.Block true true
  pub none : IsRead (value.Word (codes "None")) false false
  pub word : IsRead (value.Word (codes "varying")) true true
  pub infinite : IsUnwritable (value.Word (codes "inf"))
  -- a tuple has a member, an array may have none
  pub empty_tuple : IsRead (value.Tuple []) false false
  pub empty_array : IsRead (value.Array []) true true
  -- two `@` in a row may stand in an asset, also at its ends, and three may not
  pub ats : is_writable_asset (codes "@a@@b@@") ≡ true
  pub three_ats : is_writable_asset (codes "a@@@b") ≡ false
  -- the keys of a dictionary are in order, each once, and its values are of their types
  pub entries : IsRead (value.Dict (entry (codes "a") (plain element.Int) (value.Whole (pos 1)) ∷ entry (codes "b") dict.Dictionary (value.Dict []) ∷ [])) true true
  pub disorder : IsRead (value.Dict (entry (codes "b") (plain element.Int) (value.Whole (pos 1)) ∷ entry (codes "a") (plain element.Int) (value.Whole (pos 1)) ∷ [])) false false
  pub other_type : IsRead (value.Dict (entry (codes "a") (plain element.String) (value.Whole (pos 1)) ∷ [])) false false
  pub block_inside : IsRead (value.Dict (entry (codes "a") (plain element.Int) value.Block ∷ [])) false false
  pub levels : depth (value.Array (value.Array [] ∷ value.Whole (pos 1) ∷ [])) ≡ 2

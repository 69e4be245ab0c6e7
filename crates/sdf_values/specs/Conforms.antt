-- Which values a type takes.
use Rattle.std.specs.Prelude.{ℕ, Bool, true, false, not, ◌&&◌, ◌||◌, ◌==◌, ◌^◌, ◌-◌, List, [], ◌∷◌, length, Option, Some, None, ℤ, pos, negsuc, int_le}
use Rattle.sdf_values.specs.declared.type_name.Precision.TheVariants as precision
use Rattle.sdf_values.specs.declared.type_name.Width.{Width}
use Rattle.sdf_values.specs.declared.type_name.Width.TheVariants as width
use Rattle.sdf_values.specs.declared.type_name.Role.{Role}
use Rattle.sdf_values.specs.declared.type_name.Role.TheVariants as role
use Rattle.sdf_values.specs.declared.type_name.Matrix.{Matrix}
use Rattle.sdf_values.specs.declared.type_name.Matrix.TheVariants as matrix
use Rattle.sdf_values.specs.declared.type_name.ElementType.{ElementType}
use Rattle.sdf_values.specs.declared.type_name.ElementType.TheVariants as element
use Rattle.sdf_values.specs.declared.type_name.TypeName.{TypeName}
use Rattle.sdf_values.specs.declared.value.Value.{Value, fold-Value}
use Rattle.sdf_values.specs.declared.value.Value.TheOpen.{Value-F, DictItem-F}

-- how many members a tuple of this width has
abbrev pub count_of : Width → ℕ
count_of width.Two = 2
count_of width.Three = 3
count_of width.Four = 4

-- how many numbers a value of a role has: `color3` three, `color4` and `quat` four
abbrev pub role_width : Role → Width
role_width role.Point3 = width.Three
role_width role.Vector3 = width.Three
role_width role.Normal3 = width.Three
role_width role.Color3 = width.Three
role_width role.Color4 = width.Four
role_width role.TexCoord2 = width.Two
role_width role.TexCoord3 = width.Three
role_width role.Quat = width.Four

-- how many rows a matrix has, and numbers in each row; `frame4d` is a matrix of four
abbrev pub matrix_width : Matrix → Width
matrix_width matrix.Matrix2 = width.Two
matrix_width matrix.Matrix3 = width.Three
matrix_width matrix.Matrix4 = width.Four
matrix_width matrix.Frame4 = width.Four

-- the least and the greatest whole number of a type of whole numbers
abbrev pub whole_bounds : ElementType → Option (ℤ × ℤ)
whole_bounds element.Uchar = Some (pos 0, pos (2 ^ 8 - 1))
whole_bounds element.Int = Some (negsuc (2 ^ 31 - 1), pos (2 ^ 31 - 1))
whole_bounds element.Uint = Some (pos 0, pos (2 ^ 32 - 1))
whole_bounds element.Int64 = Some (negsuc (2 ^ 63 - 1), pos (2 ^ 63 - 1))
whole_bounds element.Uint64 = Some (pos 0, pos (2 ^ 64 - 1))
whole_bounds _ = None

-- the number is within the bounds; a type without bounds takes no whole number
abbrev pub is_between : Option (ℤ × ℤ) → ℤ → Bool
is_between None n = false
is_between (Some b) n = int_le b.0 n && int_le n b.1

-- what the members of a tuple type are, and how many: a matrix is a tuple of its rows
abbrev pub members_of : ElementType → Option (ElementType × ℕ)
members_of (element.Ints w) = Some (element.Int, count_of w)
members_of (element.Reals p w) = Some (element.Real p, count_of w)
members_of (element.Role r p) = Some (element.Real p, count_of (role_width r))
members_of (element.Matrix m) = Some (element.Reals precision.Double (matrix_width m), count_of (matrix_width m))
members_of _ = None

-- one element of a type, and an array of them
abbrev pub one : ElementType → TypeName
one e = record { element = e; array = false }

-- every value of a list is one of the type
abbrev pub all_hold : List (TypeName → Bool) → TypeName → Bool
all_hold [] t = true
all_hold (c ∷ cs) t = c t && all_hold cs t

-- as many members as the tuple type has, each a value of its member type; a type that is no tuple takes no tuple
abbrev pub are_members : Option (ElementType × ℕ) → List (TypeName → Bool) → Bool
are_members None cs = false
are_members (Some m) cs = (length cs == m.1) && all_hold cs (one m.0)

-- one value that is no array, with the test of each value inside it in its place
abbrev pub is_element : Value-F (TypeName → Bool) (TypeName → Bool) → ElementType → Bool
is_element (Value-F.Bool b) element.Bool = true
is_element (Value-F.Whole n) e = is_between (whole_bounds e) n
is_element (Value-F.Number x) (element.Real p) = true
is_element (Value-F.Time t) element.Timecode = true
is_element (Value-F.Text s) element.String = true
is_element (Value-F.Text s) element.Token = true
is_element (Value-F.Asset s) element.Asset = true
is_element (Value-F.Tuple cs) e = are_members (members_of e) cs
is_element _ _ = false

-- an array type takes arrays of its elements alone, and any other type takes no array
abbrev pub holds_step : Value-F (TypeName → Bool) (TypeName → Bool) → TypeName → Bool
holds_step (Value-F.Array cs) t = t.array && all_hold cs (one t.element)
holds_step v t = not t.array && is_element v t.element

-- an entry of a dictionary, which no type takes
abbrev pub item_step : DictItem-F (TypeName → Bool) (TypeName → Bool) → TypeName → Bool
item_step item = item.value

-- a value of the type, a block aside
abbrev pub holds : Value → TypeName → Bool
holds = fold-Value (TypeName → Bool) (TypeName → Bool) holds_step item_step

-- `None` itself; a value with `None` inside it is no block
abbrev pub is_block_step : Value-F Bool Bool → Bool
is_block_step Value-F.Block = true
is_block_step _ = false

-- an entry is a block where its value is
abbrev pub is_block_item : DictItem-F Bool Bool → Bool
is_block_item item = item.value

-- the value is `None`, which blocks an attribute
abbrev pub is_block : Value → Bool
is_block = fold-Value Bool Bool is_block_step is_block_item

-- A value of the type, or the block, which stands for a value of any type. Inside a value there is no block.
abbrev pub conforms : Value → TypeName → Bool
conforms v t = is_block v || holds v t

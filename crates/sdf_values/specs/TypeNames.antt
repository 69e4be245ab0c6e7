-- The names of the types.
use Rattle.std.specs.Prelude.{ℕ, ◌==◌, List, [], ◌∷◌, ◌++◌, Option, Some, None, codes, if◌then◌else◌}
use Rattle.std.specs.Cmp.Lexicographic.{pointwise}
use Rattle.sdf_values.specs.declared.type_name.Precision.{Precision}
use Rattle.sdf_values.specs.declared.type_name.Precision.TheVariants as precision
use Rattle.sdf_values.specs.declared.type_name.Width.{Width}
use Rattle.sdf_values.specs.declared.type_name.Width.TheVariants as width
use Rattle.sdf_values.specs.declared.type_name.Role.{Role}
use Rattle.sdf_values.specs.declared.type_name.Role.TheVariants as role
use Rattle.sdf_values.specs.declared.type_name.Matrix.{Matrix}
use Rattle.sdf_values.specs.declared.type_name.Matrix.TheVariants as matrix
use Rattle.sdf_values.specs.declared.type_name.ElementType.{ElementType}
use Rattle.sdf_values.specs.declared.type_name.ElementType.TheVariants as element
use Rattle.sdf_values.specs.declared.type_name.TypeName.{TypeName}

-- the name of a type of one number, with which names of tuple types begin
abbrev pub precision_word : Precision → List ℕ
precision_word precision.Half = codes "half"
precision_word precision.Float = codes "float"
precision_word precision.Double = codes "double"

-- the letter behind a role, as in `point3f`
abbrev pub precision_letter : Precision → List ℕ
precision_letter precision.Half = codes "h"
precision_letter precision.Float = codes "f"
precision_letter precision.Double = codes "d"

-- the digit behind the name of a tuple type, as in `float3`
abbrev pub width_digit : Width → List ℕ
width_digit width.Two = codes "2"
width_digit width.Three = codes "3"
width_digit width.Four = codes "4"

-- the name of a role, without the letter of its precision
abbrev pub role_word : Role → List ℕ
role_word role.Point3 = codes "point3"
role_word role.Vector3 = codes "vector3"
role_word role.Normal3 = codes "normal3"
role_word role.Color3 = codes "color3"
role_word role.Color4 = codes "color4"
role_word role.TexCoord2 = codes "texCoord2"
role_word role.TexCoord3 = codes "texCoord3"
role_word role.Quat = codes "quat"

-- the name of a matrix type; there are matrices of doubles alone
abbrev pub matrix_word : Matrix → List ℕ
matrix_word matrix.Matrix2 = codes "matrix2d"
matrix_word matrix.Matrix3 = codes "matrix3d"
matrix_word matrix.Matrix4 = codes "matrix4d"
matrix_word matrix.Frame4 = codes "frame4d"

-- the name of a type without the brackets of an array
abbrev pub element_name : ElementType → List ℕ
element_name element.Bool = codes "bool"
element_name element.Uchar = codes "uchar"
element_name element.Int = codes "int"
element_name element.Uint = codes "uint"
element_name element.Int64 = codes "int64"
element_name element.Uint64 = codes "uint64"
element_name (element.Real p) = precision_word p
element_name element.Timecode = codes "timecode"
element_name element.String = codes "string"
element_name element.Token = codes "token"
element_name element.Asset = codes "asset"
element_name (element.Ints w) = codes "int" ++ width_digit w
element_name (element.Reals p w) = precision_word p ++ width_digit w
element_name (element.Role r p) = role_word r ++ precision_letter p
element_name (element.Matrix m) = matrix_word m

-- the type that a word names
abbrev pub find_element : List ElementType → List ℕ → Option ElementType
find_element [] name = None
find_element (e ∷ es) name = if pointwise ◌==◌ (element_name e) name then Some e else find_element es name

-- a type as a layer writes it
abbrev pub type_text : TypeName → List ℕ
type_text t = element_name t.element ++ (if t.array then codes "[]" else [])

-- The words that name types are no words of the grammar.
use Rattle.std.proofs.Common.{◌≡◌, refl}
use Rattle.sdf_values.specs.TypeNames.{element_name}
use Rattle.sdf_values.specs.declared.type_name.ElementType.{ElementType}
use Rattle.sdf_values.specs.declared.type_name.ElementType.TheVariants as element
use Rattle.sdf_values.specs.declared.type_name.Precision.TheVariants as precision
use Rattle.sdf_values.specs.declared.type_name.Width.TheVariants as width
use Rattle.sdf_values.specs.declared.type_name.Role.TheVariants as role
use Rattle.sdf_values.specs.declared.type_name.Matrix.TheVariants as matrix
use Rattle.usda_grammar.specs.Words.{keyword_of}
use Rattle.usda_grammar.specs.declared.kinds.Keyword.TheVariants.{Other}

pub type_word : (e : ElementType) → keyword_of (element_name e) ≡ Other
type_word element.Bool = refl
type_word element.Uchar = refl
type_word element.Int = refl
type_word element.Uint = refl
type_word element.Int64 = refl
type_word element.Uint64 = refl
type_word (element.Real precision.Half) = refl
type_word (element.Real precision.Float) = refl
type_word (element.Real precision.Double) = refl
type_word element.Timecode = refl
type_word element.String = refl
type_word element.Token = refl
type_word element.Asset = refl
type_word (element.Ints width.Two) = refl
type_word (element.Ints width.Three) = refl
type_word (element.Ints width.Four) = refl
type_word (element.Reals precision.Half width.Two) = refl
type_word (element.Reals precision.Half width.Three) = refl
type_word (element.Reals precision.Half width.Four) = refl
type_word (element.Reals precision.Float width.Two) = refl
type_word (element.Reals precision.Float width.Three) = refl
type_word (element.Reals precision.Float width.Four) = refl
type_word (element.Reals precision.Double width.Two) = refl
type_word (element.Reals precision.Double width.Three) = refl
type_word (element.Reals precision.Double width.Four) = refl
type_word (element.Role role.Point3 precision.Half) = refl
type_word (element.Role role.Point3 precision.Float) = refl
type_word (element.Role role.Point3 precision.Double) = refl
type_word (element.Role role.Vector3 precision.Half) = refl
type_word (element.Role role.Vector3 precision.Float) = refl
type_word (element.Role role.Vector3 precision.Double) = refl
type_word (element.Role role.Normal3 precision.Half) = refl
type_word (element.Role role.Normal3 precision.Float) = refl
type_word (element.Role role.Normal3 precision.Double) = refl
type_word (element.Role role.Color3 precision.Half) = refl
type_word (element.Role role.Color3 precision.Float) = refl
type_word (element.Role role.Color3 precision.Double) = refl
type_word (element.Role role.Color4 precision.Half) = refl
type_word (element.Role role.Color4 precision.Float) = refl
type_word (element.Role role.Color4 precision.Double) = refl
type_word (element.Role role.TexCoord2 precision.Half) = refl
type_word (element.Role role.TexCoord2 precision.Float) = refl
type_word (element.Role role.TexCoord2 precision.Double) = refl
type_word (element.Role role.TexCoord3 precision.Half) = refl
type_word (element.Role role.TexCoord3 precision.Float) = refl
type_word (element.Role role.TexCoord3 precision.Double) = refl
type_word (element.Role role.Quat precision.Half) = refl
type_word (element.Role role.Quat precision.Float) = refl
type_word (element.Role role.Quat precision.Double) = refl
type_word (element.Matrix matrix.Matrix2) = refl
type_word (element.Matrix matrix.Matrix3) = refl
type_word (element.Matrix matrix.Matrix4) = refl
type_word (element.Matrix matrix.Frame4) = refl

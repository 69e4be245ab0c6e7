-- The names of types are names, and none of them is `dictionary`.
use Rattle.std.proofs.Common.{◌≡◌, true, false, refl}
use Rattle.std.specs.Prelude.{codes, ◌==◌}
use Rattle.std.specs.Cmp.Lexicographic.{pointwise}
use Rattle.std.specs.Str.{chars, is_utf8}
use Rattle.unicode_ident.proofs.Computing.{unicode_ident}
use Rattle.usd_names.specs.Names.{is_start, spells_joined, is_number_word}
use Rattle.sdf_values.specs.TypeNames.{element_name}
use Rattle.sdf_values.specs.declared.type_name.Precision.TheVariants as precision
use Rattle.sdf_values.specs.declared.type_name.Width.TheVariants as width
use Rattle.sdf_values.specs.declared.type_name.Role.TheVariants as role
use Rattle.sdf_values.specs.declared.type_name.Matrix.TheVariants as matrix
use Rattle.sdf_values.specs.declared.type_name.ElementType.{ElementType}
use Rattle.sdf_values.specs.declared.type_name.ElementType.TheVariants as element

pub type_is_text : (e : ElementType) → is_utf8 (element_name e) ≡ true
unfolding is_utf8 chars lib.Utf8.encode
type_is_text element.Bool = refl
type_is_text element.Uchar = refl
type_is_text element.Int = refl
type_is_text element.Uint = refl
type_is_text element.Int64 = refl
type_is_text element.Uint64 = refl
type_is_text (element.Real precision.Half) = refl
type_is_text (element.Real precision.Float) = refl
type_is_text (element.Real precision.Double) = refl
type_is_text element.Timecode = refl
type_is_text element.String = refl
type_is_text element.Token = refl
type_is_text element.Asset = refl
type_is_text (element.Ints width.Two) = refl
type_is_text (element.Ints width.Three) = refl
type_is_text (element.Ints width.Four) = refl
type_is_text (element.Reals precision.Half width.Two) = refl
type_is_text (element.Reals precision.Half width.Three) = refl
type_is_text (element.Reals precision.Half width.Four) = refl
type_is_text (element.Reals precision.Float width.Two) = refl
type_is_text (element.Reals precision.Float width.Three) = refl
type_is_text (element.Reals precision.Float width.Four) = refl
type_is_text (element.Reals precision.Double width.Two) = refl
type_is_text (element.Reals precision.Double width.Three) = refl
type_is_text (element.Reals precision.Double width.Four) = refl
type_is_text (element.Role role.Point3 precision.Half) = refl
type_is_text (element.Role role.Point3 precision.Float) = refl
type_is_text (element.Role role.Point3 precision.Double) = refl
type_is_text (element.Role role.Vector3 precision.Half) = refl
type_is_text (element.Role role.Vector3 precision.Float) = refl
type_is_text (element.Role role.Vector3 precision.Double) = refl
type_is_text (element.Role role.Normal3 precision.Half) = refl
type_is_text (element.Role role.Normal3 precision.Float) = refl
type_is_text (element.Role role.Normal3 precision.Double) = refl
type_is_text (element.Role role.Color3 precision.Half) = refl
type_is_text (element.Role role.Color3 precision.Float) = refl
type_is_text (element.Role role.Color3 precision.Double) = refl
type_is_text (element.Role role.Color4 precision.Half) = refl
type_is_text (element.Role role.Color4 precision.Float) = refl
type_is_text (element.Role role.Color4 precision.Double) = refl
type_is_text (element.Role role.TexCoord2 precision.Half) = refl
type_is_text (element.Role role.TexCoord2 precision.Float) = refl
type_is_text (element.Role role.TexCoord2 precision.Double) = refl
type_is_text (element.Role role.TexCoord3 precision.Half) = refl
type_is_text (element.Role role.TexCoord3 precision.Float) = refl
type_is_text (element.Role role.TexCoord3 precision.Double) = refl
type_is_text (element.Role role.Quat precision.Half) = refl
type_is_text (element.Role role.Quat precision.Float) = refl
type_is_text (element.Role role.Quat precision.Double) = refl
type_is_text (element.Matrix matrix.Matrix2) = refl
type_is_text (element.Matrix matrix.Matrix3) = refl
type_is_text (element.Matrix matrix.Matrix4) = refl
type_is_text (element.Matrix matrix.Frame4) = refl

pub type_is_name : (e : ElementType) → spells_joined false (chars (element_name e)) ≡ true
unfolding chars is_start unicode_ident
type_is_name element.Bool = refl
type_is_name element.Uchar = refl
type_is_name element.Int = refl
type_is_name element.Uint = refl
type_is_name element.Int64 = refl
type_is_name element.Uint64 = refl
type_is_name (element.Real precision.Half) = refl
type_is_name (element.Real precision.Float) = refl
type_is_name (element.Real precision.Double) = refl
type_is_name element.Timecode = refl
type_is_name element.String = refl
type_is_name element.Token = refl
type_is_name element.Asset = refl
type_is_name (element.Ints width.Two) = refl
type_is_name (element.Ints width.Three) = refl
type_is_name (element.Ints width.Four) = refl
type_is_name (element.Reals precision.Half width.Two) = refl
type_is_name (element.Reals precision.Half width.Three) = refl
type_is_name (element.Reals precision.Half width.Four) = refl
type_is_name (element.Reals precision.Float width.Two) = refl
type_is_name (element.Reals precision.Float width.Three) = refl
type_is_name (element.Reals precision.Float width.Four) = refl
type_is_name (element.Reals precision.Double width.Two) = refl
type_is_name (element.Reals precision.Double width.Three) = refl
type_is_name (element.Reals precision.Double width.Four) = refl
type_is_name (element.Role role.Point3 precision.Half) = refl
type_is_name (element.Role role.Point3 precision.Float) = refl
type_is_name (element.Role role.Point3 precision.Double) = refl
type_is_name (element.Role role.Vector3 precision.Half) = refl
type_is_name (element.Role role.Vector3 precision.Float) = refl
type_is_name (element.Role role.Vector3 precision.Double) = refl
type_is_name (element.Role role.Normal3 precision.Half) = refl
type_is_name (element.Role role.Normal3 precision.Float) = refl
type_is_name (element.Role role.Normal3 precision.Double) = refl
type_is_name (element.Role role.Color3 precision.Half) = refl
type_is_name (element.Role role.Color3 precision.Float) = refl
type_is_name (element.Role role.Color3 precision.Double) = refl
type_is_name (element.Role role.Color4 precision.Half) = refl
type_is_name (element.Role role.Color4 precision.Float) = refl
type_is_name (element.Role role.Color4 precision.Double) = refl
type_is_name (element.Role role.TexCoord2 precision.Half) = refl
type_is_name (element.Role role.TexCoord2 precision.Float) = refl
type_is_name (element.Role role.TexCoord2 precision.Double) = refl
type_is_name (element.Role role.TexCoord3 precision.Half) = refl
type_is_name (element.Role role.TexCoord3 precision.Float) = refl
type_is_name (element.Role role.TexCoord3 precision.Double) = refl
type_is_name (element.Role role.Quat precision.Half) = refl
type_is_name (element.Role role.Quat precision.Float) = refl
type_is_name (element.Role role.Quat precision.Double) = refl
type_is_name (element.Matrix matrix.Matrix2) = refl
type_is_name (element.Matrix matrix.Matrix3) = refl
type_is_name (element.Matrix matrix.Matrix4) = refl
type_is_name (element.Matrix matrix.Frame4) = refl

pub type_is_word : (e : ElementType) → is_number_word (element_name e) ≡ false
type_is_word element.Bool = refl
type_is_word element.Uchar = refl
type_is_word element.Int = refl
type_is_word element.Uint = refl
type_is_word element.Int64 = refl
type_is_word element.Uint64 = refl
type_is_word (element.Real precision.Half) = refl
type_is_word (element.Real precision.Float) = refl
type_is_word (element.Real precision.Double) = refl
type_is_word element.Timecode = refl
type_is_word element.String = refl
type_is_word element.Token = refl
type_is_word element.Asset = refl
type_is_word (element.Ints width.Two) = refl
type_is_word (element.Ints width.Three) = refl
type_is_word (element.Ints width.Four) = refl
type_is_word (element.Reals precision.Half width.Two) = refl
type_is_word (element.Reals precision.Half width.Three) = refl
type_is_word (element.Reals precision.Half width.Four) = refl
type_is_word (element.Reals precision.Float width.Two) = refl
type_is_word (element.Reals precision.Float width.Three) = refl
type_is_word (element.Reals precision.Float width.Four) = refl
type_is_word (element.Reals precision.Double width.Two) = refl
type_is_word (element.Reals precision.Double width.Three) = refl
type_is_word (element.Reals precision.Double width.Four) = refl
type_is_word (element.Role role.Point3 precision.Half) = refl
type_is_word (element.Role role.Point3 precision.Float) = refl
type_is_word (element.Role role.Point3 precision.Double) = refl
type_is_word (element.Role role.Vector3 precision.Half) = refl
type_is_word (element.Role role.Vector3 precision.Float) = refl
type_is_word (element.Role role.Vector3 precision.Double) = refl
type_is_word (element.Role role.Normal3 precision.Half) = refl
type_is_word (element.Role role.Normal3 precision.Float) = refl
type_is_word (element.Role role.Normal3 precision.Double) = refl
type_is_word (element.Role role.Color3 precision.Half) = refl
type_is_word (element.Role role.Color3 precision.Float) = refl
type_is_word (element.Role role.Color3 precision.Double) = refl
type_is_word (element.Role role.Color4 precision.Half) = refl
type_is_word (element.Role role.Color4 precision.Float) = refl
type_is_word (element.Role role.Color4 precision.Double) = refl
type_is_word (element.Role role.TexCoord2 precision.Half) = refl
type_is_word (element.Role role.TexCoord2 precision.Float) = refl
type_is_word (element.Role role.TexCoord2 precision.Double) = refl
type_is_word (element.Role role.TexCoord3 precision.Half) = refl
type_is_word (element.Role role.TexCoord3 precision.Float) = refl
type_is_word (element.Role role.TexCoord3 precision.Double) = refl
type_is_word (element.Role role.Quat precision.Half) = refl
type_is_word (element.Role role.Quat precision.Float) = refl
type_is_word (element.Role role.Quat precision.Double) = refl
type_is_word (element.Matrix matrix.Matrix2) = refl
type_is_word (element.Matrix matrix.Matrix3) = refl
type_is_word (element.Matrix matrix.Matrix4) = refl
type_is_word (element.Matrix matrix.Frame4) = refl

pub type_is_no_dictionary : (e : ElementType) → pointwise ◌==◌ (element_name e) (codes "dictionary") ≡ false
type_is_no_dictionary element.Bool = refl
type_is_no_dictionary element.Uchar = refl
type_is_no_dictionary element.Int = refl
type_is_no_dictionary element.Uint = refl
type_is_no_dictionary element.Int64 = refl
type_is_no_dictionary element.Uint64 = refl
type_is_no_dictionary (element.Real precision.Half) = refl
type_is_no_dictionary (element.Real precision.Float) = refl
type_is_no_dictionary (element.Real precision.Double) = refl
type_is_no_dictionary element.Timecode = refl
type_is_no_dictionary element.String = refl
type_is_no_dictionary element.Token = refl
type_is_no_dictionary element.Asset = refl
type_is_no_dictionary (element.Ints width.Two) = refl
type_is_no_dictionary (element.Ints width.Three) = refl
type_is_no_dictionary (element.Ints width.Four) = refl
type_is_no_dictionary (element.Reals precision.Half width.Two) = refl
type_is_no_dictionary (element.Reals precision.Half width.Three) = refl
type_is_no_dictionary (element.Reals precision.Half width.Four) = refl
type_is_no_dictionary (element.Reals precision.Float width.Two) = refl
type_is_no_dictionary (element.Reals precision.Float width.Three) = refl
type_is_no_dictionary (element.Reals precision.Float width.Four) = refl
type_is_no_dictionary (element.Reals precision.Double width.Two) = refl
type_is_no_dictionary (element.Reals precision.Double width.Three) = refl
type_is_no_dictionary (element.Reals precision.Double width.Four) = refl
type_is_no_dictionary (element.Role role.Point3 precision.Half) = refl
type_is_no_dictionary (element.Role role.Point3 precision.Float) = refl
type_is_no_dictionary (element.Role role.Point3 precision.Double) = refl
type_is_no_dictionary (element.Role role.Vector3 precision.Half) = refl
type_is_no_dictionary (element.Role role.Vector3 precision.Float) = refl
type_is_no_dictionary (element.Role role.Vector3 precision.Double) = refl
type_is_no_dictionary (element.Role role.Normal3 precision.Half) = refl
type_is_no_dictionary (element.Role role.Normal3 precision.Float) = refl
type_is_no_dictionary (element.Role role.Normal3 precision.Double) = refl
type_is_no_dictionary (element.Role role.Color3 precision.Half) = refl
type_is_no_dictionary (element.Role role.Color3 precision.Float) = refl
type_is_no_dictionary (element.Role role.Color3 precision.Double) = refl
type_is_no_dictionary (element.Role role.Color4 precision.Half) = refl
type_is_no_dictionary (element.Role role.Color4 precision.Float) = refl
type_is_no_dictionary (element.Role role.Color4 precision.Double) = refl
type_is_no_dictionary (element.Role role.TexCoord2 precision.Half) = refl
type_is_no_dictionary (element.Role role.TexCoord2 precision.Float) = refl
type_is_no_dictionary (element.Role role.TexCoord2 precision.Double) = refl
type_is_no_dictionary (element.Role role.TexCoord3 precision.Half) = refl
type_is_no_dictionary (element.Role role.TexCoord3 precision.Float) = refl
type_is_no_dictionary (element.Role role.TexCoord3 precision.Double) = refl
type_is_no_dictionary (element.Role role.Quat precision.Half) = refl
type_is_no_dictionary (element.Role role.Quat precision.Float) = refl
type_is_no_dictionary (element.Role role.Quat precision.Double) = refl
type_is_no_dictionary (element.Matrix matrix.Matrix2) = refl
type_is_no_dictionary (element.Matrix matrix.Matrix3) = refl
type_is_no_dictionary (element.Matrix matrix.Matrix4) = refl
type_is_no_dictionary (element.Matrix matrix.Frame4) = refl

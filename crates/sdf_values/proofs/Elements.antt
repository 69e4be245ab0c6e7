-- Each type is found by its name.
use Rattle.std.proofs.Common.{ℕ, ◌≡◌, refl, subst, Bool, true, false, List, [], ◌∷◌, Some, if◌then◌else◌}
use Rattle.std.specs.Prelude.{◌==◌}
use Rattle.std.specs.Cmp.Lexicographic.{pointwise, bytes_decides}
use Rattle.sdf_values.specs.TypeNames.{element_name, find_element}
use Rattle.sdf_values.specs.declared.type_name.Precision.TheVariants as precision
use Rattle.sdf_values.specs.declared.type_name.Width.TheVariants as width
use Rattle.sdf_values.specs.declared.type_name.Role.TheVariants as role
use Rattle.sdf_values.specs.declared.type_name.Matrix.TheVariants as matrix
use Rattle.sdf_values.specs.declared.type_name.ElementType.{ElementType}
use Rattle.sdf_values.specs.declared.type_name.ElementType.TheVariants as element
use Rattle.sdf_values.specs.declared.type_name.TheConstants.{ELEMENTS}

pub type_is_found : (e : ElementType) → find_element ELEMENTS (element_name e) ≡ Some e
type_is_found element.Bool = refl
type_is_found element.Uchar = refl
type_is_found element.Int = refl
type_is_found element.Uint = refl
type_is_found element.Int64 = refl
type_is_found element.Uint64 = refl
type_is_found (element.Real precision.Half) = refl
type_is_found (element.Real precision.Float) = refl
type_is_found (element.Real precision.Double) = refl
type_is_found element.Timecode = refl
type_is_found element.String = refl
type_is_found element.Token = refl
type_is_found element.Asset = refl
type_is_found (element.Ints width.Two) = refl
type_is_found (element.Ints width.Three) = refl
type_is_found (element.Ints width.Four) = refl
type_is_found (element.Reals precision.Half width.Two) = refl
type_is_found (element.Reals precision.Half width.Three) = refl
type_is_found (element.Reals precision.Half width.Four) = refl
type_is_found (element.Reals precision.Float width.Two) = refl
type_is_found (element.Reals precision.Float width.Three) = refl
type_is_found (element.Reals precision.Float width.Four) = refl
type_is_found (element.Reals precision.Double width.Two) = refl
type_is_found (element.Reals precision.Double width.Three) = refl
type_is_found (element.Reals precision.Double width.Four) = refl
type_is_found (element.Role role.Point3 precision.Half) = refl
type_is_found (element.Role role.Point3 precision.Float) = refl
type_is_found (element.Role role.Point3 precision.Double) = refl
type_is_found (element.Role role.Vector3 precision.Half) = refl
type_is_found (element.Role role.Vector3 precision.Float) = refl
type_is_found (element.Role role.Vector3 precision.Double) = refl
type_is_found (element.Role role.Normal3 precision.Half) = refl
type_is_found (element.Role role.Normal3 precision.Float) = refl
type_is_found (element.Role role.Normal3 precision.Double) = refl
type_is_found (element.Role role.Color3 precision.Half) = refl
type_is_found (element.Role role.Color3 precision.Float) = refl
type_is_found (element.Role role.Color3 precision.Double) = refl
type_is_found (element.Role role.Color4 precision.Half) = refl
type_is_found (element.Role role.Color4 precision.Float) = refl
type_is_found (element.Role role.Color4 precision.Double) = refl
type_is_found (element.Role role.TexCoord2 precision.Half) = refl
type_is_found (element.Role role.TexCoord2 precision.Float) = refl
type_is_found (element.Role role.TexCoord2 precision.Double) = refl
type_is_found (element.Role role.TexCoord3 precision.Half) = refl
type_is_found (element.Role role.TexCoord3 precision.Float) = refl
type_is_found (element.Role role.TexCoord3 precision.Double) = refl
type_is_found (element.Role role.Quat precision.Half) = refl
type_is_found (element.Role role.Quat precision.Float) = refl
type_is_found (element.Role role.Quat precision.Double) = refl
type_is_found (element.Matrix matrix.Matrix2) = refl
type_is_found (element.Matrix matrix.Matrix3) = refl
type_is_found (element.Matrix matrix.Matrix4) = refl
type_is_found (element.Matrix matrix.Frame4) = refl

-- the type of a name is found by it
pub named : (e : ElementType) (name : List ℕ) → element_name e ≡ name → find_element ELEMENTS name ≡ Some e
named e name is = subst (λ (n : List ℕ). find_element ELEMENTS n ≡ Some e) is (type_is_found e)

-- what is found has the name
pub found_name : (es : List ElementType) (name : List ℕ) (e : ElementType) → find_element es name ≡ Some e → element_name e ≡ name
found_name [] name e is = absurd cc
found_name (x ∷ es) name e is = test (λ is. found_name es name e is) (pointwise ◌==◌ (element_name x) name) refl is
  where
    test : (find_element es name ≡ Some e → element_name e ≡ name) → (b : Bool) → pointwise ◌==◌ (element_name x) name ≡ b → (if b then Some x else find_element es name) ≡ Some e → element_name e ≡ name
    test later true same is = let p : x ≡ e = cc in subst (λ (y : ElementType). element_name y ≡ name) p ((bytes_decides (element_name x) name).0 same)
    test later false apart is = later is

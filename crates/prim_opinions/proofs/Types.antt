-- Two types have one name exactly where the elements have, and both or neither are arrays.
use mathlib.Core.Bool.{beq, not}
use Rattle.std.proofs.Common.{◌≡◌, ◌∙◌, sym, ap, refl, Bool, true, false, ◌||◌, [], ◌++◌}
use Rattle.std.specs.Prelude.{◌==◌, codes, IsTrue, ◌↔◌, if◌then◌else◌}
use Rattle.std.specs.List.{list_any}
use Rattle.std.proofs.lemmas.List.{append_cancel_right}
use Rattle.std.proofs.lemmas.List.Folds.{list_any-append}
use Rattle.sdf_values.specs.declared.type_name.Precision.{Precision}
use Rattle.sdf_values.specs.declared.type_name.Precision.TheVariants as precision
use Rattle.sdf_values.specs.declared.type_name.Width.{Width}
use Rattle.sdf_values.specs.declared.type_name.Width.TheVariants as width
use Rattle.sdf_values.specs.declared.type_name.Role.{Role}
use Rattle.sdf_values.specs.declared.type_name.Role.TheVariants as role
use Rattle.sdf_values.specs.declared.type_name.Matrix.{Matrix}
use Rattle.sdf_values.specs.declared.type_name.Matrix.TheVariants as matrix
use Rattle.sdf_values.specs.declared.type_name.ElementType.{ElementType}
use Rattle.sdf_values.specs.declared.type_name.ElementType.TheVariants as element
use Rattle.sdf_values.specs.declared.type_name.TypeName.{TypeName}
use Rattle.sdf_values.specs.TypeNames.{precision_word, precision_letter, width_digit, role_word, matrix_word, element_name, type_text}
use Rattle.composition.specs.Texts.{Text, same_text}
use Rattle.composition.proofs.Same.{text_told}

abbrev has_bracket : Text → Bool
has_bracket t = list_any (λ c. c == 93) t

precision_plain : (p : Precision) → has_bracket (precision_word p) ≡ false
precision_plain precision.Half = refl
precision_plain precision.Float = refl
precision_plain precision.Double = refl

letter_plain : (p : Precision) → has_bracket (precision_letter p) ≡ false
letter_plain precision.Half = refl
letter_plain precision.Float = refl
letter_plain precision.Double = refl

digit_plain : (w : Width) → has_bracket (width_digit w) ≡ false
digit_plain width.Two = refl
digit_plain width.Three = refl
digit_plain width.Four = refl

role_plain : (r : Role) → has_bracket (role_word r) ≡ false
role_plain role.Point3 = refl
role_plain role.Vector3 = refl
role_plain role.Normal3 = refl
role_plain role.Color3 = refl
role_plain role.Color4 = refl
role_plain role.TexCoord2 = refl
role_plain role.TexCoord3 = refl
role_plain role.Quat = refl

matrix_plain : (m : Matrix) → has_bracket (matrix_word m) ≡ false
matrix_plain matrix.Matrix2 = refl
matrix_plain matrix.Matrix3 = refl
matrix_plain matrix.Matrix4 = refl
matrix_plain matrix.Frame4 = refl

both_plain : (a b : Text) → has_bracket a ≡ false → has_bracket b ≡ false → has_bracket (a ++ b) ≡ false
both_plain a b h k = list_any-append (λ c. c == 93) a b ∙ (ap (λ (x : Bool). x || has_bracket b) h ∙ k)

plain_name : (e : ElementType) → has_bracket (element_name e) ≡ false
plain_name element.Bool = refl
plain_name element.Uchar = refl
plain_name element.Int = refl
plain_name element.Uint = refl
plain_name element.Int64 = refl
plain_name element.Uint64 = refl
plain_name (element.Real p) = precision_plain p
plain_name element.Timecode = refl
plain_name element.String = refl
plain_name element.Token = refl
plain_name element.Asset = refl
plain_name (element.Ints w) = both_plain (codes "int") (width_digit w) refl (digit_plain w)
plain_name (element.Reals p w) = both_plain (precision_word p) (width_digit w) (precision_plain p) (digit_plain w)
plain_name (element.Role r p) = both_plain (role_word r) (precision_letter p) (role_plain r) (letter_plain p)
plain_name (element.Matrix m) = matrix_plain m

abbrev brackets : Bool → Text
brackets b = if b then codes "[]" else []

bracket_is : (t : TypeName) → has_bracket (type_text t) ≡ t.array
bracket_is t =
    list_any-append (λ c. c == 93) (element_name t.element) (brackets t.array)
    ∙ (ap (λ (x : Bool). x || has_bracket (brackets t.array)) (plain_name t.element)
    ∙ by_array t.array)
  where
    by_array : (b : Bool) → has_bracket (brackets b) ≡ b
    by_array true = refl
    by_array false = refl

arrays_of : (a b : TypeName) → type_text a ≡ type_text b → a.array ≡ b.array
arrays_of a b e = sym (bracket_is a) ∙ (ap has_bracket e ∙ bracket_is b)

module _ (a b : TypeName) where
  pub types_differ : (a.array ≡ b.array → ⊥) → false ≡ same_text (type_text a) (type_text b)
  types_differ h = text_told (type_text a) (type_text b) false (λ t. absurd cc, λ e. absurd (h (arrays_of a b e)))

  pub types_by_name : a.array ≡ b.array → (r : Bool) → IsTrue r ↔ (element_name a.element ≡ element_name b.element) → r ≡ same_text (type_text a) (type_text b)
  types_by_name arrays r told = text_told (type_text a) (type_text b) r (λ h. whole (told.0 h), λ e. told.1 (names e))
    where
      whole : element_name a.element ≡ element_name b.element → type_text a ≡ type_text b
      whole e = λ i. e i ++ brackets (arrays i)

      names : type_text a ≡ type_text b → element_name a.element ≡ element_name b.element
      names e = append_cancel_right (element_name a.element) (element_name b.element) (brackets b.array) (ap (λ (x : Bool). element_name a.element ++ brackets x) (sym arrays) ∙ e)

pub flags_apart : (x y : Bool) → not (beq x y) ≡ true → x ≡ y → ⊥
flags_apart true true h e = absurd cc
flags_apart true false h e = absurd cc
flags_apart false true h e = absurd cc
flags_apart false false h e = absurd cc

pub flags_same : (x y : Bool) → not (beq x y) ≡ false → x ≡ y
flags_same true true h = refl
flags_same true false h = absurd cc
flags_same false true h = absurd cc
flags_same false false h = refl

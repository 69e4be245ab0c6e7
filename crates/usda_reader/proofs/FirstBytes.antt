-- The first checks, by whether the bytes are UTF-8.
use Rattle.std.proofs.Common.{◌≡◌, Bool, true, false, ℕ, List, Option, Some, None, refl, ap, sym, ◌∙◌}
use Rattle.std.specs.Str.{is_utf8}
use Rattle.std.specs.Str.Lossy.{utf8_valid_len}
use Rattle.sdf_values.specs.declared.refusal.RefusalKind.TheVariants.{NotUtf8}
use Rattle.usda_drafts.specs.Refusals.{refused}
use Rattle.usda_drafts.specs.declared.fault.Refused.{Refused}
use Rattle.usda_reader.specs.Checks.{foreign_check, header_check, text_check, some_or, first_check}

pub text_is_utf8 : (bytes : List ℕ) → is_utf8 bytes ≡ true → text_check bytes ≡ header_check bytes
unfolding text_check
text_is_utf8 bytes e = rw e refl

pub text_is_not : (bytes : List ℕ) → is_utf8 bytes ≡ false → text_check bytes ≡ Some (refused NotUtf8 (utf8_valid_len bytes))
unfolding text_check
text_is_not bytes e = rw e refl

first_by : (bytes : List ℕ) (f : Option Refused) → foreign_check bytes ≡ f → first_check bytes ≡ some_or f (text_check bytes)
unfolding first_check
first_by bytes f at = ap (λ (x : Option Refused). some_or x (text_check bytes)) at

-- what passes the checks is UTF-8
pub passed_is_utf8 : (bytes : List ℕ) → first_check bytes ≡ None → is_utf8 bytes ≡ true
passed_is_utf8 bytes e = by (foreign_check bytes) refl (is_utf8 bytes) refl
  where
    by : (f : Option Refused) → foreign_check bytes ≡ f → (b : Bool) → is_utf8 bytes ≡ b → is_utf8 bytes ≡ true
    by f at true u = u
    by (Some r) at false u = absurd (let g : Some r ≡ None = sym (first_by bytes (Some r) at) ∙ e in cc)
    by None at false u = absurd (let g : Some (refused NotUtf8 (utf8_valid_len bytes)) ≡ None = sym (text_is_not bytes u) ∙ sym (first_by bytes None at) ∙ e in cc)

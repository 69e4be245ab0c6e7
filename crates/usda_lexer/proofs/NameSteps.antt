-- A step over a character of a name.
use Rattle.std.proofs.Common.{◌≡◌, ◌∙◌, ℕ, ◌+◌, Bool, true, false, ◌&&◌, ◌==◌, List, [], ◌∷◌, ◌++◌, length, length-append, ap, arith}
use Rattle.std.specs.Prelude.{encode_utf8}
use Rattle.std.specs.Char.{len_utf8}
use Rattle.std.specs.Str.{chars, IsUtf8}
use Rattle.std.proofs.lemmas.Str.{chars_past_char, chars-nil, length-encode}
use Rattle.usd_names.specs.Names.{goes_on}
use Rattle.usda_lexer.specs.Names.{name_end}

one_on : (begun : Bool) (end n : ℕ) (bs rest : List ℕ) (c : ℕ) → IsUtf8 bs → bs ≡ encode_utf8 c ++ rest → name_end begun end n (chars bs) ≡ name_end begun end n (c ∷ chars rest)
one_on begun end n bs rest c u e = ap (name_end begun end n) (chars_past_char bs rest c u e)

pub name_colon : (begun : Bool) (end n : ℕ) (bs rest : List ℕ) (c : ℕ) → IsUtf8 bs → bs ≡ encode_utf8 c ++ rest → (begun && c == 58) ≡ true
    → name_end begun end n (chars bs) ≡ name_end false end (n + len_utf8 c) (chars rest)
name_colon begun end n bs rest c u e colon =
    one_on begun end n bs rest c u e
    ∙ ap (λ b. elim b [
      | true ↦ name_end false end (n + len_utf8 c) (chars rest)
      | false ↦ elim (goes_on begun c) [ true ↦ name_end true (n + len_utf8 c) (n + len_utf8 c) (chars rest) | false ↦ end ]
    ]) colon

pub name_goes : (begun : Bool) (end n : ℕ) (bs rest : List ℕ) (c : ℕ) → IsUtf8 bs → bs ≡ encode_utf8 c ++ rest → (begun && c == 58) ≡ false → goes_on begun c ≡ true
    → name_end begun end n (chars bs) ≡ name_end true (n + len_utf8 c) (n + len_utf8 c) (chars rest)
name_goes begun end n bs rest c u e colon goes =
    one_on begun end n bs rest c u e
    ∙ ap (λ b. elim b [
      | true ↦ name_end false end (n + len_utf8 c) (chars rest)
      | false ↦ elim (goes_on begun c) [ true ↦ name_end true (n + len_utf8 c) (n + len_utf8 c) (chars rest) | false ↦ end ]
    ]) colon
    ∙ ap (λ b. elim b [ true ↦ name_end true (n + len_utf8 c) (n + len_utf8 c) (chars rest) | false ↦ end ]) goes

pub name_stops : (begun : Bool) (end n : ℕ) (bs rest : List ℕ) (c : ℕ) → IsUtf8 bs → bs ≡ encode_utf8 c ++ rest → (begun && c == 58) ≡ false → goes_on begun c ≡ false
    → name_end begun end n (chars bs) ≡ end
name_stops begun end n bs rest c u e colon goes =
    one_on begun end n bs rest c u e
    ∙ ap (λ b. elim b [
      | true ↦ name_end false end (n + len_utf8 c) (chars rest)
      | false ↦ elim (goes_on begun c) [ true ↦ name_end true (n + len_utf8 c) (n + len_utf8 c) (chars rest) | false ↦ end ]
    ]) colon
    ∙ ap (λ b. elim b [ true ↦ name_end true (n + len_utf8 c) (n + len_utf8 c) (chars rest) | false ↦ end ]) goes

pub name_ends : (begun : Bool) (end n : ℕ) (bs : List ℕ) → length bs ≡ 0 → name_end begun end n (chars bs) ≡ end
name_ends begun end n [] e = ap (name_end begun end n) chars-nil
name_ends begun end n (c ∷ bs) e = absurd (omega (arith, e))

-- so many bytes fewer are left
pub fewer : (bs rest : List ℕ) (c : ℕ) → bs ≡ encode_utf8 c ++ rest → length bs ≡ len_utf8 c + length rest
fewer bs rest c e = ap length e ∙ length-append (encode_utf8 c) rest ∙ ap (λ n. n + length rest) (length-encode c)

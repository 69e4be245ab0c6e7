-- Strings with their escapes, assets and names.
use Rattle.std.proofs.Common.{◌≡◌, ◌∙◌, ℕ, ◌+◌, ◌/◌, ◌%◌, ◌<◌, ◌&&◌, ◌||◌, ◌==◌, nat_lt, Bool, true, false, List, [], ◌∷◌, ◌++◌, append_assoc, append-nil, ap, sym, refl, subst, arith}
use Rattle.std.specs.Prelude.{codes, encode_utf8, if◌then◌else◌}
use Rattle.std.specs.List.{list_any}
use Rattle.std.specs.Str.{chars, is_utf8, IsUtf8, encode_utf8_all}
use lib.Utf8.{scalar, scalars}
use Rattle.std.proofs.lemmas.Bool.{and_parts}
use Rattle.std.proofs.lemmas.Str.{IsUtf8-encode, chars-encodes, encode_ascii}
use Rattle.usd_names.specs.Names.{spells_identifier, spells_variant, is_identifier, is_variant}
use Rattle.sdf_values.specs.Print.{hex_digit, is_escaped, escape, escaped, quoted, is_long_asset, asset_text, is_plain_key, key_text}
use Rattle.sdf_values.proofs.Escapes.{escaped_ascii}
use Rattle.value_texts.proofs.AsciiTests.{no_byte}
use Rattle.value_texts.proofs.QuotedNames.{as_it_is}
use Rattle.usda_writer.specs.Texts.{quoted_name}
use Rattle.text_checks.proofs.Bytes.{IsValid, tested, two, nothing, behind, ascii, either}

-- the escape of a character
low_digit : (n : ℕ) → n < 16 → hex_digit n < 128
low_digit n h = test (nat_lt n 10)
  where
    test : (b : Bool) → (if b then 48 + n else 87 + n) < 128
    test true = omega (arith, h)
    test false = omega (arith, h)

escape_valid : (c : ℕ) → c < 128 → IsValid (escape c)
escape_valid c low =
    either (c == 92) (ascii (codes "\\\\") refl) (either (c == 34) (ascii (codes "\\\"") refl) (either (c == 10) (ascii (codes "\\n") refl) (either (c == 13) (ascii (codes "\\r") refl)
    (either (c == 9) (ascii (codes "\\t") refl)
    (behind 92 (omega arith) (behind 120 (omega arith) (behind (hex_digit (c / 16)) (low_digit (c / 16) (omega (arith, low))) (behind (hex_digit (c % 16)) (low_digit (c % 16) (omega arith)) nothing))))))))

escaped_both : (s t : List ℕ) → escaped (s ++ t) ≡ escaped s ++ escaped t
escaped_both [] t = refl
escaped_both (c ∷ s) t =
    let x : List ℕ = if is_escaped c then escape c else c ∷ [] in
    ap (λ y. x ++ y) (escaped_both s t) ∙ sym (append_assoc x (escaped s) (escaped t))

character_valid : (c : ℕ) → scalar c ≡ true → IsValid (escaped (encode_utf8 c))
character_valid c h = cases (is_escaped c) refl
  where
    cases : (b : Bool) → is_escaped c ≡ b → IsValid (escaped (encode_utf8 c))
    cases true e =
        let low : c < 128 = escaped_ascii c e in
        let is : escaped (encode_utf8 c) ≡ escape c =
        ap escaped (encode_ascii c low) ∙ ap (λ b. (if b then escape c else c ∷ []) ++ []) e ∙ append-nil (escape c) in
        subst IsValid (sym is) (escape_valid c low)
    cases false e =
        let utf8 : IsUtf8 (encode_utf8 c) = IsUtf8-encode c h in
        let one : chars (encode_utf8 c) ≡ c ∷ [] = ap chars (sym (append-nil (encode_utf8 c))) ∙ chars-encodes (c ∷ []) (ap (λ b. b && true) h) in
        let none : list_any is_escaped (encode_utf8 c) ≡ false = no_byte is_escaped escaped_ascii (encode_utf8 c) utf8 (ap (list_any is_escaped) one ∙ ap (λ b. b || false) e) in
        subst IsValid (sym (as_it_is (encode_utf8 c) none)) (record { utf8 = utf8 })

characters_valid : (cs : List ℕ) → scalars cs ≡ true → IsValid (escaped (encode_utf8_all cs))
characters_valid [] h = nothing
characters_valid (c ∷ cs) h =
    let p = and_parts (scalar c) (scalars cs) h in
    subst IsValid (sym (escaped_both (encode_utf8 c) (encode_utf8_all cs))) (two (character_valid c p.0) (characters_valid cs p.1))

escaped_valid : (t : List ℕ) → IsValid t → IsValid (escaped t)
escaped_valid t h = let u = h.utf8 in subst (λ x. IsValid (escaped x)) u.1.1 (characters_valid u.0 u.1.0)

-- a string between quotes
pub string_valid : (t : List ℕ) → is_utf8 t ≡ true → IsValid (quoted t)
string_valid t h = behind 34 (omega arith) (two (escaped_valid t (tested t h)) (ascii (codes "\"") refl))

pub asset_valid : (t : List ℕ) → is_utf8 t ≡ true → IsValid (asset_text t)
asset_valid t h =
    either (is_long_asset t) (two (two (ascii (codes "@@@") refl) (tested t h)) (ascii (codes "@@@") refl)) (two (two (ascii (codes "@") refl) (tested t h)) (ascii (codes "@") refl))

-- the key of a dictionary
pub key_valid : (t : List ℕ) → is_utf8 t ≡ true → IsValid (key_text t)
key_valid t h = either (is_plain_key t) (tested t h) (string_valid t h)

-- names between quotes
name_valid : (t : List ℕ) → is_utf8 t ≡ true → IsValid (quoted_name t)
name_valid t h = two (two (ascii (codes "\"") refl) (tested t h)) (ascii (codes "\"") refl)

pub identifier_valid : (t : List ℕ) → is_identifier t ≡ true → IsValid (quoted_name t)
unfolding is_identifier
identifier_valid t h = name_valid t (and_parts (is_utf8 t) (spells_identifier (chars t)) h).0

pub variant_valid : (t : List ℕ) → is_variant t ≡ true → IsValid (quoted_name t)
unfolding is_variant
variant_valid t h = name_valid t (and_parts (is_utf8 t) (spells_variant (chars t)) h).0

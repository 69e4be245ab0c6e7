-- ASCII in front of a text, and a test that only ASCII passes: a text has no such byte where it has no such character.
use Rattle.std.proofs.Common.{◌≡◌, ◌∙◌, ℕ, zero, suc, ◌<◌, ◌||◌, Bool, true, false, List, [], ◌∷◌, ◌++◌, append-nil, length, get_or, ap, sym, refl, arith}
use Rattle.std.specs.Prelude.{encode_utf8}
use Rattle.std.specs.List.{list_any}
use Rattle.std.specs.Str.{chars, IsUtf8, IsAscii, encode_utf8_all}
use Rattle.std.proofs.lemmas.Str.{IsUtf8-append, IsUtf8-from_ascii, encodes-chars, inside_one}
use Rattle.std.proofs.lemmas.Bool.{or_parts}

-- one character of ASCII
pub one_ascii : (c : ℕ) → c < 128 → IsAscii (c ∷ [])
one_ascii c h zero = h
one_ascii c h (suc i) = omega arith

-- a character of ASCII in front
pub ascii_before : (c : ℕ) (t : List ℕ) → c < 128 → IsUtf8 t → IsUtf8 (c ∷ t)
ascii_before c t low h = IsUtf8-append (c ∷ []) t (IsUtf8-from_ascii (c ∷ []) (one_ascii c low)) h

module _ (P : ℕ → Bool) (low : (b : ℕ) → P b ≡ true → b < 128) where
  none_of : (xs : List ℕ) → ((k : ℕ) → k < length xs → P (get_or xs k 0) ≡ false) → list_any P xs ≡ false
  none_of [] h = refl
  none_of (x ∷ xs) h = ap (λ b. b || list_any P xs) (h 0 (omega arith)) ∙ none_of xs (λ k l. h (suc k) (omega arith))

  one_byte : (c k : ℕ) → P c ≡ false → k < length (encode_utf8 c) → (b : Bool) → P (get_or (encode_utf8 c) k 0) ≡ b → b ≡ false
  one_byte c k h l false e = refl
  one_byte c k h l true e =
      let same : c ≡ get_or (encode_utf8 c) k 0 = inside_one c [] (encode_utf8 c) k (sym (append-nil (encode_utf8 c))) l (low (get_or (encode_utf8 c) k 0) e) in
      absurd (let bad : P c ≡ true = ap P same ∙ e in cc)

  one_character : (c : ℕ) → P c ≡ false → list_any P (encode_utf8 c) ≡ false
  one_character c h = none_of (encode_utf8 c) (λ k l. one_byte c k h l (P (get_or (encode_utf8 c) k 0)) refl)

  two_none : (xs ys : List ℕ) → list_any P xs ≡ false → list_any P ys ≡ false → list_any P (xs ++ ys) ≡ false
  two_none [] ys h k = k
  two_none (x ∷ xs) ys h k = let p = or_parts (P x) (list_any P xs) h in ap (λ b. b || list_any P (xs ++ ys)) p.0 ∙ two_none xs ys p.1 k

  all_bytes : (cs : List ℕ) → list_any P cs ≡ false → list_any P (encode_utf8_all cs) ≡ false
  all_bytes [] h = refl
  all_bytes (c ∷ cs) h = let p = or_parts (P c) (list_any P cs) h in two_none (encode_utf8 c) (encode_utf8_all cs) (one_character c p.0) (all_bytes cs p.1)

  pub no_byte : (text : List ℕ) → IsUtf8 text → list_any P (chars text) ≡ false → list_any P text ≡ false
  no_byte text utf8 h = ap (list_any P) (sym (encodes-chars text utf8)) ∙ all_bytes (chars text) h

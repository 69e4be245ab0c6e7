-- Strings with escapes, one byte at a time.
use Rattle.std.proofs.Common.{ℕ, ◌≡◌, ◌∙◌, ◌+◌, ◌-◌, ◌<◌, ◌≤◌, sym, ap, refl, arith, Bool, true, false, List, [], ◌∷◌, ◌++◌, length, take, drop, get_or, append_assoc, append-nil}
use Rattle.std.specs.Prelude.{if◌then◌else◌}
use Rattle.std.proofs.lemmas.Bool.Decides.{nat_tests}
use Rattle.plain_data.proofs.Pieces.{rest_of, no_bytes, one_more}
use Rattle.sdf_values.specs.Print.{escaped, escape, is_escaped}

byte_text : ℕ → List ℕ → Bool → List ℕ
byte_text c rest b = (if b then escape c else c ∷ []) ++ escaped rest

first_byte : (c : ℕ) (rest : List ℕ) → escaped (c ∷ rest) ≡ byte_text c rest (is_escaped c)
unfolding byte_text
first_byte c rest = refl

byte_escaped : (c : ℕ) (rest : List ℕ) → byte_text c rest true ≡ escape c ++ escaped rest
unfolding byte_text
byte_escaped c rest = refl

byte_plain : (c : ℕ) (rest : List ℕ) → byte_text c rest false ≡ (c ∷ []) ++ escaped rest
unfolding byte_text
byte_plain c rest = refl

from_byte : (t : List ℕ) (i b : ℕ) → i < length t → b ≡ get_or t i 0 → escaped (drop i t) ≡ byte_text b (drop (i + 1) t) (is_escaped b)
from_byte t i b h is = ap escaped (rest_of t i b h is) ∙ first_byte b (drop (i + 1) t)

pub escape_step : (t old out new : List ℕ) (start i b : ℕ) → i < length t → b ≡ get_or t i 0 → is_escaped b ≡ true
    → new ≡ (out ++ take (i - start) (drop start t)) ++ escape b → (out ++ take (i - start) (drop start t)) ++ escaped (drop i t) ≡ old ++ escaped t
    → (new ++ take (i + 1 - (i + 1)) (drop (i + 1) t)) ++ escaped (drop (i + 1) t) ≡ old ++ escaped t
escape_step t old out new start i b h is esc made before =
    let piece : List ℕ = out ++ take (i - start) (drop start t) in
    let rest : List ℕ = drop (i + 1) t in
    ap (λ l. (new ++ l) ++ escaped rest) (no_bytes (i + 1 - (i + 1)) rest (omega arith)) ∙ ap (λ l. l ++ escaped rest) (append-nil new ∙ made)
    ∙ append_assoc piece (escape b) (escaped rest)
    ∙ ap (λ l. piece ++ l) (sym (from_byte t i b h is ∙ ap (byte_text b rest) esc ∙ byte_escaped b rest)) ∙ before

pub plain_step : (t old out : List ℕ) (start i b : ℕ) → i < length t → b ≡ get_or t i 0 → is_escaped b ≡ false → start ≤ i
    → (out ++ take (i - start) (drop start t)) ++ escaped (drop i t) ≡ old ++ escaped t
    → (out ++ take (i + 1 - start) (drop start t)) ++ escaped (drop (i + 1) t) ≡ old ++ escaped t
plain_step t old out start i b h is esc within before =
    let piece : List ℕ = take (i - start) (drop start t) in
    let rest : List ℕ = drop (i + 1) t in
    ap (λ l. (out ++ l) ++ escaped rest) (one_more t start i b h is within)
    ∙ ap (λ l. l ++ escaped rest) (sym (append_assoc out piece (b ∷ []))) ∙ append_assoc (out ++ piece) (b ∷ []) (escaped rest)
    ∙ ap (λ l. (out ++ piece) ++ l) (sym (from_byte t i b h is ∙ ap (byte_text b rest) esc ∙ byte_plain b rest)) ∙ before

pub escaped_ascii : (b : ℕ) → is_escaped b ≡ true → b < 128
escaped_ascii b h = grind (arith, nat_tests)

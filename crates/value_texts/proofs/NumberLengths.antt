-- How long a number in front is.
use Rattle.std.proofs.Common.{◌≡◌, ◌∙◌, ℕ, zero, suc, ◌+◌, ◌<◌, ◌&&◌, ◌==◌, cond, not, Bool, true, false, List, [], ◌∷◌, ◌++◌, append_assoc, length, length-append, drop, ap, sym, refl, subst, arith}
use Rattle.std.specs.Prelude.{if◌then◌else◌}
use Rattle.std.proofs.lemmas.Bool.Decides.{nat_tests}
use Rattle.std.proofs.lemmas.Bool.{and_parts, not-true}
use Rattle.sdf_values.proofs.Fractions.{not_zero}
use Rattle.sdf_values.specs.NumberTexts.{is_digit, is_sign, is_mark, is_digits, is_some_digits, is_exponent, is_unsigned, is_number}
use Rattle.usda_lexer.specs.Forms.{digits_len, sign_len, with_digits, exponent_len, pointed_len, mantissa_len, scaled_len, behind_sign_len, number_len}
use Rattle.value_texts.specs.Follows.{ends_number}
use Rattle.value_texts.proofs.Pieces.{back}
use Rattle.value_texts.proofs.NumberParts.{Back, bare, scaled, unsigned_by}

-- no digit in front
abbrev NoDigit : List ℕ → Type 0
NoDigit rest = digits_len rest ≡ 0

no_digit : (c : ℕ) (cs : List ℕ) → is_digit c ≡ false → NoDigit (c ∷ cs)
no_digit c cs h = ap (λ b. cond b (1 + digits_len cs) 0) h

rest_no_digit : (rest : List ℕ) → ends_number rest ≡ true → NoDigit rest
rest_no_digit [] h = refl
rest_no_digit (c ∷ cs) h = no_digit c cs (not-true (is_digit c) (and_parts (not (is_digit c)) _ h).0)

rest_no_exponent : (rest : List ℕ) → ends_number rest ≡ true → exponent_len rest ≡ 0
rest_no_exponent [] h = refl
rest_no_exponent (c ∷ cs) h =
    let p = and_parts (not (c == 46)) (not (is_mark c)) (and_parts (not (is_digit c)) _ h).1 in
    ap (λ b. if b then with_digits (1 + sign_len cs) (drop (sign_len cs) cs) else 0) (not-true (is_mark c) p.1)

pub digits_whole : (ds rest : List ℕ) → is_digits ds ≡ true → NoDigit rest → digits_len (ds ++ rest) ≡ length ds
digits_whole [] rest h k = k
digits_whole (c ∷ ds) rest h k =
    let p = and_parts (is_digit c) (is_digits ds) h in
    ap (λ b. cond b (1 + digits_len (ds ++ rest)) 0) p.0 ∙ ap (λ n. 1 + n) (digits_whole ds rest p.1 k) ∙ omega arith

some_with : (before : ℕ) (ds rest : List ℕ) → is_digits ds ≡ true → 0 < length ds → NoDigit rest → with_digits before (ds ++ rest) ≡ before + length ds
some_with before ds rest h some k =
    ap (λ n. if n == 0 then 0 else before + n) (digits_whole ds rest h k) ∙ ap (λ b. if b then 0 else before + length ds) (not_zero (length ds) some)

some_parts : (u : List ℕ) → is_some_digits u ≡ true → (is_digits u ≡ true) × (0 < length u)
some_parts [] h = absurd cc
some_parts (c ∷ u) h = (h, omega arith)

exponent_whole : (m : ℕ) (e rest : List ℕ) → is_mark m ≡ true → is_exponent e ≡ true → NoDigit rest → exponent_len (m ∷ e ++ rest) ≡ suc (length e)
exponent_whole m [] rest mark h k = absurd cc
exponent_whole m (c ∷ u) rest mark h k =
    ap (λ b. if b then with_digits (1 + sign_len (c ∷ u ++ rest)) (drop (sign_len (c ∷ u ++ rest)) (c ∷ u ++ rest)) else 0) mark ∙ cases (is_sign c) refl
  where
    Len : Bool → ℕ
    Len b = with_digits (1 + (if b then 1 else 0)) (drop (if b then 1 else 0) (c ∷ u ++ rest))

    cases : (b : Bool) → is_sign c ≡ b → with_digits (1 + sign_len (c ∷ u ++ rest)) (drop (sign_len (c ∷ u ++ rest)) (c ∷ u ++ rest)) ≡ suc (suc (length u))
    cases true e =
        let p = some_parts u (sym (ap (λ b. elim b [ true ↦ is_some_digits u | false ↦ is_digit c && is_digits u ]) e) ∙ h) in
        ap (λ b. with_digits (1 + (if b then 1 else 0)) (drop (if b then 1 else 0) (c ∷ u ++ rest))) e ∙ some_with 2 u rest p.0 p.1 k ∙ omega arith
    cases false e =
        let p : is_digits (c ∷ u) ≡ true = sym (ap (λ b. elim b [ true ↦ is_some_digits u | false ↦ is_digit c && is_digits u ]) e) ∙ h in
        ap (λ b. with_digits (1 + (if b then 1 else 0)) (drop (if b then 1 else 0) (c ∷ u ++ rest))) e ∙ some_with 1 (c ∷ u) rest p (omega arith) k ∙ omega arith

back_whole : {b : List ℕ} → Back b → (rest : List ℕ) → ends_number rest ≡ true → exponent_len (b ++ rest) ≡ length b
back_whole bare rest h = rest_no_exponent rest h
back_whole (scaled {m = m} {e = e} mark is) rest h = exponent_whole m e rest mark is (rest_no_digit rest h)

mark_no_digit : (m : ℕ) → is_mark m ≡ true → is_digit m ≡ false
mark_no_digit m h = grind (arith, nat_tests)

mark_no_point : (m : ℕ) → is_mark m ≡ true → (m == 46) ≡ false
mark_no_point m h = grind (arith, nat_tests)

back_no_digit : {b : List ℕ} → Back b → (rest : List ℕ) → ends_number rest ≡ true → NoDigit (b ++ rest)
back_no_digit bare rest h = rest_no_digit rest h
back_no_digit (scaled {m = m} {e = e} mark is) rest h = no_digit m (e ++ rest) (mark_no_digit m mark)

no_point : (n : ℕ) (rest : List ℕ) (x : ℕ) (cs : List ℕ) → (x == 46) ≡ false → pointed_len n (x ∷ cs) ≡ n
no_point n rest x cs h = ap (λ b. if b && (if n == 0 then (if digits_len cs == 0 then false else true) else true) then n + 1 + digits_len cs else n) h

rest_no_point : (n : ℕ) (rest : List ℕ) → ends_number rest ≡ true → pointed_len n rest ≡ n
rest_no_point n [] h = refl
rest_no_point n (c ∷ cs) h = no_point n [] c cs (not-true (c == 46) (and_parts (not (c == 46)) (not (is_mark c)) (and_parts (not (is_digit c)) _ h).1).0)

back_no_point : {b : List ℕ} → Back b → (n : ℕ) (rest : List ℕ) → ends_number rest ≡ true → pointed_len n (b ++ rest) ≡ n
back_no_point bare n rest h = rest_no_point n rest h
back_no_point (scaled {m = m} {e = e} mark is) n rest h = no_point n [] m (e ++ rest) (mark_no_point m mark)

scaled_some : (sign n : ℕ) (bytes : List ℕ) → 0 < n → scaled_len sign n bytes ≡ sign + n + exponent_len (drop n bytes)
scaled_some sign n bytes h = ap (λ b. if b then 0 else sign + n + exponent_len (drop n bytes)) (not_zero n h)

-- digits and an exponent or none
plain_len : (sign : ℕ) (rest : List ℕ) → ends_number rest ≡ true → (ds b : List ℕ) → is_digits ds ≡ true → 0 < length ds → Back b → behind_sign_len sign ((ds ++ b) ++ rest) ≡ sign + length (ds ++ b)
plain_len sign rest h ds b d some k =
    let mantissa : mantissa_len (ds ++ (b ++ rest)) ≡ length ds =
    ap (λ n. pointed_len n (drop n (ds ++ (b ++ rest)))) (digits_whole ds (b ++ rest) d (back_no_digit k rest h)) ∙ ap (pointed_len (length ds)) (back ds (b ++ rest)) ∙ back_no_point k (length ds) rest h in
    ap (behind_sign_len sign) (append_assoc ds b rest)
    ∙ ap (λ n. scaled_len sign n (ds ++ (b ++ rest))) mantissa ∙ scaled_some sign (length ds) (ds ++ (b ++ rest)) some
    ∙ ap (λ l. sign + length ds + exponent_len l) (back ds (b ++ rest)) ∙ ap (λ n. sign + length ds + n) (back_whole k rest h) ∙ omega (arith, length-append ds b)

point_taken : (whole : ℕ) (cs : List ℕ) → 0 < whole + digits_len cs → pointed_len whole (46 ∷ cs) ≡ whole + 1 + digits_len cs
point_taken zero cs h = ap (λ b. if (if b then false else true) then 0 + 1 + digits_len cs else 0) (not_zero (digits_len cs) (omega (arith, h)))
point_taken (suc n) cs h = ap (λ b. if (if b then (if digits_len cs == 0 then false else true) else true) then suc n + 1 + digits_len cs else suc n) (not_zero (suc n) (omega arith))

pointed_len_is : (sign : ℕ) (rest : List ℕ) → ends_number rest ≡ true → (ds fs b : List ℕ) → is_digits ds ≡ true → is_digits fs ≡ true → 0 < length ds + length fs → Back b
    → behind_sign_len sign ((ds ++ 46 ∷ (fs ++ b)) ++ rest) ≡ sign + length (ds ++ 46 ∷ (fs ++ b))
pointed_len_is sign rest h ds fs b d f some k =
    let behind : List ℕ = fs ++ (b ++ rest) in
    let text : (ds ++ 46 ∷ (fs ++ b)) ++ rest ≡ ds ++ 46 ∷ behind = append_assoc ds (46 ∷ (fs ++ b)) rest ∙ ap (λ l. ds ++ 46 ∷ l) (append_assoc fs b rest) in
    let front : digits_len (ds ++ 46 ∷ behind) ≡ length ds = digits_whole ds (46 ∷ behind) d refl in
    let after : digits_len behind ≡ length fs = digits_whole fs (b ++ rest) f (back_no_digit k rest h) in
    let mantissa : mantissa_len (ds ++ 46 ∷ behind) ≡ length ds + 1 + length fs =
    ap (λ n. pointed_len n (drop n (ds ++ 46 ∷ behind))) front ∙ ap (pointed_len (length ds)) (back ds (46 ∷ behind))
    ∙ point_taken (length ds) behind (subst (λ n. 0 < length ds + n) (sym after) some) ∙ ap (λ n. length ds + 1 + n) after in
    let parts : ds ++ 46 ∷ behind ≡ (ds ++ 46 ∷ fs) ++ (b ++ rest) = sym (append_assoc ds (46 ∷ fs) (b ++ rest)) in
    let left : drop (length ds + 1 + length fs) (ds ++ 46 ∷ behind) ≡ b ++ rest =
    ap (drop (length ds + 1 + length fs)) parts ∙ ap (λ n. drop n ((ds ++ 46 ∷ fs) ++ (b ++ rest))) (let e : length ds + 1 + length fs ≡ length (ds ++ 46 ∷ fs) = omega (arith, length-append ds (46 ∷ fs)) in e) ∙ back (ds ++ 46 ∷ fs) (b ++ rest) in
    ap (behind_sign_len sign) text
    ∙ ap (λ n. scaled_len sign n (ds ++ 46 ∷ behind)) mantissa ∙ scaled_some sign (length ds + 1 + length fs) (ds ++ 46 ∷ behind) (omega arith)
    ∙ ap (λ l. sign + (length ds + 1 + length fs) + exponent_len l) left ∙ ap (λ n. sign + (length ds + 1 + length fs) + n) (back_whole k rest h)
    ∙ omega (arith, length-append ds (46 ∷ (fs ++ b)), length-append fs b)

unsigned_len : (sign : ℕ) (rest : List ℕ) → ends_number rest ≡ true → (u : List ℕ) → is_unsigned u ≡ true → behind_sign_len sign (u ++ rest) ≡ sign + length u
unsigned_len sign rest h u is = unsigned_by (λ u. behind_sign_len sign (u ++ rest) ≡ sign + length u) (plain_len sign rest h) (pointed_len_is sign rest h) u is

-- a number that stands in front is as long as its text
pub number_whole : (t rest : List ℕ) → is_number t ≡ true → ends_number rest ≡ true → number_len (t ++ rest) ≡ length t
number_whole [] rest is h = absurd cc
number_whole (c ∷ t) rest is h = cases (is_sign c) refl
  where
    cases : (b : Bool) → is_sign c ≡ b → number_len (c ∷ t ++ rest) ≡ suc (length t)
    cases true e =
        ap (λ b. behind_sign_len (if b then 1 else 0) (drop (if b then 1 else 0) (c ∷ t ++ rest))) e
        ∙ unsigned_len 1 rest h t (sym (ap (λ b. elim b [ true ↦ is_unsigned t | false ↦ is_unsigned (c ∷ t) ]) e) ∙ is) ∙ omega arith
    cases false e =
        ap (λ b. behind_sign_len (if b then 1 else 0) (drop (if b then 1 else 0) (c ∷ t ++ rest))) e
        ∙ unsigned_len 0 rest h (c ∷ t) (sym (ap (λ b. elim b [ true ↦ is_unsigned t | false ↦ is_unsigned (c ∷ t) ]) e) ∙ is) ∙ omega arith

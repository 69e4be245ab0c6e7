-- A number behind which no number goes on is a token.
use Rattle.std.proofs.Common.{◌≡◌, ◌∙◌, ℕ, zero, suc, ◌+◌, ◌-◌, ◌<◌, ◌≤◌, ◌&&◌, ◌||◌, ◌==◌, Bool, true, false, List, ◌∷◌, ◌++◌, length, take, Some, None, Ok, ap, sym, refl, subst, arith}
use Rattle.std.specs.Prelude.{if◌then◌else◌, codes}
use Rattle.std.specs.Str.{chars, is_utf8}
use Rattle.std.specs.Char.{len_utf8}
use Rattle.std.specs.Option.{option_map}
use Rattle.std.specs.Cmp.Lexicographic.{pointwise, bytes_decides}
use Rattle.std.proofs.lemmas.Bool.Decides.{nat_tests}
use Rattle.std.proofs.lemmas.Bool.{and_parts}
use Rattle.unicode_ident.proofs.Computing.{unicode_ident}
use Rattle.usd_names.specs.Names.{is_start, spells_joined, is_number_word}
use Rattle.sdf_values.specs.Numbers.{DecimalNumber, IsDecimal}
use Rattle.sdf_values.specs.NumberTexts.{is_digit, is_sign, is_unsigned, is_number, ends_whole, starts_fraction}
use Rattle.sdf_values.specs.Print.{decimal_text}
use Rattle.sdf_values.specs.declared.decimal.Num.TheVariants.{Finite, Inf, NegInf, Nan}
use Rattle.sdf_values.proofs.Fractions.{not_zero}
use Rattle.sdf_values.proofs.Printed.{printed_writes}
use Rattle.usda_lexer.specs.declared.token.TokenKind.TheVariants as kind
use Rattle.usda_lexer.specs.Names.{name_end, name_len}
use Rattle.usda_lexer.specs.Blanks.{between_from}
use Rattle.usda_lexer.specs.Decimals.{decimal_of}
use Rattle.usda_lexer.specs.Forms.{number_len}
use Rattle.usda_lexer.specs.Meanings.{number_of}
use Rattle.usda_lexer.specs.Words.{found, name_or_other, number_or_mark, minus_or_mark, if_short, begins_number_word, quoted_or_mark}
use Rattle.usda_lexer.proofs.DecimalLaw.{decimal_law}
use Rattle.value_texts.specs.Follows.{ends_name, ends_number}
use Rattle.value_texts.proofs.Pieces.{front}
use Rattle.value_texts.proofs.NumberLengths.{number_whole}
use Rattle.value_texts.proofs.NameTokens.{chars_ascii, name_whole, name_found}
use Rattle.value_texts.proofs.Borders.{either, at_one}

-- a digit, a sign or a point
abbrev is_first : ℕ → Bool
is_first c = is_digit c || (is_sign c || (c == 46))

number_first : (c : ℕ) (t : List ℕ) → is_number (c ∷ t) ≡ true → is_first c ≡ true
number_first c t h = cases (is_sign c) refl
  where
    unsigned : (b : Bool) → is_digit c ≡ b → (x : Bool) → is_sign c ≡ x → is_unsigned (c ∷ t) ≡ true → is_first c ≡ true
    unsigned true e x s u = ap (λ b. b || (is_sign c || (c == 46))) e
    unsigned false e x s u =
        let p = and_parts (c == 46) _ (sym (ap (λ b. elim b [ true ↦ ends_whole t | false ↦ (c == 46) && starts_fraction t ]) e) ∙ u) in
        grind (arith, nat_tests)

    cases : (b : Bool) → is_sign c ≡ b → is_first c ≡ true
    cases true e = grind (arith, nat_tests)
    cases false e = unsigned (is_digit c) refl false e (sym (ap (λ b. elim b [ true ↦ is_unsigned t | false ↦ is_unsigned (c ∷ t) ]) e) ∙ h)

digit_at : (P : ℕ → Type 0) → P 48 → P 49 → P 50 → P 51 → P 52 → P 53 → P 54 → P 55 → P 56 → P 57 → (k : ℕ) → k < 10 → P (48 + k)
digit_at P p0 p1 p2 p3 p4 p5 p6 p7 p8 p9 zero h = p0
digit_at P p0 p1 p2 p3 p4 p5 p6 p7 p8 p9 (suc zero) h = p1
digit_at P p0 p1 p2 p3 p4 p5 p6 p7 p8 p9 (suc (suc zero)) h = p2
digit_at P p0 p1 p2 p3 p4 p5 p6 p7 p8 p9 (suc (suc (suc zero))) h = p3
digit_at P p0 p1 p2 p3 p4 p5 p6 p7 p8 p9 (suc (suc (suc (suc zero)))) h = p4
digit_at P p0 p1 p2 p3 p4 p5 p6 p7 p8 p9 (suc (suc (suc (suc (suc zero))))) h = p5
digit_at P p0 p1 p2 p3 p4 p5 p6 p7 p8 p9 (suc (suc (suc (suc (suc (suc zero)))))) h = p6
digit_at P p0 p1 p2 p3 p4 p5 p6 p7 p8 p9 (suc (suc (suc (suc (suc (suc (suc zero))))))) h = p7
digit_at P p0 p1 p2 p3 p4 p5 p6 p7 p8 p9 (suc (suc (suc (suc (suc (suc (suc (suc zero)))))))) h = p8
digit_at P p0 p1 p2 p3 p4 p5 p6 p7 p8 p9 (suc (suc (suc (suc (suc (suc (suc (suc (suc zero))))))))) h = p9
digit_at P p0 p1 p2 p3 p4 p5 p6 p7 p8 p9 (suc (suc (suc (suc (suc (suc (suc (suc (suc (suc k)))))))))) h = absurd (omega (arith, h))

each_digit : (P : ℕ → Type 0) → P 48 → P 49 → P 50 → P 51 → P 52 → P 53 → P 54 → P 55 → P 56 → P 57 → (c : ℕ) → is_digit c ≡ true → P c
each_digit P p0 p1 p2 p3 p4 p5 p6 p7 p8 p9 c h =
    let low : 48 ≤ c = grind (arith, nat_tests) in
    let high : c ≤ 57 = grind (arith, nat_tests) in
    subst P (let e : 48 + (c - 48) ≡ c = omega (arith, low) in e) (digit_at P p0 p1 p2 p3 p4 p5 p6 p7 p8 p9 (c - 48) (omega (arith, low, high)))

each_first : (P : ℕ → Type 0) → P 48 → P 49 → P 50 → P 51 → P 52 → P 53 → P 54 → P 55 → P 56 → P 57 → P 43 → P 45 → P 46 → (c : ℕ) → is_first c ≡ true → P c
each_first P p0 p1 p2 p3 p4 p5 p6 p7 p8 p9 plus minus point c =
    either (P c) (is_digit c) _ (each_digit P p0 p1 p2 p3 p4 p5 p6 p7 p8 p9 c) (either (P c) (is_sign c) _ (either (P c) (c == 43) _ (at_one P c 43 plus) (at_one P c 45 minus)) (at_one P c 46 point))

first_no_name : (c : ℕ) → is_first c ≡ true → is_start c ≡ false
unfolding unicode_ident is_start
first_no_name = each_first (λ c. is_start c ≡ false) refl refl refl refl refl refl refl refl refl refl refl refl refl

pub starts_no_digit : (c : ℕ) → is_digit c ≡ true → is_start c ≡ false
starts_no_digit c h = first_no_name c (ap (λ b. b || (is_sign c || (c == 46))) h)

first_ascii : (c : ℕ) → is_first c ≡ true → c < 128
first_ascii c h = grind (arith, nat_tests)

first_no_gap : (c : ℕ) (cs : List ℕ) → is_first c ≡ true → between_from c cs ≡ None
first_no_gap c cs h = each_first (λ c. between_from c cs ≡ None) refl refl refl refl refl refl refl refl refl refl refl refl refl c h

-- no name begins where no name may begin
pub no_name : (c : ℕ) (cs : List ℕ) → c < 128 → is_start c ≡ false → name_len (c ∷ cs) ≡ 0
no_name c cs low h =
    ap (name_end false 0 0) (chars_ascii c cs low) ∙ ap (λ b. elim b as (λ _. ℕ) [ true ↦ name_end true (0 + len_utf8 c) (0 + len_utf8 c) (chars cs) | false ↦ 0 ]) h

pub number_begins : (c : ℕ) (t rest : List ℕ) → is_number (c ∷ t) ≡ true → between_from c rest ≡ None
number_begins c t rest h = first_no_gap c rest (number_first c t h)

-- a number is a token
pub number_found : (at c : ℕ) (t rest : List ℕ) (d : DecimalNumber) → is_number (c ∷ t) ≡ true → decimal_of (c ∷ t) ≡ Some d → ends_number rest ≡ true
    → found at (c ∷ t ++ rest) ≡ Ok (kind.Number, length (c ∷ t))
unfolding found
number_found at c t rest d is value h =
    let first = number_first c t is in
    let len : number_len (c ∷ t ++ rest) ≡ length (c ∷ t) = number_whole (c ∷ t) rest is h in
    ap (λ n. name_or_other at n (c ∷ t ++ rest)) (no_name c (t ++ rest) (first_ascii c first) (first_no_name c first))
    ∙ ap (λ n. number_or_mark at n (c ∷ t ++ rest)) len
    ∙ ap (λ b. if b then minus_or_mark at (c ∷ t ++ rest) else if_short at (length (c ∷ t)) (decimal_of (take (length (c ∷ t)) (c ∷ t ++ rest)))) (not_zero (length (c ∷ t)) (omega arith))
    ∙ ap (λ x. if_short at (length (c ∷ t)) (decimal_of x)) (front (c ∷ t) rest)
    ∙ ap (if_short at (length (c ∷ t))) value

pub printed_decimal : (d : DecimalNumber) → IsDecimal d → decimal_of (decimal_text d) ≡ Some d
printed_decimal d is = (decimal_law (decimal_text d) d).1 (is, printed_writes d is)

pub printed_number : (d : DecimalNumber) → IsDecimal d → is_number (decimal_text d) ≡ true
printed_number d is = (printed_writes d is).is_text

-- no number's text is one of the words
no_word : (t w : List ℕ) → is_number t ≡ true → is_number w ≡ false → pointwise ◌==◌ t w ≡ false
no_word t w is none = cases (pointwise ◌==◌ t w) refl
  where
    cases : (b : Bool) → pointwise ◌==◌ t w ≡ b → b ≡ false
    cases false e = refl
    cases true e = (let same : is_number w ≡ true = subst (λ x. is_number x ≡ true) ((bytes_decides t w).0 e) is in absurd cc)

pub decimal_number_of : (t : List ℕ) (d : DecimalNumber) → is_number t ≡ true → decimal_of t ≡ Some d → number_of t ≡ Some (Finite d)
unfolding number_of
decimal_number_of t d is value =
    ap (λ b. if b then Some Inf else if pointwise ◌==◌ t (codes "-inf") then Some NegInf else if pointwise ◌==◌ t (codes "nan") || pointwise ◌==◌ t (codes "-nan") then Some Nan else option_map Finite (decimal_of t)) (no_word t (codes "inf") is refl)
    ∙ ap (λ b. if b then Some NegInf else if pointwise ◌==◌ t (codes "nan") || pointwise ◌==◌ t (codes "-nan") then Some Nan else option_map Finite (decimal_of t)) (no_word t (codes "-inf") is refl)
    ∙ ap (λ b. if b || pointwise ◌==◌ t (codes "-nan") then Some Nan else option_map Finite (decimal_of t)) (no_word t (codes "nan") is refl)
    ∙ ap (λ b. if b then Some Nan else option_map Finite (decimal_of t)) (no_word t (codes "-nan") is refl)
    ∙ ap (option_map Finite) value

pub inf_number : number_of (codes "inf") ≡ Some Inf
unfolding number_of
inf_number = refl

pub minus_inf_number : number_of (codes "-inf") ≡ Some NegInf
unfolding number_of
minus_inf_number = refl

pub nan_number : number_of (codes "nan") ≡ Some Nan
unfolding number_of
nan_number = refl

-- the words `inf` and `nan`
inf_named : (is_utf8 (codes "inf") ≡ true) × (spells_joined false (chars (codes "inf")) ≡ true)
unfolding is_utf8 chars is_start unicode_ident lib.Utf8.encode
inf_named = (refl, refl)

nan_named : (is_utf8 (codes "nan") ≡ true) × (spells_joined false (chars (codes "nan")) ≡ true)
unfolding is_utf8 chars is_start unicode_ident lib.Utf8.encode
nan_named = (refl, refl)

pub inf_found : (at : ℕ) (rest : List ℕ) → ends_name rest ≡ true → found at (codes "inf" ++ rest) ≡ Ok (kind.Number, 3)
inf_found at rest h = name_found at (codes "inf") rest inf_named.0 inf_named.1 h (omega arith)

pub nan_found : (at : ℕ) (rest : List ℕ) → ends_name rest ≡ true → found at (codes "nan" ++ rest) ≡ Ok (kind.Number, 3)
nan_found at rest h = name_found at (codes "nan") rest nan_named.0 nan_named.1 h (omega arith)

minus_no_start : is_start 45 ≡ false
unfolding unicode_ident is_start
minus_no_start = refl

inf_in_front : (rest : List ℕ) → ends_name rest ≡ true → begins_number_word (codes "inf" ++ rest) ≡ true
inf_in_front rest h = ap (λ n. is_number_word (take n (codes "inf" ++ rest))) (name_whole (codes "inf") rest inf_named.0 inf_named.1 h)

pub minus_inf_found : (at : ℕ) (rest : List ℕ) → ends_name rest ≡ true → found at (codes "-inf" ++ rest) ≡ Ok (kind.Number, 4)
unfolding found
minus_inf_found at rest h =
    ap (λ n. name_or_other at n (codes "-inf" ++ rest)) (no_name 45 (codes "inf" ++ rest) (omega arith) minus_no_start)
    ∙ ap (λ b. if b then Ok (kind.Number, 4) else quoted_or_mark at 45 (codes "inf" ++ rest)) (inf_in_front rest h)

-- Each kind of token is cut off, where what follows ends it.
use Rattle.std.proofs.Common.{◌≡◌, ◌∙◌, ℕ, zero, suc, ◌+◌, ◌*◌, ◌<◌, ◌&&◌, ◌||◌, ◌==◌, not, Bool, true, false, List, [], ◌∷◌, ◌++◌, length, replicate, Option, Some, None, Ok, ap, sym, refl, subst, arith, eqb-true, eq-eqb}
use Rattle.std.specs.Prelude.{if◌then◌else◌, codes, ℤ, unsigned_abs, nat_le, nat_lt, ◌^◌, ◌%◌, pos, negsuc}
use Rattle.std.specs.Option.{is_some}
use Rattle.std.specs.Str.{chars, is_utf8}
use Rattle.std.proofs.lemmas.Str.{chars-nil}
use Rattle.std.proofs.lemmas.Bool.Decides.{nat_tests}
use Rattle.unicode_ident.proofs.Computing.{unicode_ident}
use Rattle.usd_names.specs.Names.{is_start, spells_joined, is_number_word, is_name, is_identifier}
use Rattle.std.proofs.lemmas.Bool.{and_parts, not-true}
use Rattle.sdf_values.specs.Numbers.{DecimalNumber, IsDecimal, zero_number}
use Rattle.sdf_values.proofs.Powers.{same_parts}
use Rattle.sdf_values.specs.NumberTexts.{is_number}
use Rattle.sdf_values.specs.Scales.{IsTime}
use Rattle.sdf_values.specs.Print.{decimal_text, num_text, time_text, whole_text, quoted, asset_text, is_long_asset, is_plain_key, key_text, blanks}
use Rattle.sdf_values.specs.declared.decimal.Num.{Num}
use Rattle.sdf_values.specs.declared.decimal.Num.TheVariants as num
use Rattle.usda_lexer.specs.declared.token.TokenKind.TheVariants as kind
use Rattle.usda_lexer.specs.Decimals.{decimal_of, is_exponent_in_range}
use Rattle.usda_lexer.specs.Forms.{digits_len}
use Rattle.usda_lexer.specs.Words.{name_kind, Found, found as found_token}
use Rattle.usda_lexer.proofs.DecimalLaw.{in_range}
use Rattle.usda_values.specs.Scalars.{in_128_bits, decimal_of_whole}
use Rattle.usda_values.proofs.Wholes.{abs_zero}
use Rattle.value_texts.specs.Cuts.{Said, IsCut}
use Rattle.value_texts.specs.Follows.{ends_name, ends_number, begins_not}
use Rattle.value_texts.specs.Writable.{is_writable_asset, is_writable_path, is_writable_number, is_writable_whole, is_decimal, is_zero_exponent}
use Rattle.value_texts.specs.ValueWords.{name_said, number_said, string_said, asset_said, path_said, key_said, open_paren, close_paren, open_bracket, close_bracket, open_brace, close_brace, comma, equals, semicolon, dot}
use Rattle.value_texts.proofs.Pieces.{token_cut, both_cut, nothing_cut, blank_cut}
use Rattle.value_texts.proofs.NameTokens.{name_begins, name_found}
use Rattle.value_texts.proofs.NumberTokens.{number_begins, number_found, printed_decimal, printed_number, inf_found, nan_found, minus_inf_found}
use Rattle.value_texts.proofs.MarkTokens as found
use Rattle.value_texts.proofs.StringTokens.{string_found}
use Rattle.value_texts.proofs.AssetTokens.{asset_found, path_found}
use Rattle.value_texts.proofs.PrintedNumbers.{IsKept, whole_kept, time_kept}
use Rattle.value_texts.proofs.Tests.{implied}

pub recut : (at : ℕ) (s t : List ℕ) (a b : List Said) (rest : List ℕ) → s ≡ t → a ≡ b → IsCut at s a rest → IsCut at t b rest
recut at s t a b rest e f c = subst (λ x. IsCut at x b rest) e (subst (λ x. IsCut at s x rest) f c)

-- marks
pub open_paren_cut : (at : ℕ) (rest : List ℕ) → IsCut at (codes "(") (open_paren ∷ []) rest
open_paren_cut at rest = token_cut at open_paren.kind 40 [] rest refl (found.open_paren at rest)

pub close_paren_cut : (at : ℕ) (rest : List ℕ) → IsCut at (codes ")") (close_paren ∷ []) rest
close_paren_cut at rest = token_cut at close_paren.kind 41 [] rest refl (found.close_paren at rest)

pub open_bracket_cut : (at : ℕ) (rest : List ℕ) → IsCut at (codes "[") (open_bracket ∷ []) rest
open_bracket_cut at rest = token_cut at open_bracket.kind 91 [] rest refl (found.open_bracket at rest)

pub close_bracket_cut : (at : ℕ) (rest : List ℕ) → IsCut at (codes "]") (close_bracket ∷ []) rest
close_bracket_cut at rest = token_cut at close_bracket.kind 93 [] rest refl (found.close_bracket at rest)

pub open_brace_cut : (at : ℕ) (rest : List ℕ) → IsCut at (codes "{") (open_brace ∷ []) rest
open_brace_cut at rest = token_cut at open_brace.kind 123 [] rest refl (found.open_brace at rest)

pub close_brace_cut : (at : ℕ) (rest : List ℕ) → IsCut at (codes "}") (close_brace ∷ []) rest
close_brace_cut at rest = token_cut at close_brace.kind 125 [] rest refl (found.close_brace at rest)

pub comma_cut : (at : ℕ) (rest : List ℕ) → IsCut at (codes ",") (comma ∷ []) rest
comma_cut at rest = token_cut at comma.kind 44 [] rest refl (found.comma at rest)

pub equals_cut : (at : ℕ) (rest : List ℕ) → IsCut at (codes "=") (equals ∷ []) rest
equals_cut at rest = token_cut at equals.kind 61 [] rest refl (found.equals at rest)

pub semicolon_cut : (at : ℕ) (rest : List ℕ) → IsCut at (codes ";") (semicolon ∷ []) rest
semicolon_cut at rest = token_cut at semicolon.kind 59 [] rest refl (found.semicolon at rest)

pub dot_cut : (at : ℕ) (rest : List ℕ) → digits_len rest ≡ 0 → IsCut at (codes ".") (dot ∷ []) rest
dot_cut at rest none = token_cut at dot.kind 46 [] rest refl (found.dot at rest none)

-- blanks
pub space_cut : (at : ℕ) (rest : List ℕ) → IsCut at (codes " ") [] rest
space_cut at rest = blank_cut at 32 rest refl

pub line_feed_cut : (at : ℕ) (rest : List ℕ) → IsCut at (codes "\n") [] rest
line_feed_cut at rest = blank_cut at 10 rest refl

pub spaces_cut : (n at : ℕ) (rest : List ℕ) → IsCut at (replicate n 32) [] rest
spaces_cut zero at rest = nothing_cut at rest
spaces_cut (suc n) at rest = both_cut at (codes " ") (replicate n 32) [] [] rest (space_cut at (replicate n 32 ++ rest)) (spaces_cut n (at + 1) rest)

pub blanks_cut : (indent at : ℕ) (rest : List ℕ) → IsCut at (blanks indent) [] rest
blanks_cut indent at rest = spaces_cut (4 * indent) at rest

-- names
any_name_cut : (at : ℕ) (t rest : List ℕ) → is_utf8 t ≡ true → spells_joined false (chars t) ≡ true → ends_name rest ≡ true → IsCut at t (record { kind = name_kind t; text = t } ∷ []) rest
any_name_cut at [] rest u s h = absurd (let e : spells_joined false [] ≡ true = ap (spells_joined false) (sym chars-nil) ∙ s in cc)
any_name_cut at (c ∷ t) rest u s h = token_cut at (name_kind (c ∷ t)) c t rest (name_begins c t (t ++ rest) u s) (name_found at (c ∷ t) rest u s h (omega arith))

pub name_cut : (at : ℕ) (t rest : List ℕ) → is_utf8 t ≡ true → spells_joined false (chars t) ≡ true → is_number_word t ≡ false → ends_name rest ≡ true → IsCut at t (name_said t ∷ []) rest
name_cut at t rest u s w h =
    recut at t t (record { kind = name_kind t; text = t } ∷ []) (name_said t ∷ []) rest refl (ap (λ b. record { kind = if b then kind.Number else kind.Name; text = t } ∷ []) w) (any_name_cut at t rest u s h)

pub word_cut : (at : ℕ) (t rest : List ℕ) → is_utf8 t ≡ true → is_name t ≡ true → ends_name rest ≡ true → IsCut at t (name_said t ∷ []) rest
word_cut at t rest u is h = let p = and_parts (spells_joined false (chars t)) (not (is_number_word t)) is in name_cut at t rest u p.0 (not-true (is_number_word t) p.1) h

-- keywords
true_named : (is_utf8 (codes "true") ≡ true) × (spells_joined false (chars (codes "true")) ≡ true)
unfolding is_utf8 chars is_start unicode_ident lib.Utf8.encode
true_named = (refl, refl)

false_named : (is_utf8 (codes "false") ≡ true) × (spells_joined false (chars (codes "false")) ≡ true)
unfolding is_utf8 chars is_start unicode_ident lib.Utf8.encode
false_named = (refl, refl)

none_named : (is_utf8 (codes "None") ≡ true) × (spells_joined false (chars (codes "None")) ≡ true)
unfolding is_utf8 chars is_start unicode_ident lib.Utf8.encode
none_named = (refl, refl)

dictionary_named : (is_utf8 (codes "dictionary") ≡ true) × (spells_joined false (chars (codes "dictionary")) ≡ true)
unfolding is_utf8 chars is_start unicode_ident lib.Utf8.encode
dictionary_named = (refl, refl)

pub true_cut : (at : ℕ) (rest : List ℕ) → ends_name rest ≡ true → IsCut at (codes "true") (name_said (codes "true") ∷ []) rest
true_cut at rest h = name_cut at (codes "true") rest true_named.0 true_named.1 refl h

pub false_cut : (at : ℕ) (rest : List ℕ) → ends_name rest ≡ true → IsCut at (codes "false") (name_said (codes "false") ∷ []) rest
false_cut at rest h = name_cut at (codes "false") rest false_named.0 false_named.1 refl h

pub none_cut : (at : ℕ) (rest : List ℕ) → ends_name rest ≡ true → IsCut at (codes "None") (name_said (codes "None") ∷ []) rest
none_cut at rest h = name_cut at (codes "None") rest none_named.0 none_named.1 refl h

pub dictionary_cut : (at : ℕ) (rest : List ℕ) → ends_name rest ≡ true → IsCut at (codes "dictionary") (name_said (codes "dictionary") ∷ []) rest
dictionary_cut at rest h = name_cut at (codes "dictionary") rest dictionary_named.0 dictionary_named.1 refl h

-- numbers
pub digits_cut : (at : ℕ) (t rest : List ℕ) (d : DecimalNumber) → is_number t ≡ true → decimal_of t ≡ Some d → ends_number rest ≡ true → IsCut at t (number_said t ∷ []) rest
digits_cut at [] rest d is value h = absurd cc
digits_cut at (c ∷ t) rest d is value h = token_cut at kind.Number c t rest (number_begins c t (t ++ rest) is) (number_found at c t rest d is value h)

pub decimal_cut : (at : ℕ) (d : DecimalNumber) (rest : List ℕ) → IsDecimal d → ends_number rest ≡ true → IsCut at (decimal_text d) (number_said (decimal_text d) ∷ []) rest
decimal_cut at d rest is h = digits_cut at (decimal_text d) rest d (printed_number d is) (printed_decimal d is) h

-- a text that is that of a decimal
pub same_cut : (at : ℕ) (t : List ℕ) (d : DecimalNumber) (rest : List ℕ) → IsDecimal d → t ≡ decimal_text d → ends_number rest ≡ true → IsCut at t (number_said t ∷ []) rest
same_cut at t d rest is e h = subst (λ x. IsCut at x (number_said x ∷ []) rest) (sym e) (decimal_cut at d rest is h)

no_exponent : (z : ℤ) → is_zero_exponent z ≡ true → z ≡ pos 0
no_exponent (pos n) h = ap pos (eqb-true n 0 h)
no_exponent (negsuc n) h = absurd cc

pub good_decimal : (d : DecimalNumber) → is_decimal d ≡ true → IsDecimal d
good_decimal d h =
    let p = and_parts (nat_lt (unsigned_abs d.digits) (10 ^ 34)) _ h in
    let q = and_parts (is_exponent_in_range d.exp) (not (unsigned_abs d.digits % 10 == 0) || ((unsigned_abs d.digits == 0) && is_zero_exponent d.exp)) p.1 in
    let range = in_range d.exp q.0 in
    record {
      short = (let few = p.0 in grind (arith, nat_tests));
      least = range.0;
      most = range.1;
      reduced = λ e.
          (let zero = and_parts (unsigned_abs d.digits == 0) (is_zero_exponent d.exp) (implied (unsigned_abs d.digits % 10 == 0) _ (eq-eqb (unsigned_abs d.digits % 10) 0 e) q.1) in
          same_parts d zero_number (abs_zero d.digits (eqb-true (unsigned_abs d.digits) 0 zero.0)) (no_exponent d.exp zero.1));
    }

pub number_cut : (at : ℕ) (x : Num) (rest : List ℕ) → is_writable_number x ≡ true → ends_name rest ≡ true → ends_number rest ≡ true → IsCut at (num_text x) (number_said (num_text x) ∷ []) rest
number_cut at (num.Finite d) rest w h k = decimal_cut at d rest (good_decimal d w) k
number_cut at num.Inf rest w h k = token_cut at kind.Number 105 (110 ∷ 102 ∷ []) rest refl (inf_found at rest h)
number_cut at num.NegInf rest w h k = token_cut at kind.Number 45 (105 ∷ 110 ∷ 102 ∷ []) rest refl (minus_inf_found at rest h)
number_cut at num.Nan rest w h k = token_cut at kind.Number 110 (97 ∷ 110 ∷ []) rest refl (nan_found at rest h)

some_same : (b : Bool) (x : ℤ) → is_some (if b then Some x else None) ≡ true → (if b then Some x else None) ≡ Some x
some_same true x h = refl
some_same false x h = absurd cc

fits_same : (n : ℤ) → is_some (in_128_bits n) ≡ true → in_128_bits n ≡ Some n
fits_same (pos n) h = some_same (nat_lt n (2 ^ 127)) (pos n) h
fits_same (negsuc n) h = some_same (nat_lt n (2 ^ 127)) (negsuc n) h

-- the decimal of a whole number that can be written
pub written_whole : (n : ℤ) → is_writable_whole n ≡ true → (d : DecimalNumber) × (decimal_of_whole n ≡ Some d) × (in_128_bits n ≡ Some n) × IsKept n d
written_whole n w =
    let p = and_parts (is_some (in_128_bits n)) (is_some (decimal_of_whole n)) w in
    let fits : in_128_bits n ≡ Some n = fits_same n p.0 in
    found_decimal (decimal_of_whole n) refl p.1 fits
  where
    found_decimal : (r : Option DecimalNumber) → decimal_of_whole n ≡ r → is_some r ≡ true → in_128_bits n ≡ Some n → (d : DecimalNumber) × (decimal_of_whole n ≡ Some d) × (in_128_bits n ≡ Some n) × IsKept n d
    found_decimal (Some d) e s fits = (d, e, fits, whole_kept n d fits e)
    found_decimal None e s fits = absurd cc

pub whole_cut : (at : ℕ) (n : ℤ) (rest : List ℕ) → is_writable_whole n ≡ true → ends_number rest ≡ true → IsCut at (whole_text n) (number_said (whole_text n) ∷ []) rest
whole_cut at n rest w h = let p = written_whole n w in same_cut at (whole_text n) p.0 rest p.3.good p.3.text h

pub time_cut : (at : ℕ) (t : ℤ) (rest : List ℕ) → nat_le (unsigned_abs t) (10 ^ 30) ≡ true → ends_number rest ≡ true → IsCut at (time_text t) (number_said (time_text t) ∷ []) rest
time_cut at t rest w h =
    let within : IsTime t = grind (arith, nat_tests) in
    let p = time_kept t within in
    same_cut at (time_text t) p.0 rest p.1.good p.1.text h

abbrev at_found : List ℕ → ℕ → Found
at_found text at = found_token at text

-- strings, assets and paths
pub string_cut : (at : ℕ) (t rest : List ℕ) → begins_not 34 rest ≡ true → IsCut at (quoted t) (string_said (quoted t) ∷ []) rest
string_cut at t rest h = token_cut at kind.String 34 _ rest refl (string_found at t rest h)

pub path_cut : (at : ℕ) (t rest : List ℕ) → is_writable_path t ≡ true → IsCut at (codes "<" ++ t ++ codes ">") (path_said (codes "<" ++ t ++ codes ">") ∷ []) rest
path_cut at t rest w = token_cut at kind.Path 60 (t ++ codes ">") rest refl (path_found at t rest w)

pub asset_cut : (at : ℕ) (t rest : List ℕ) → is_writable_asset t ≡ true → begins_not 64 rest ≡ true → IsCut at (asset_text t) (asset_said (asset_text t) ∷ []) rest
asset_cut at t rest w h = test (is_long_asset t) (asset_found at t rest w h)
  where
    test : (b : Bool) → at_found ((if b then codes "@@@" ++ t ++ codes "@@@" else codes "@" ++ t ++ codes "@") ++ rest) at ≡ Ok (kind.Asset, length (if b then codes "@@@" ++ t ++ codes "@@@" else codes "@" ++ t ++ codes "@"))
        → IsCut at (if b then codes "@@@" ++ t ++ codes "@@@" else codes "@" ++ t ++ codes "@") (asset_said (if b then codes "@@@" ++ t ++ codes "@@@" else codes "@" ++ t ++ codes "@") ∷ []) rest
    test true e = token_cut at kind.Asset 64 (64 ∷ 64 ∷ t ++ codes "@@@") rest refl e
    test false e = token_cut at kind.Asset 64 (t ++ codes "@") rest refl e

-- a key of a dictionary
pub key_cut : (at : ℕ) (k rest : List ℕ) → is_utf8 k ≡ true → ends_name rest ≡ true → begins_not 34 rest ≡ true → IsCut at (key_text k) (key_said k ∷ []) rest
key_cut at k rest u h s = test (is_plain_key k) refl
  where
    test : (b : Bool) → is_plain_key k ≡ b → IsCut at (if b then k else quoted k) ((if b then name_said k else string_said (quoted k)) ∷ []) rest
    test true e = word_cut at k rest u (and_parts (is_name k) (is_identifier k) e).0 h
    test false e = string_cut at k rest s

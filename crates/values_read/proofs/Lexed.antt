-- Each token of a text that is UTF-8 is as a text has it.
use Rattle.std.proofs.Common.{◌≡◌, ◌∙◌, ℕ, zero, suc, ◌+◌, ◌-◌, ◌<◌, Bool, true, false, ◌&&◌, ◌||◌, ◌==◌, not, List, [], ◌∷◌, ◌++◌, take, drop, Option, Some, None, Result, Ok, Err, ap, sym, refl, subst, arith, eqb-true}
use Rattle.std.specs.Prelude.{if◌then◌else◌, codes}
use Rattle.std.specs.Str.{IsUtf8}
use Rattle.std.specs.Cmp.Lexicographic.{pointwise, bytes_decides}
use Rattle.std.proofs.lemmas.Bool.Decides.{nat_tests}
use Rattle.std.proofs.lemmas.List.{drop-drop, take-append-drop}
use Rattle.std.proofs.lemmas.Str.{IsUtf8-from_is_utf8, IsUtf8-nil}
use Rattle.std.proofs.lemmas.Bool.{and_parts}
use Rattle.sdf_values.specs.Numbers.{DecimalNumber}
use Rattle.sdf_values.specs.NumberTexts.{is_digit, is_sign, is_mark, is_digits, is_some_digits, is_exponent, ends_fraction, starts_fraction, ends_whole, is_unsigned, is_number}
use Rattle.usd_names.specs.Names.{is_name, is_number_word}
use Rattle.usda_lexer.specs.Blanks.{gap}
use Rattle.usda_lexer.specs.Decimals.{decimal_of}
use Rattle.usda_lexer.specs.Forms.{number_len, string_len, asset_len, closed_line}
use Rattle.usda_lexer.specs.Names.{name_len}
use Rattle.usda_lexer.specs.Words.{Word, Found, mark_of, if_closed, if_mark, quoted_or_mark, if_short, name_kind, begins_number_word, minus_or_mark, found, cut, word_in_front, word_behind, next_word, and_then, lexing_from, left}
use Rattle.usda_lexer.specs.declared.blanks.Between.TheVariants.{Blank}
use Rattle.usda_lexer.specs.declared.token.LexFault.{LexFault}
use Rattle.usda_lexer.specs.declared.token.Mark.{Mark}
use Rattle.usda_lexer.specs.declared.token.Mark.TheVariants.{OpenParen, CloseParen, OpenBrace, CloseBrace, OpenBracket, CloseBracket, Equals, Comma, Semicolon, Colon, Dot}
use Rattle.usda_lexer.specs.declared.token.TokenKind.{TokenKind}
use Rattle.usda_lexer.specs.declared.token.TokenKind.TheVariants as kind
use Rattle.usda_lexer.proofs.DecimalLaw.{decimal_law}
use Rattle.value_texts.proofs.Lengths.{some_len}
use Rattle.values_read.specs.Tokens.{is_lexed, AreLexed}
use Rattle.values_read.specs.Laws.{TokensAreLexed}
use Rattle.values_read.proofs.Seams.{behind_ascii}
use Rattle.values_read.proofs.Gaps.{behind_gap}
use Rattle.values_read.proofs.NameTokens.{IsNameInFront, name_in_front}
use Rattle.values_read.proofs.Quoted.{EndsLow, behind_low, low_behind, line_ends, quoted_ends, path_utf8, asset_is_token}

-- ---- numbers are ASCII

abbrev AreLow : List ℕ → Type 0
AreLow [] = Unit {0}
AreLow (c ∷ cs) = (c < 128) × AreLow cs

low_digit : (c : ℕ) → is_digit c ≡ true → c < 128
low_digit c h = grind (arith, nat_tests)

low_sign : (c : ℕ) → is_sign c ≡ true → c < 128
low_sign c h = grind (arith, nat_tests)

low_mark : (c : ℕ) → is_mark c ≡ true → c < 128
low_mark c h = grind (arith, nat_tests)

low_digits : (t : List ℕ) → is_digits t ≡ true → AreLow t
low_digits [] h = tt
low_digits (c ∷ t) h = let p = and_parts (is_digit c) (is_digits t) h in (low_digit c p.0, low_digits t p.1)

low_some_digits : (t : List ℕ) → is_some_digits t ≡ true → AreLow t
low_some_digits [] h = absurd cc
low_some_digits (c ∷ t) h = let p = and_parts (is_digit c) (is_digits t) h in (low_digit c p.0, low_digits t p.1)

low_exponent : (t : List ℕ) → is_exponent t ≡ true → AreLow t
low_exponent [] h = absurd cc
low_exponent (c ∷ t) h = cases (is_sign c) refl h
  where
    cases : (b : Bool) → is_sign c ≡ b → elim b as (λ _. Bool) [ true ↦ is_some_digits t | false ↦ is_digit c && is_digits t ] ≡ true → AreLow (c ∷ t)
    cases true e g = (low_sign c e, low_some_digits t g)
    cases false e g = let p = and_parts (is_digit c) (is_digits t) g in (low_digit c p.0, low_digits t p.1)

low_scaled : (c : ℕ) (t : List ℕ) → (is_mark c && is_exponent t) ≡ true → AreLow (c ∷ t)
low_scaled c t h = let p = and_parts (is_mark c) (is_exponent t) h in (low_mark c p.0, low_exponent t p.1)

low_fraction : (t : List ℕ) → ends_fraction t ≡ true → AreLow t
low_fraction [] h = tt
low_fraction (c ∷ t) h = cases (is_digit c) refl h (λ g. low_fraction t g)
  where
    cases : (b : Bool) → is_digit c ≡ b → elim b as (λ _. Bool) [ true ↦ ends_fraction t | false ↦ is_mark c && is_exponent t ] ≡ true → (ends_fraction t ≡ true → AreLow t) → AreLow (c ∷ t)
    cases true e g more = (low_digit c e, more g)
    cases false e g more = low_scaled c t g

low_point : (c : ℕ) → (c == 46) ≡ true → c < 128
low_point c h = grind (arith, nat_tests)

low_whole : (t : List ℕ) → ends_whole t ≡ true → AreLow t
low_whole [] h = tt
low_whole (c ∷ t) h = cases (is_digit c) refl (c == 46) refl h (λ g. low_whole t g)
  where
    cases : (b : Bool) → is_digit c ≡ b → (d : Bool) → (c == 46) ≡ d
        → elim b as (λ _. Bool) [ true ↦ ends_whole t | false ↦ elim d as (λ _. Bool) [ true ↦ ends_fraction t | false ↦ is_mark c && is_exponent t ] ] ≡ true → (ends_whole t ≡ true → AreLow t) → AreLow (c ∷ t)
    cases true e d f g more = (low_digit c e, more g)
    cases false e true f g more = (low_point c f, low_fraction t g)
    cases false e false f g more = low_scaled c t g

low_unsigned : (t : List ℕ) → is_unsigned t ≡ true → AreLow t
low_unsigned [] h = absurd cc
low_unsigned (c ∷ t) h = cases (is_digit c) refl h
  where
    pointed : (t : List ℕ) → starts_fraction t ≡ true → AreLow t
    pointed [] g = absurd cc
    pointed (d ∷ ds) g = let p = and_parts (is_digit d) (ends_fraction ds) g in (low_digit d p.0, low_fraction ds p.1)

    cases : (b : Bool) → is_digit c ≡ b → elim b as (λ _. Bool) [ true ↦ ends_whole t | false ↦ (c == 46) && starts_fraction t ] ≡ true → AreLow (c ∷ t)
    cases true e g = (low_digit c e, low_whole t g)
    cases false e g = let p = and_parts (c == 46) (starts_fraction t) g in (low_point c p.0, pointed t p.1)

low_number : (t : List ℕ) → is_number t ≡ true → AreLow t
low_number [] h = absurd cc
low_number (c ∷ t) h = cases (is_sign c) refl h
  where
    cases : (b : Bool) → is_sign c ≡ b → elim b as (λ _. Bool) [ true ↦ is_unsigned t | false ↦ is_unsigned (c ∷ t) ] ≡ true → AreLow (c ∷ t)
    cases true e g = (low_sign c e, low_unsigned t g)
    cases false e g = low_unsigned (c ∷ t) g

behind_low_bytes : (n : ℕ) (bytes : List ℕ) → AreLow (take n bytes) → IsUtf8 bytes → IsUtf8 (drop n bytes)
behind_low_bytes zero bytes low u = u
behind_low_bytes (suc n) [] low u = IsUtf8-nil
behind_low_bytes (suc n) (c ∷ cs) low u = behind_low_bytes n cs low.1 (behind_ascii [] cs c low.0 u)

-- ---- the token in front

-- a token in front of a text: it has a byte, it is as a text has it, and what stands behind it is UTF-8
record IsFound (bytes : List ℕ) (f : TokenKind × ℕ) : Type 0 where
  pub some : 0 < f.1
  pub behind : IsUtf8 (drop f.1 bytes)
  pub lexed : is_lexed f.0 (take f.1 bytes) ≡ true

name_found : (bytes : List ℕ) → IsUtf8 bytes → (name_len bytes == 0) ≡ false → IsFound bytes (name_kind (take (name_len bytes) bytes), name_len bytes)
name_found bytes u some =
    let is = name_in_front bytes u some in
    record { some = some_len (name_len bytes) some; behind = is.behind; lexed = by is (is_number_word (take (name_len bytes) bytes)) refl }
  where
    by : IsNameInFront bytes (name_len bytes) → (b : Bool) → is_number_word (take (name_len bytes) bytes) ≡ b → is_lexed (if b then kind.Number else kind.Name) (take (name_len bytes) bytes) ≡ true
    by is true e = refl
    by is false e = ap (λ b. b && is_name (take (name_len bytes) bytes)) is.utf8 ∙ ap (λ b. b && not (is_number_word (take (name_len bytes) bytes))) is.joined ∙ ap not e

number_found : (at n : ℕ) (bytes : List ℕ) (f : TokenKind × ℕ) → IsUtf8 bytes → (n == 0) ≡ false → if_short at n (decimal_of (take n bytes)) ≡ Ok f → IsFound bytes f
number_found at n bytes f u some h = cases (decimal_of (take n bytes)) refl h
  where
    cases : (o : Option DecimalNumber) → decimal_of (take n bytes) ≡ o → if_short at n o ≡ Ok f → IsFound bytes f
    cases None e g = absurd cc
    cases (Some d) e g =
        let same : (kind.Number, n) ≡ f = cc g in
        subst (IsFound bytes) same (record { some = some_len n some; behind = behind_low_bytes n bytes (low_number (take n bytes) ((decimal_law (take n bytes) d).0 e).1.is_text) u; lexed = refl })

low_first : (c close : ℕ) (cs : List ℕ) (n : ℕ) (k : TokenKind) → EndsLow (c ∷ cs) n → IsUtf8 (c ∷ cs) → is_lexed k (take n (c ∷ cs)) ≡ true → IsFound (c ∷ cs) (k, n)
low_first c close cs n k ends u is = record { some = (let a = ends.at in omega (arith, a)); behind = behind_low (c ∷ cs) n ends u; lexed = is }

-- a mark is ASCII
mark_low : (c : ℕ) (m : Mark) → mark_of c ≡ Some m → c < 128
mark_low c m h = by (c == 40) refl (c == 41) refl (c == 123) refl (c == 125) refl (c == 91) refl (c == 93) refl (c == 61) refl (c == 44) refl (c == 59) refl (c == 58) refl (c == 46) refl h
  where
    is : (k : ℕ) → k < 128 → (c == k) ≡ true → c < 128
    is k low e = (let same : c ≡ k = eqb-true c k e in omega (arith, same, low))

    by : (b1 : Bool) → (c == 40) ≡ b1 → (b2 : Bool) → (c == 41) ≡ b2 → (b3 : Bool) → (c == 123) ≡ b3 → (b4 : Bool) → (c == 125) ≡ b4 → (b5 : Bool) → (c == 91) ≡ b5 → (b6 : Bool) → (c == 93) ≡ b6
        → (b7 : Bool) → (c == 61) ≡ b7 → (b8 : Bool) → (c == 44) ≡ b8 → (b9 : Bool) → (c == 59) ≡ b9 → (b10 : Bool) → (c == 58) ≡ b10 → (b11 : Bool) → (c == 46) ≡ b11
        → (if b1 then Some OpenParen else if b2 then Some CloseParen else if b3 then Some OpenBrace else if b4 then Some CloseBrace else if b5 then Some OpenBracket else if b6 then Some CloseBracket else if b7 then Some Equals else if b8 then Some Comma else if b9 then Some Semicolon else if b10 then Some Colon else if b11 then Some Dot else None) ≡ Some m → c < 128
    by true e1 _ _ _ _ _ _ _ _ _ _ _ _ _ _ _ _ _ _ _ _ g = is 40 (omega arith) e1
    by false e1 true e2 _ _ _ _ _ _ _ _ _ _ _ _ _ _ _ _ _ _ g = is 41 (omega arith) e2
    by false e1 false e2 true e3 _ _ _ _ _ _ _ _ _ _ _ _ _ _ _ _ g = is 123 (omega arith) e3
    by false e1 false e2 false e3 true e4 _ _ _ _ _ _ _ _ _ _ _ _ _ _ g = is 125 (omega arith) e4
    by false e1 false e2 false e3 false e4 true e5 _ _ _ _ _ _ _ _ _ _ _ _ g = is 91 (omega arith) e5
    by false e1 false e2 false e3 false e4 false e5 true e6 _ _ _ _ _ _ _ _ _ _ g = is 93 (omega arith) e6
    by false e1 false e2 false e3 false e4 false e5 false e6 true e7 _ _ _ _ _ _ _ _ g = is 61 (omega arith) e7
    by false e1 false e2 false e3 false e4 false e5 false e6 false e7 true e8 _ _ _ _ _ _ g = is 44 (omega arith) e8
    by false e1 false e2 false e3 false e4 false e5 false e6 false e7 false e8 true e9 _ _ _ _ g = is 59 (omega arith) e9
    by false e1 false e2 false e3 false e4 false e5 false e6 false e7 false e8 false e9 true e10 _ _ g = is 58 (omega arith) e10
    by false e1 false e2 false e3 false e4 false e5 false e6 false e7 false e8 false e9 false e10 true e11 g = is 46 (omega arith) e11
    by false e1 false e2 false e3 false e4 false e5 false e6 false e7 false e8 false e9 false e10 false e11 g = absurd cc

low_quote : (c : ℕ) → ((c == 34) || (c == 39)) ≡ true → c < 128
low_quote c h = grind (arith, nat_tests)

-- what is found of a token that has to be closed
closed_found : (at c : ℕ) (cs : List ℕ) (k : TokenKind) (o : Option ℕ) (f : TokenKind × ℕ) → if_closed at k o ≡ Ok f → ((n : ℕ) → o ≡ Some n → IsFound (c ∷ cs) (k, n)) → IsFound (c ∷ cs) f
closed_found at c cs k None f h is = absurd cc
closed_found at c cs k (Some n) f h is = let same : (k, n) ≡ f = cc h in subst (IsFound (c ∷ cs)) same (is n refl)

mark_found : (at c : ℕ) (cs : List ℕ) (f : TokenKind × ℕ) → IsUtf8 (c ∷ cs) → if_mark at (mark_of c) ≡ Ok f → IsFound (c ∷ cs) f
mark_found at c cs f u h = cases (mark_of c) refl h
  where
    cases : (o : Option Mark) → mark_of c ≡ o → if_mark at o ≡ Ok f → IsFound (c ∷ cs) f
    cases None e g = absurd cc
    cases (Some m) e g = (let same : (kind.Mark m, 1) ≡ f = cc g in subst (IsFound (c ∷ cs)) same (record { some = omega arith; behind = behind_ascii [] cs c (mark_low c m e) u; lexed = refl }))

quoted_found : (at c : ℕ) (cs : List ℕ) (f : TokenKind × ℕ) → IsUtf8 (c ∷ cs) → quoted_or_mark at c cs ≡ Ok f → IsFound (c ∷ cs) f
quoted_found at c cs f u h = cases ((c == 34) || (c == 39)) refl (c == 64) refl (c == 60) refl h
  where
    asset : (c == 64) ≡ true → (n : ℕ) → asset_len cs ≡ Some n → IsFound (c ∷ cs) (kind.Asset, n)
    asset e n g =
        let same : c ≡ 64 = eqb-true c 64 e in
        let is = asset_is_token cs n g in
        subst (λ x. IsFound (x ∷ cs) (kind.Asset, n)) (sym same)
        (low_first 64 64 cs n kind.Asset is.ends (subst (λ x. IsUtf8 (x ∷ cs)) same u) (is.text (subst (λ x. IsUtf8 (x ∷ cs)) same u)))

    path : (c == 60) ≡ true → (n : ℕ) → closed_line 62 1 cs ≡ Some n → IsFound (c ∷ cs) (kind.Path, n)
    path e n g =
        let same : c ≡ 60 = eqb-true c 60 e in
        subst (λ x. IsFound (x ∷ cs) (kind.Path, n)) (sym same)
        (low_first 60 62 cs n kind.Path (low_behind 60 62 cs n (omega arith) (line_ends 62 1 cs n g).ends) (subst (λ x. IsUtf8 (x ∷ cs)) same u) (path_utf8 cs n g (subst (λ x. IsUtf8 (x ∷ cs)) same u)))

    cases : (a : Bool) → ((c == 34) || (c == 39)) ≡ a → (b : Bool) → (c == 64) ≡ b → (d : Bool) → (c == 60) ≡ d
        → (if a then if_closed at kind.String (string_len c cs) else if b then if_closed at kind.Asset (asset_len cs) else if d then if_closed at kind.Path (closed_line 62 1 cs) else if_mark at (mark_of c)) ≡ Ok f → IsFound (c ∷ cs) f
    cases true e b e2 d e3 g = closed_found at c cs kind.String (string_len c cs) f g (λ n k. low_first c c cs n kind.String (low_behind c c cs n (low_quote c e) (quoted_ends c cs n k)) u refl)
    cases false e true e2 d e3 g = closed_found at c cs kind.Asset (asset_len cs) f g (asset e2)
    cases false e false e2 true e3 g = closed_found at c cs kind.Path (closed_line 62 1 cs) f g (path e3)
    cases false e false e2 false e3 g = mark_found at c cs f u g

-- `-inf` and `-nan`
signed_word : (c a b d : ℕ) (cs : List ℕ) → c < 128 → d < 128 → IsUtf8 (c ∷ cs) → take (name_len cs) cs ≡ a ∷ b ∷ d ∷ [] → IsFound (c ∷ cs) (kind.Number, 4)
signed_word c a b d cs low last u h =
    let all : cs ≡ a ∷ b ∷ d ∷ drop (name_len cs) cs = sym (take-append-drop (name_len cs) cs) ∙ ap (λ t. t ++ drop (name_len cs) cs) h in
    record {
      some = omega arith;
      behind = subst (λ t. IsUtf8 (drop 4 (c ∷ t))) (sym all) (behind_ascii (c ∷ a ∷ b ∷ []) (drop (name_len cs) cs) d last (subst (λ t. IsUtf8 (c ∷ t)) all u));
      lexed = refl;
    }

minus_found : (at : ℕ) (bytes : List ℕ) (f : TokenKind × ℕ) → IsUtf8 bytes → minus_or_mark at bytes ≡ Ok f → IsFound bytes f
minus_found at [] f u h = absurd cc
minus_found at (c ∷ cs) f u h = cases ((c == 45) && begins_number_word cs) refl h
  where
    word : (t : List ℕ) → t ≡ take (name_len cs) cs → (c == 45) ≡ true → (b d : Bool) → pointwise ◌==◌ t (codes "inf") ≡ b → pointwise ◌==◌ t (codes "nan") ≡ d → (b || d) ≡ true → IsFound (c ∷ cs) (kind.Number, 4)
    word t is e true d f g k = signed_word c 105 110 102 cs (let same : c ≡ 45 = eqb-true c 45 e in omega (arith, same)) (omega arith) u (sym is ∙ (bytes_decides t (codes "inf")).0 f)
    word t is e false true f g k = signed_word c 110 97 110 cs (let same : c ≡ 45 = eqb-true c 45 e in omega (arith, same)) (omega arith) u (sym is ∙ (bytes_decides t (codes "nan")).0 g)
    word t is e false false f g k = absurd cc

    cases : (b : Bool) → ((c == 45) && begins_number_word cs) ≡ b → (if b then Ok (kind.Number, 4) else quoted_or_mark at c cs) ≡ Ok f → IsFound (c ∷ cs) f
    cases true e g =
        let p = and_parts (c == 45) (begins_number_word cs) e in
        let same : (kind.Number, 4) ≡ f = cc g in
        subst (IsFound (c ∷ cs)) same
        (word (take (name_len cs) cs) refl p.0 (pointwise ◌==◌ (take (name_len cs) cs) (codes "inf")) (pointwise ◌==◌ (take (name_len cs) cs) (codes "nan")) refl refl p.1)
    cases false e g = quoted_found at c cs f u g

token_found : (at : ℕ) (bytes : List ℕ) (f : TokenKind × ℕ) → IsUtf8 bytes → found at bytes ≡ Ok f → IsFound bytes f
unfolding found
token_found at bytes f u h = cases (name_len bytes == 0) refl (number_len bytes == 0) refl h
  where
    cases : (a : Bool) → (name_len bytes == 0) ≡ a → (b : Bool) → (number_len bytes == 0) ≡ b
        → (if a then (if b then minus_or_mark at bytes else if_short at (number_len bytes) (decimal_of (take (number_len bytes) bytes))) else Ok (name_kind (take (name_len bytes) bytes), name_len bytes)) ≡ Ok f → IsFound bytes f
    cases true e true e2 g = minus_found at bytes f u g
    cases true e false e2 g = number_found at (number_len bytes) bytes f u e2 g
    cases false e b e2 g = (let same : (name_kind (take (name_len bytes) bytes), name_len bytes) ≡ f = cc g in subst (IsFound bytes) same (name_found bytes u e))

-- ---- all tokens

-- a token of a text from a place on, and what stands behind it
record IsNext (at : ℕ) (bytes : List ℕ) (w : Word) : Type 0 where
  pub lexed : is_lexed w.kind w.text ≡ true
  pub after : at < w.end
  pub behind : IsUtf8 (drop (w.end - at) bytes)

in_front : (at : ℕ) (rest : List ℕ) (w : Word) → IsUtf8 rest → word_in_front at rest ≡ Ok (Some w) → IsNext at rest w
in_front at [] w u h = absurd cc
in_front at (c ∷ cs) w u h = cases (found at (c ∷ cs)) refl h
  where
    cases : (r : Found) → found at (c ∷ cs) ≡ r → cut at (c ∷ cs) r ≡ Ok (Some w) → IsNext at (c ∷ cs) w
    cases (Err f) e g = absurd cc
    cases (Ok f) e g =
        let is = token_found at (c ∷ cs) f u e in
        let made : Word = record { kind = f.0; text = take f.1 (c ∷ cs); start = at; end = at + f.1 } in
        let same : made ≡ w = cc g in
        subst (IsNext at (c ∷ cs)) same
        (record { lexed = is.lexed; after = (let s = is.some in omega (arith, s)); behind = subst (λ k. IsUtf8 (drop k (c ∷ cs))) (let e : f.1 ≡ at + f.1 - at = omega arith in e) is.behind })

next_is : (at : ℕ) (bytes : List ℕ) (w : Word) → IsUtf8 bytes → next_word at bytes ≡ Ok (Some w) → IsNext at bytes w
unfolding next_word
next_is at bytes w u h = cases (gap Blank 0 0 bytes) refl h
  where
    cases : (r : Result ℕ ℕ) → gap Blank 0 0 bytes ≡ r → word_behind at bytes r ≡ Ok (Some w) → IsNext at bytes w
    cases (Err n) e g = absurd cc
    cases (Ok n) e g =
        let is = in_front (at + n) (drop n bytes) w (behind_gap bytes n e u) g in
        record {
          lexed = is.lexed;
          after = (let a = is.after in omega (arith, a));
          behind = subst IsUtf8 (drop-drop (w.end - (at + n)) n bytes ∙ ap (λ k. drop k bytes) (let k : n + (w.end - (at + n)) ≡ w.end - at = (let a = is.after in omega (arith, a)) in k)) is.behind;
        }

lexed_from : (taken at : ℕ) (bytes : List ℕ) → IsUtf8 (drop taken bytes) → AreLexed (lexing_from taken at bytes).words
lexed_from zero at [] u = tt
lexed_from (suc taken) at [] u = tt
lexed_from zero at (c ∷ cs) u = by (next_word at (c ∷ cs)) refl (λ end v. lexed_from (end - (at + 1)) (at + 1) cs v)
  where
    by : (r : Result (Option Word) LexFault) → next_word at (c ∷ cs) ≡ r → ((end : ℕ) → IsUtf8 (drop (end - (at + 1)) cs) → AreLexed (lexing_from (end - (at + 1)) (at + 1) cs).words)
        → AreLexed (and_then r (λ end. lexing_from (end - (at + 1)) (at + 1) cs)).words
    by (Ok None) e more = tt
    by (Err f) e more = tt
    by (Ok (Some w)) e more =
        let is = next_is at (c ∷ cs) w u e in
        (is.lexed, more w.end (subst (λ k. IsUtf8 (drop k (c ∷ cs))) (let k : w.end - at ≡ suc (w.end - (at + 1)) = (let a = is.after in omega (arith, a)) in k) is.behind))
lexed_from (suc taken) at (c ∷ cs) u = lexed_from taken (at + 1) cs u

pub lexed : TokensAreLexed
unfolding left
lexed text u = lexed_from 0 0 text (IsUtf8-from_is_utf8 text u)

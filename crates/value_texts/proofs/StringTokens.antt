-- A string between quotes is a token, and means the string.
use Rattle.std.proofs.Common.{◌≡◌, ◌∙◌, ℕ, suc, ◌+◌, ◌-◌, ◌*◌, ◌/◌, ◌%◌, ◌<◌, ◌≤◌, ◌&&◌, ◌==◌, nat_lt, nat_le, Bool, true, false, List, [], ◌∷◌, ◌++◌, append_assoc, length, length-append, take, drop, Option, Some, None, Ok, ap, sym, refl, subst, arith, eqb-true}
use Rattle.std.specs.Prelude.{if◌then◌else◌}
use Rattle.std.specs.Str.{is_utf8}
use Rattle.std.proofs.lemmas.Bool.Decides.{nat_tests}
use Rattle.std.proofs.lemmas.Bool.{not-true}
use Rattle.sdf_values.specs.Print.{hex_digit, is_escaped, escape, escaped, quoted}
use Rattle.usda_lexer.specs.declared.token.TokenKind.TheVariants as kind
use Rattle.usda_lexer.specs.Blanks.{begins}
use Rattle.usda_lexer.specs.Forms.{closed_string, begins_twice, string_len, closed_tripled}
use Rattle.usda_lexer.specs.Meanings.{hexadecimal, unescaped, inside, if_utf8, string_text, two_digits}
use Rattle.usda_lexer.specs.Words.{found, if_closed}
use Rattle.value_texts.specs.Follows.{begins_not}
use Rattle.value_texts.proofs.Pieces.{front}
use Rattle.value_texts.proofs.MarkTokens.{quote}

-- the escapes one by one
abbrev hex_escape : ℕ → List ℕ
hex_escape c = 92 ∷ 120 ∷ hex_digit (c / 16) ∷ hex_digit (c % 16) ∷ []

escape_by : (P : ℕ → List ℕ → Type 0) → P 92 (92 ∷ 92 ∷ []) → P 34 (92 ∷ 34 ∷ []) → P 10 (92 ∷ 110 ∷ []) → P 13 (92 ∷ 114 ∷ []) → P 9 (92 ∷ 116 ∷ []) → ((c : ℕ) → c < 128 → P c (hex_escape c))
    → (c : ℕ) → is_escaped c ≡ true → P c (escape c)
escape_by P p92 p34 p10 p13 p9 more c h =
    let low : c < 128 = grind (arith, nat_tests) in
    let same = λ (d : ℕ) (x : List ℕ) (p : P d x) (e : (c == d) ≡ true). subst (λ y. P y x) (sym (eqb-true c d e)) p in
    test (c == 92) _ _ (same 92 (92 ∷ 92 ∷ []) p92) (λ _.
    test (c == 34) _ _ (same 34 (92 ∷ 34 ∷ []) p34) (λ _.
    test (c == 10) _ _ (same 10 (92 ∷ 110 ∷ []) p10) (λ _.
    test (c == 13) _ _ (same 13 (92 ∷ 114 ∷ []) p13) (λ _.
    test (c == 9) _ _ (same 9 (92 ∷ 116 ∷ []) p9) (λ _. more c low)))))
  where
    test : (b : Bool) (x y : List ℕ) → (b ≡ true → P c x) → (b ≡ false → P c y) → P c (if b then x else y)
    test true x y f g = f refl
    test false x y f g = g refl

-- a hexadecimal digit is no quote, no backslash and no line feed
hex_plain : (n : ℕ) → n < 16 → ((hex_digit n == 10) ≡ false) × ((hex_digit n == 34) ≡ false) × ((hex_digit n == 92) ≡ false)
hex_plain n h = test (nat_lt n 10) refl
  where
    test : (b : Bool) → nat_lt n 10 ≡ b
        → (((if b then 48 + n else 87 + n) == 10) ≡ false) × (((if b then 48 + n else 87 + n) == 34) ≡ false) × (((if b then 48 + n else 87 + n) == 92) ≡ false)
    test true l = (grind (arith, nat_tests), grind (arith, nat_tests), grind (arith, nat_tests))
    test false l = (let low : 10 ≤ n = grind (arith, nat_tests) in (grind (arith, nat_tests), grind (arith, nat_tests), grind (arith, nat_tests)))

-- a byte of a string on one line
plain_byte : (n c : ℕ) (cs : List ℕ) → (c == 10) ≡ false → (c == 34) ≡ false → (c == 92) ≡ false → closed_string 34 false n (c ∷ cs) ≡ closed_string 34 false (n + 1) cs
plain_byte n c cs e1 e2 e3 =
    ap (λ b. elim b as (λ _. Option ℕ) [ true ↦ None | false ↦ elim (c == 34) [ true ↦ Some (n + 1) | false ↦ closed_string 34 (c == 92) (n + 1) cs ] ]) e1
    ∙ ap (λ b. elim b as (λ _. Option ℕ) [ true ↦ Some (n + 1) | false ↦ closed_string 34 (c == 92) (n + 1) cs ]) e2
    ∙ ap (λ b. closed_string 34 b (n + 1) cs) e3

-- an escape of a string on one line
abbrev Passes : List ℕ → Type 0
Passes x = (n : ℕ) (cs : List ℕ) → closed_string 34 false n (x ++ cs) ≡ closed_string 34 false (n + length x) cs

passes_two : (d : ℕ) → (d == 10) ≡ false → Passes (92 ∷ d ∷ [])
passes_two d e n cs =
    ap (λ b. elim b as (λ _. Option ℕ) [ true ↦ None | false ↦ closed_string 34 false (n + 1 + 1) cs ]) e
    ∙ ap (λ k. closed_string 34 false k cs) (let k : n + 1 + 1 ≡ n + 2 = omega arith in k)

passes_hex : (c : ℕ) → c < 128 → Passes (hex_escape c)
passes_hex c low n cs =
    let high : c / 16 < 16 = omega arith in
    let last : c % 16 < 16 = omega arith in
    let p = hex_plain (c / 16) high in
    let q = hex_plain (c % 16) last in
    passes_two 120 refl n (hex_digit (c / 16) ∷ hex_digit (c % 16) ∷ cs)
    ∙ plain_byte (n + 2) (hex_digit (c / 16)) (hex_digit (c % 16) ∷ cs) p.0 p.1 p.2
    ∙ plain_byte (n + 2 + 1) (hex_digit (c % 16)) cs q.0 q.1 q.2
    ∙ ap (λ k. closed_string 34 false k cs) (let k : n + 2 + 1 + 1 ≡ n + 4 = omega arith in k)

passes_escape : (c : ℕ) → is_escaped c ≡ true → Passes (escape c)
passes_escape = escape_by (λ c x. Passes x) (passes_two 92 refl) (passes_two 34 refl) (passes_two 110 refl) (passes_two 114 refl) (passes_two 116 refl) passes_hex

plain_tests : (c : ℕ) → is_escaped c ≡ false → ((c == 10) ≡ false) × ((c == 34) ≡ false) × ((c == 92) ≡ false)
plain_tests c h = (grind (arith, nat_tests), grind (arith, nat_tests), grind (arith, nat_tests))

passes_plain : (c : ℕ) → is_escaped c ≡ false → Passes (c ∷ [])
passes_plain c h n cs = let p = plain_tests c h in plain_byte n c cs p.0 p.1 p.2

-- what is written of one byte
abbrev written : ℕ → Bool → List ℕ
written c b = if b then escape c else c ∷ []

written_by : (P : ℕ → List ℕ → Type 0) → ((c : ℕ) → is_escaped c ≡ true → P c (escape c)) → ((c : ℕ) → is_escaped c ≡ false → P c (c ∷ [])) → (c : ℕ) → P c (written c (is_escaped c))
written_by P f g c = test (is_escaped c) refl
  where
    test : (b : Bool) → is_escaped c ≡ b → P c (written c b)
    test true e = f c e
    test false e = g c e

string_closes : (t rest : List ℕ) (n : ℕ) → closed_string 34 false n (escaped t ++ 34 ∷ rest) ≡ Some (n + length (escaped t) + 1)
string_closes [] rest n = ap Some (let e : n + 1 ≡ n + 0 + 1 = omega arith in e)
string_closes (c ∷ t) rest n =
    let x : List ℕ = written c (is_escaped c) in
    ap (closed_string 34 false n) (append_assoc x (escaped t) (34 ∷ rest))
    ∙ written_by (λ c x. Passes x) passes_escape passes_plain c n (escaped t ++ 34 ∷ rest)
    ∙ string_closes t rest (n + length x) ∙ ap Some (let e : n + length x + length (escaped t) + 1 ≡ n + length (x ++ escaped t) + 1 = omega (arith, length-append x (escaped t)) in e)

-- no quote stands in front of what is written of a string
abbrev NoQuote : List ℕ → Type 0
NoQuote x = (cs : List ℕ) → begins 34 (x ++ cs) ≡ false

no_quote : (c : ℕ) → NoQuote (written c (is_escaped c))
no_quote = written_by (λ c x. NoQuote x) (escape_by (λ c x. NoQuote x) (λ cs. refl) (λ cs. refl) (λ cs. refl) (λ cs. refl) (λ cs. refl) (λ c low cs. refl)) (λ c h cs. (plain_tests c h).1)

never_three : (t rest : List ℕ) → begins_not 34 rest ≡ true → begins_twice 34 (escaped t ++ 34 ∷ rest) ≡ false
never_three [] rest h = not-true (begins 34 rest) h
never_three (c ∷ t) rest h =
    let x : List ℕ = written c (is_escaped c) in
    ap (begins_twice 34) (append_assoc x (escaped t) (34 ∷ rest)) ∙ ap (λ b. b && begins 34 (drop 1 (x ++ (escaped t ++ 34 ∷ rest)))) (no_quote c (escaped t ++ 34 ∷ rest))

string_is : (t rest : List ℕ) → begins_not 34 rest ≡ true → string_len 34 (escaped t ++ 34 ∷ rest) ≡ Some (length (quoted t))
string_is t rest h =
    ap (λ b. if b then closed_tripled 34 false 0 3 (drop 2 (escaped t ++ 34 ∷ rest)) else closed_string 34 false 1 (escaped t ++ 34 ∷ rest)) (never_three t rest h)
    ∙ string_closes t rest 1 ∙ ap Some (let e : 1 + length (escaped t) + 1 ≡ suc (length (escaped t ++ 34 ∷ [])) = omega (arith, length-append (escaped t) (34 ∷ [])) in e)

-- a string is a token
pub string_found : (at : ℕ) (t rest : List ℕ) → begins_not 34 rest ≡ true → found at (quoted t ++ rest) ≡ Ok (kind.String, length (quoted t))
string_found at t rest h =
    ap (λ x. found at (34 ∷ x)) (append_assoc (escaped t) (34 ∷ []) rest) ∙ quote at (escaped t ++ 34 ∷ rest) ∙ ap (if_closed at kind.String) (string_is t rest h)

-- what the escapes mean
abbrev Means : ℕ → List ℕ → Type 0
Means c x = (cs : List ℕ) → unescaped 0 false (x ++ cs) ≡ c ∷ unescaped 0 false cs

hex_means : (n : ℕ) → n < 16 → hexadecimal (hex_digit n) ≡ Some n
hex_means n h = test (nat_lt n 10) refl
  where
    value : (a b c : Bool) (k x y z : ℕ) → a ≡ true → x ≡ k → (if a then Some x else if b then Some y else if c then Some z else None) ≡ Some k
    value true b c k x y z e f = ap Some f
    value false b c k x y z e f = absurd cc

    letter : (a b c : Bool) (k x y z : ℕ) → a ≡ false → b ≡ true → y ≡ k → (if a then Some x else if b then Some y else if c then Some z else None) ≡ Some k
    letter true b c k x y z e f g = absurd cc
    letter false true c k x y z e f g = ap Some g
    letter false false c k x y z e f g = absurd cc

    test : (b : Bool) → nat_lt n 10 ≡ b → hexadecimal (if b then 48 + n else 87 + n) ≡ Some n
    test true l =
        let few : n < 10 = grind (arith, nat_tests) in
        value (nat_le 48 (48 + n) && nat_le (48 + n) 57) (nat_le 97 (48 + n) && nat_le (48 + n) 102) (nat_le 65 (48 + n) && nat_le (48 + n) 70) n ((48 + n) - 48) ((48 + n) - 87) ((48 + n) - 55)
        (grind (arith, nat_tests)) (omega arith)
    test false l =
        let many : 10 ≤ n = grind (arith, nat_tests) in
        letter (nat_le 48 (87 + n) && nat_le (87 + n) 57) (nat_le 97 (87 + n) && nat_le (87 + n) 102) (nat_le 65 (87 + n) && nat_le (87 + n) 70) n ((87 + n) - 48) ((87 + n) - 87) ((87 + n) - 55)
        (grind (arith, nat_tests)) (grind (arith, nat_tests)) (omega arith)

abbrev Read : List ℕ → Option ℕ → Option ℕ → List ℕ
Read cs a b = (two_digits a b).byte ∷ unescaped ((two_digits a b).len - 1) false cs

means_hex : (c : ℕ) → c < 128 → Means c (hex_escape c)
means_hex c low cs =
    let high : c / 16 < 16 = omega arith in
    let last : c % 16 < 16 = omega arith in
    let rest : List ℕ = hex_digit (c / 16) ∷ hex_digit (c % 16) ∷ cs in
    ap (λ a. Read rest a (hexadecimal (hex_digit (c % 16)))) (hex_means (c / 16) high)
    ∙ ap (λ b. Read rest (Some (c / 16)) b) (hex_means (c % 16) last)
    ∙ ap (λ k. k ∷ unescaped 0 false cs) (let e : c / 16 * 16 + c % 16 ≡ c = omega arith in e)

means_escape : (c : ℕ) → is_escaped c ≡ true → Means c (escape c)
means_escape = escape_by Means (λ cs. refl) (λ cs. refl) (λ cs. refl) (λ cs. refl) (λ cs. refl) means_hex

means_plain : (c : ℕ) → is_escaped c ≡ false → Means c (c ∷ [])
means_plain c h cs = ap (λ b. elim b as (λ _. List ℕ) [ true ↦ unescaped 0 true cs | false ↦ c ∷ unescaped 0 false cs ]) (plain_tests c h).2

escapes_mean : (t : List ℕ) → unescaped 0 false (escaped t) ≡ t
escapes_mean [] = refl
escapes_mean (c ∷ t) = written_by Means means_escape means_plain c (escaped t) ∙ ap (λ x. c ∷ x) (escapes_mean t)

inside_is : (t : List ℕ) → inside 1 (34 ∷ t ++ 34 ∷ []) ≡ t
inside_is t = ap (λ n. take n (t ++ 34 ∷ [])) (let e : suc (length (t ++ 34 ∷ [])) - 1 - 1 ≡ length t = omega (arith, length-append t (34 ∷ [])) in e) ∙ front t (34 ∷ [])

-- and means the string
pub string_means : (t : List ℕ) → is_utf8 t ≡ true → string_text (quoted t) ≡ Some t
unfolding string_text
string_means t u =
    ap (λ b. if_utf8 (unescaped 0 false (inside (if b then 3 else 1) (quoted t)))) (never_three t [] refl)
    ∙ ap (λ x. if_utf8 (unescaped 0 false x)) (inside_is (escaped t)) ∙ ap if_utf8 (escapes_mean t) ∙ ap (λ b. if b then Some t else None) u

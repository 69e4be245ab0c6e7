-- A name behind which no name goes on is a token.
use Rattle.std.proofs.Common.{◌≡◌, ◌∙◌, ℕ, ◌+◌, ◌<◌, ◌≤◌, ◌&&◌, ◌||◌, ◌==◌, nat_lt, not, Bool, true, false, List, [], ◌∷◌, ◌++◌, length, length-append, take, Some, None, Ok, ap, sym, refl, subst, arith, eqb-true, inl, inr}
use Rattle.std.specs.Prelude.{if◌then◌else◌, encode_utf8}
use Rattle.std.specs.Char.{len_utf8}
use Rattle.std.specs.Str.{chars, is_utf8, IsUtf8, encode_utf8_all}
use Rattle.std.proofs.lemmas.Bool.Decides.{nat_tests}
use Rattle.std.proofs.lemmas.Str.{chars-append, chars-nil, chars-IsAscii, encodes-chars, length-encode, IsUtf8-from_is_utf8, IsUtf8-from_ascii}
use Rattle.unicode_ident.specs.Ident.{is_xid_continue}
use Rattle.unicode_ident.proofs.Computing.{unicode_ident}
use Rattle.usd_names.specs.Names.{is_start, spells_joined}
use Rattle.usda_lexer.specs.Names.{name_end, name_len}
use Rattle.usda_lexer.specs.Words.{found, name_or_other, name_kind, number_or_mark}
use Rattle.usda_lexer.specs.Forms.{number_len}
use Rattle.usda_lexer.specs.Blanks.{is_blank, begins, between_from}
use Rattle.usda_lexer.specs.declared.blanks.Between.TheVariants.{Blank, Slash, Line, Opening}
use Rattle.std.proofs.lemmas.Bool.{cases_lt, and_parts}
use Rattle.sdf_values.proofs.Fractions.{not_zero}
use Rattle.value_texts.specs.Follows.{ends_name}
use Rattle.value_texts.proofs.Pieces.{front}
use Rattle.value_texts.proofs.AsciiTests.{one_ascii}

pub chars_ascii : (c : ℕ) (cs : List ℕ) → c < 128 → chars (c ∷ cs) ≡ c ∷ chars cs
chars_ascii c cs h =
    chars-append (c ∷ []) cs (IsUtf8-from_ascii (c ∷ []) (one_ascii c h)) ∙ ap (λ t. t ++ chars cs) (chars-IsAscii (c ∷ []) (one_ascii c h))

no_more : (n : ℕ) (rest : List ℕ) → ends_name rest ≡ true → name_end true n n (chars rest) ≡ n
no_more n [] h = ap (name_end true n n) chars-nil
no_more n (c ∷ cs) h =
    let x = and_parts (nat_lt c 128) (not (c == 58) && not (is_xid_continue c)) h in
    let y = and_parts (not (c == 58)) (not (is_xid_continue c)) x.1 in
    let low : c < 128 = grind (arith, nat_tests, x.0) in
    ap (name_end true n n) (chars_ascii c cs low)
    ∙ stops (c == 58) (is_xid_continue c) y.0 y.1
  where
    stops : (a b : Bool) → not a ≡ true → not b ≡ true
        → elim a as (λ _. ℕ) [ true ↦ name_end false n (n + len_utf8 c) (chars cs) | false ↦ elim b as (λ _. ℕ) [ true ↦ name_end true (n + len_utf8 c) (n + len_utf8 c) (chars cs) | false ↦ n ] ] ≡ n
    stops true b e f = absurd cc
    stops false true e f = absurd cc
    stops false false e f = refl

-- how many bytes some characters have
abbrev pub width : List ℕ → ℕ
width cs = length (encode_utf8_all cs)

pub one_wider : (c : ℕ) (cs : List ℕ) (n : ℕ) → (n + len_utf8 c) + width cs ≡ n + width (c ∷ cs)
one_wider c cs n = omega (arith, length-append (encode_utf8 c) (encode_utf8_all cs), length-encode c)

whole_name : (begun : Bool) (end n : ℕ) (cs rest : List ℕ) → spells_joined begun cs ≡ true → ends_name rest ≡ true → (begun ≡ true → end ≡ n)
    → name_end begun end n (cs ++ chars rest) ≡ n + width cs
whole_name true end n [] rest s h e = ap (λ k. name_end true k n (chars rest)) (e refl) ∙ no_more n rest h ∙ omega arith
whole_name false end n [] rest s h e = absurd cc
whole_name false end n (c ∷ cs) rest s h e =
    let p = and_parts (is_start c) (spells_joined true cs) s in
    ap (λ b. elim b as (λ _. ℕ) [ true ↦ name_end true (n + len_utf8 c) (n + len_utf8 c) (cs ++ chars rest) | false ↦ end ]) p.0
    ∙ whole_name true (n + len_utf8 c) (n + len_utf8 c) cs rest p.1 h (λ _. refl) ∙ one_wider c cs n
whole_name true end n (c ∷ cs) rest s h e =
    cases (c == 58) refl (λ t. whole_name false end (n + len_utf8 c) cs rest t h (λ f. absurd cc)) (λ t. whole_name true (n + len_utf8 c) (n + len_utf8 c) cs rest t h (λ _. refl))
  where
    cases : (b : Bool) → (c == 58) ≡ b → (spells_joined false cs ≡ true → name_end false end (n + len_utf8 c) (cs ++ chars rest) ≡ (n + len_utf8 c) + width cs)
        → (spells_joined true cs ≡ true → name_end true (n + len_utf8 c) (n + len_utf8 c) (cs ++ chars rest) ≡ (n + len_utf8 c) + width cs)
        → name_end true end n (c ∷ cs ++ chars rest) ≡ n + width (c ∷ cs)
    cases true is f g =
        let joined : spells_joined false cs ≡ true = sym (ap (λ b. if b then spells_joined false cs else (is_xid_continue c && spells_joined true cs)) is) ∙ s in
        ap (λ b. elim b as (λ _. ℕ) [
          | true ↦ name_end false end (n + len_utf8 c) (cs ++ chars rest)
          | false ↦ elim (is_xid_continue c) as (λ _. ℕ) [ true ↦ name_end true (n + len_utf8 c) (n + len_utf8 c) (cs ++ chars rest) | false ↦ end ]
        ]) is ∙ f joined ∙ one_wider c cs n
    cases false is f g =
        let joined : (is_xid_continue c && spells_joined true cs) ≡ true = sym (ap (λ b. if b then spells_joined false cs else (is_xid_continue c && spells_joined true cs)) is) ∙ s in
        let p = and_parts (is_xid_continue c) (spells_joined true cs) joined in
        ap (λ b. elim b as (λ _. ℕ) [
          | true ↦ name_end false end (n + len_utf8 c) (cs ++ chars rest)
          | false ↦ elim (is_xid_continue c) as (λ _. ℕ) [ true ↦ name_end true (n + len_utf8 c) (n + len_utf8 c) (cs ++ chars rest) | false ↦ end ]
        ]) is
        ∙ ap (λ b. elim b as (λ _. ℕ) [ true ↦ name_end true (n + len_utf8 c) (n + len_utf8 c) (cs ++ chars rest) | false ↦ end ]) p.0
        ∙ g p.1 ∙ one_wider c cs n

pub name_whole : (t rest : List ℕ) → is_utf8 t ≡ true → spells_joined false (chars t) ≡ true → ends_name rest ≡ true → name_len (t ++ rest) ≡ length t
name_whole t rest u s h =
    let is : IsUtf8 t = IsUtf8-from_is_utf8 t u in
    ap (name_end false 0 0) (chars-append t rest is) ∙ whole_name false 0 0 (chars t) rest s h (λ f. absurd cc)
    ∙ (let e : 0 + width (chars t) ≡ width (chars t) = omega arith in e) ∙ ap length (encodes-chars t is)

not_same : (c d : ℕ) → is_start d ≡ false → is_start c ≡ true → (c == d) ≡ false
not_same c d ends starts = cases (c == d) refl
  where
    cases : (b : Bool) → (c == d) ≡ b → b ≡ false
    cases false e = refl
    cases true e = (let same : is_start d ≡ true = subst (λ x. is_start x ≡ true) (eqb-true c d e) starts in absurd cc)

no_start : (is_start 32 ≡ false) × (is_start 9 ≡ false) × (is_start 13 ≡ false) × (is_start 10 ≡ false) × (is_start 35 ≡ false) × (is_start 47 ≡ false)
unfolding unicode_ident is_start
no_start = (refl, refl, refl, refl, refl, refl)

pub no_between : (c : ℕ) (cs : List ℕ) → (c == 32) ≡ false → (c == 9) ≡ false → (c == 13) ≡ false → (c == 10) ≡ false → (c == 35) ≡ false → (c == 47) ≡ false → between_from c cs ≡ None
no_between c cs e1 e2 e3 e4 e5 e6 =
    let blank : is_blank c ≡ false = ap (λ b. b || c == 9 || c == 13 || c == 10) e1 ∙ ap (λ b. b || c == 13 || c == 10) e2 ∙ ap (λ b. b || c == 10) e3 ∙ e4 in
    ap (λ b. if b then Some Blank else if c == 35 then Some Line else if c == 47 && begins 47 cs then Some Slash else if c == 47 && begins 42 cs then Some Opening else None) blank
    ∙ ap (λ b. if b then Some Line else if c == 47 && begins 47 cs then Some Slash else if c == 47 && begins 42 cs then Some Opening else None) e5
    ∙ ap (λ b. if b && begins 47 cs then Some Slash else if b && begins 42 cs then Some Opening else None) e6

-- no blank and no comment begins with a character with which a name begins
start_begins : (c : ℕ) (cs : List ℕ) → is_start c ≡ true → between_from c cs ≡ None
start_begins c cs h =
    no_between c cs (not_same c 32 no_start.0 h) (not_same c 9 no_start.1 h) (not_same c 13 no_start.2 h) (not_same c 10 no_start.3 h) (not_same c 35 no_start.4 h) (not_same c 47 no_start.5 h)

large_begins : (c : ℕ) (cs : List ℕ) → 128 ≤ c → between_from c cs ≡ None
large_begins c cs h =
    no_between c cs (other 32 (omega arith)) (other 9 (omega arith)) (other 13 (omega arith)) (other 10 (omega arith)) (other 35 (omega arith)) (other 47 (omega arith))
  where
    other : (d : ℕ) → d < 128 → (c == d) ≡ false
    other d l = grind (arith, nat_tests)

starts_with : (cs : List ℕ) → spells_joined false cs ≡ true → (c : ℕ) × (ds : List ℕ) × (cs ≡ c ∷ ds) × (is_start c ≡ true)
starts_with [] h = absurd cc
starts_with (c ∷ cs) h = (c, cs, refl, (and_parts (is_start c) (spells_joined true cs) h).0)

-- the first byte of a name begins no blank and no comment
pub name_begins : (b : ℕ) (t rest : List ℕ) → is_utf8 (b ∷ t) ≡ true → spells_joined false (chars (b ∷ t)) ≡ true → between_from b rest ≡ None
name_begins b t rest u s = elim (cases_lt b 128) [ inl low ↦ ascii low | inr high ↦ large_begins b rest high ]
  where
    ascii : b < 128 → between_from b rest ≡ None
    ascii low = start_begins b rest (and_parts (is_start b) (spells_joined true (chars t)) (ap (spells_joined false) (sym (chars_ascii b t low)) ∙ s)).0

-- a name is a token
pub name_found : (at : ℕ) (t rest : List ℕ) → is_utf8 t ≡ true → spells_joined false (chars t) ≡ true → ends_name rest ≡ true → 0 < length t → found at (t ++ rest) ≡ Ok (name_kind t, length t)
unfolding found
name_found at t rest u s h some =
    ap (λ n. name_or_other at n (t ++ rest)) (name_whole t rest u s h)
    ∙ ap (λ b. if b then number_or_mark at (number_len (t ++ rest)) (t ++ rest) else Ok (name_kind (take (length t) (t ++ rest)), length t)) (not_zero (length t) some)
    ∙ ap (λ x. Ok (name_kind x, length t)) (front t rest)

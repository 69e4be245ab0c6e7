-- Two names joined by a point are three words.
use Rattle.std.proofs.Common.{◌≡◌, ◌∙◌, ℕ, ◌+◌, ◌<◌, ◌&&◌, ◌||◌, ◌==◌, not, cond, Bool, true, false, List, [], ◌∷◌, ◌++◌, append_assoc, length, length-append, Ok, ap, sym, refl, arith, eq-eqb}
use Rattle.std.specs.Prelude.{codes}
use Rattle.std.specs.Str.{chars, is_utf8}
use Rattle.std.proofs.lemmas.Str.{chars-nil}
use Rattle.std.proofs.lemmas.Bool.Decides.{nat_tests}
use Rattle.std.proofs.lemmas.Bool.{and_parts, not-true}
use Rattle.usd_names.specs.Names.{is_start, is_name, spells_joined, is_number_word}
use Rattle.sdf_values.specs.NumberTexts.{is_digit}
use Rattle.unicode_ident.proofs.Computing.{unicode_ident}
use Rattle.usda_grammar.specs.declared.kinds.WordKind.{WordKind}
use Rattle.usda_lexer.specs.declared.token.TokenKind.TheVariants as kind
use Rattle.usda_lexer.specs.Forms.{digits_len}
use Rattle.usda_lexer.specs.Words.{Word as Token, Lexing, lexing_from}
use Rattle.usda_words.specs.Words.{kind_of, is_dot, if_joined, kind_behind, word_at as worded_at, behind, words_in}
use Rattle.usda_words.specs.declared.word.Before.{Before}
use Rattle.value_texts.specs.Cuts.{before}
use Rattle.value_texts.specs.Words.{told_of, as_word, IsWorded}
use Rattle.value_texts.specs.Follows.{ends_name}
use Rattle.value_texts.specs.ValueWords.{name_said, dot}
use Rattle.value_texts.proofs.NumberTokens.{starts_no_digit}
use Rattle.value_texts.proofs.NameTokens.{chars_ascii, name_begins, name_found}
use Rattle.value_texts.proofs.MarkTokens as found
use Rattle.value_texts.proofs.Pieces.{word_at, token_lexed}

-- a name is no empty text
name_some : (t : List ℕ) → is_name t ≡ true → 0 < length t
name_some [] h = absurd (let p : spells_joined false [] ≡ true = ap (spells_joined false) (sym chars-nil) ∙ (and_parts _ _ h).0 in cc)
name_some (c ∷ t) h = omega arith

-- a name and the tokens behind it
name_lexed : (at : ℕ) (t rest : List ℕ) → is_utf8 t ≡ true → is_name t ≡ true → ends_name rest ≡ true
    → lexing_from 0 at (t ++ rest) ≡ before (word_at at kind.Name t ∷ []) (lexing_from 0 (at + length t) rest)
name_lexed at [] rest u h e = absurd (omega (arith, name_some [] h))
name_lexed at (c ∷ t) rest u h e =
    let p = and_parts (spells_joined false (chars (c ∷ t))) (not (is_number_word (c ∷ t))) h in
    token_lexed at kind.Name c t rest (name_begins c t (t ++ rest) u p.0)
    (name_found at (c ∷ t) rest u p.0 e (omega arith) ∙ ap (λ b. Ok ((cond b kind.Number kind.Name), length (c ∷ t))) (not-true (is_number_word (c ∷ t)) p.1))

-- no digit begins a name
no_digit : (t rest : List ℕ) → is_utf8 t ≡ true → is_name t ≡ true → digits_len (t ++ rest) ≡ 0
no_digit [] rest u h = absurd (omega (arith, name_some [] h))
no_digit (c ∷ t) rest u h = ap (λ b. cond b (1 + digits_len (t ++ rest)) 0) (first (is_digit c) refl)
  where
    first : (b : Bool) → is_digit c ≡ b → b ≡ false
    first false e = refl
    first true e =
        let low : c < 128 = grind (arith, nat_tests) in
        let starts : is_start c ≡ true = (and_parts (is_start c) (spells_joined true (chars t)) (ap (spells_joined false) (sym (chars_ascii c t low)) ∙ (and_parts _ _ h).0)).0 in
        absurd (let none = starts_no_digit c e in cc)

joined : (b : Before) (start : ℕ) (k : WordKind) → start ≡ b.end → kind_behind b start k ≡ k
joined b start k e = ap (λ x. if_joined ((b.is_dot || is_dot k) && not x) k) (eq-eqb start b.end e) ∙ never (b.is_dot || is_dot k)
  where
    never : (x : Bool) → if_joined (x && false) k ≡ k
    never true = refl
    never false = refl

plain : (b : Before) (start : ℕ) (k : WordKind) → b.is_dot ≡ false → is_dot k ≡ false → kind_behind b start k ≡ k
plain b start k h e = ap (λ x. if_joined ((x || is_dot k) && not (start == b.end)) k) h ∙ ap (λ x. if_joined (x && not (start == b.end)) k) e

told_as : (b : Before) (t : Token) → kind_behind b t.start (kind_of t.kind t.text) ≡ kind_of t.kind t.text → told_of (worded_at b t) ≡ as_word (record { kind = t.kind; text = t.text })
told_as b t e = ap (λ k. record { kind = k; token = t.kind; text = t.text; too_long = false }) e

dot_ends : (cs : List ℕ) → ends_name (46 ∷ cs) ≡ true
unfolding unicode_ident
dot_ends cs = refl

-- `name.name`, as a property's name is joined with what it says of the property
pub dotted : (at : ℕ) (b : Before) (a c rest : List ℕ) → is_utf8 a ≡ true → is_name a ≡ true → is_utf8 c ≡ true → is_name c ≡ true → ends_name rest ≡ true → b.is_dot ≡ false
    → IsWorded at b (a ++ 46 ∷ c) (name_said a ∷ dot ∷ name_said c ∷ []) rest
dotted at b a c rest ua na uc nc ends h =
    let first : Token = word_at at kind.Name a in
    let mid : ℕ = at + length a in
    let point : Token = word_at mid dot.kind (codes ".") in
    let last : Token = word_at (mid + 1) kind.Name c in
    let left : Lexing = lexing_from 0 (at + length (a ++ 46 ∷ c)) rest in
    let places : mid + 1 + length c ≡ at + length (a ++ 46 ∷ c) = omega (arith, length-append a (46 ∷ c)) in
    let lexed : lexing_from 0 at ((a ++ 46 ∷ c) ++ rest) ≡ before (first ∷ point ∷ last ∷ []) left =
    ap (lexing_from 0 at) (append_assoc a (46 ∷ c) rest)
    ∙ name_lexed at a (46 ∷ (c ++ rest)) ua na (dot_ends (c ++ rest))
    ∙ ap (before (first ∷ [])) (token_lexed mid dot.kind 46 [] (c ++ rest) refl (found.dot mid (c ++ rest) (no_digit c rest uc nc)))
    ∙ ap (before (first ∷ point ∷ [])) (name_lexed (mid + 1) c rest uc nc ends)
    ∙ ap (λ n. before (first ∷ point ∷ last ∷ []) (lexing_from 0 n rest)) places in
    record {
      words = worded_at b first ∷ worded_at (behind first) point ∷ worded_at (behind point) last ∷ [];
      told = ap (λ x. x ∷ told_of (worded_at (behind first) point) ∷ told_of (worded_at (behind point) last) ∷ []) (told_as b first (plain b at (kind_of kind.Name a) h refl))
          ∙ ap (λ x. as_word (name_said a) ∷ x ∷ told_of (worded_at (behind point) last) ∷ []) (told_as (behind first) point (joined (behind first) mid (kind_of dot.kind (codes ".")) refl))
          ∙ ap (λ x. as_word (name_said a) ∷ as_word dot ∷ x ∷ []) (told_as (behind point) last (joined (behind point) (mid + 1) (kind_of kind.Name c) refl));
      last = behind last;
      no_dot = refl;
      worded = ap (words_in b) lexed;
    }

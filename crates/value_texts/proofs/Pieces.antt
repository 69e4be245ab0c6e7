-- One token in front of a text.
use Rattle.std.proofs.Common.{◌≡◌, ◌∙◌, ℕ, suc, ◌+◌, ◌-◌, true, List, [], ◌∷◌, ◌++◌, length, length-append, append_assoc, take, drop, map, Option, Some, None, Ok, ap, sym, refl, arith}
use Rattle.std.proofs.lemmas.List.{map-append}
use Rattle.usda_lexer.specs.declared.token.TokenKind.{TokenKind}
use Rattle.usda_lexer.specs.declared.blanks.Between.{Between}
use Rattle.usda_lexer.specs.declared.blanks.Between.TheVariants.{Blank}
use Rattle.usda_lexer.specs.Blanks.{is_blank, gap, between_from, opened_at}
use Rattle.usda_lexer.specs.Words.{Word, found, cut, word_in_front, word_behind, next_word, lexing_from, Lexing}
use Rattle.usda_lexer.proofs.Steps.{one_word}
use Rattle.value_texts.specs.Cuts.{Said, said_of, before, IsCut}
use Rattle.value_texts.proofs.Blanks.{blank_skipped}

pub front : (tok rest : List ℕ) → take (length tok) (tok ++ rest) ≡ tok
front [] rest = refl
front (c ∷ tok) rest = ap (λ t. c ∷ t) (front tok rest)

pub back : (tok rest : List ℕ) → drop (length tok) (tok ++ rest) ≡ rest
back [] rest = refl
back (c ∷ tok) rest = back tok rest

no_gap : (c : ℕ) (cs : List ℕ) → between_from c cs ≡ None → gap Blank 0 0 (c ∷ cs) ≡ Ok 0
no_gap c cs h = ap (λ (r : Option Between). elim r [ None ↦ Ok 0 | Some next ↦ gap next (opened_at next 0 0) 1 cs ]) h

abbrev pub word_at : ℕ → TokenKind → List ℕ → Word
word_at at k text = record { kind = k; text = text; start = at; end = at + length text }

next_is : (at : ℕ) (k : TokenKind) (c : ℕ) (tok rest : List ℕ) → between_from c (tok ++ rest) ≡ None → found at (c ∷ tok ++ rest) ≡ Ok (k, length (c ∷ tok))
    → next_word at (c ∷ tok ++ rest) ≡ Ok (Some (word_at at k (c ∷ tok)))
unfolding next_word
next_is at k c tok rest none is =
    ap (word_behind at (c ∷ tok ++ rest)) (no_gap c (tok ++ rest) none)
    ∙ ap (λ n. word_in_front n (c ∷ tok ++ rest)) (let e : at + 0 ≡ at = omega arith in e)
    ∙ ap (cut at (c ∷ tok ++ rest)) is
    ∙ ap (λ t. Ok (Some (record { kind = k; text = t; start = at; end = at + length (c ∷ tok) }))) (front (c ∷ tok) rest)

-- a token that is found, and the tokens behind it
pub token_lexed : (at : ℕ) (k : TokenKind) (c : ℕ) (tok rest : List ℕ) → between_from c (tok ++ rest) ≡ None → found at (c ∷ tok ++ rest) ≡ Ok (k, length (c ∷ tok))
    → lexing_from 0 at (c ∷ tok ++ rest) ≡ before (word_at at k (c ∷ tok) ∷ []) (lexing_from 0 (at + length (c ∷ tok)) rest)
token_lexed at k c tok rest none is =
    one_word at (c ∷ tok ++ rest) (word_at at k (c ∷ tok)) (next_is at k c tok rest none is) (omega arith)
    ∙ ap (λ t. before (word_at at k (c ∷ tok) ∷ []) (lexing_from 0 (at + length (c ∷ tok)) t))
    (ap (λ n. drop n (c ∷ tok ++ rest)) (let e : at + suc (length tok) - at ≡ suc (length tok) = omega arith in e) ∙ back (c ∷ tok) rest)

-- is one that is cut off
pub token_cut : (at : ℕ) (k : TokenKind) (c : ℕ) (tok rest : List ℕ) → between_from c (tok ++ rest) ≡ None → found at (c ∷ tok ++ rest) ≡ Ok (k, length (c ∷ tok))
    → IsCut at (c ∷ tok) (record { kind = k; text = c ∷ tok } ∷ []) rest
token_cut at k c tok rest none is = record { words = word_at at k (c ∷ tok) ∷ []; spelled = refl; lexed = token_lexed at k c tok rest none is }

before_both : (a b : List Word) (l : Lexing) → before a (before b l) ≡ before (a ++ b) l
before_both a b l = ap (λ ws. record { words = ws; fault = l.fault }) (sym (append_assoc a b l.words))

-- one text behind another
pub both_cut : (at : ℕ) (s t : List ℕ) (a b : List Said) (rest : List ℕ) → IsCut at s a (t ++ rest) → IsCut (at + length s) t b rest → IsCut at (s ++ t) (a ++ b) rest
both_cut at s t a b rest x y = record {
  words = x.words ++ y.words;
  spelled = map-append said_of x.words y.words ∙ ap (λ l. l ++ map said_of y.words) x.spelled ∙ ap (λ l. a ++ l) y.spelled;
  lexed = ap (lexing_from 0 at) (append_assoc s t rest) ∙ x.lexed ∙ ap (before x.words) y.lexed ∙ before_both x.words y.words (lexing_from 0 (at + length s + length t) rest)
      ∙ ap (λ n. before (x.words ++ y.words) (lexing_from 0 n rest)) (let e : at + length s + length t ≡ at + length (s ++ t) = omega (arith, length-append s t) in e);
}

-- nothing, and a blank, have no tokens
pub nothing_cut : (at : ℕ) (rest : List ℕ) → IsCut at [] [] rest
nothing_cut at rest = record { words = []; spelled = refl; lexed = ap (λ n. lexing_from 0 n rest) (let e : at ≡ at + 0 = omega arith in e) }

pub blank_cut : (at c : ℕ) (rest : List ℕ) → is_blank c ≡ true → IsCut at (c ∷ []) [] rest
blank_cut at c rest h = record { words = []; spelled = refl; lexed = blank_skipped c at rest h }

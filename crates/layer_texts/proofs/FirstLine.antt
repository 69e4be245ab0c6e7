-- The first line of a layer's text has no words.
use Rattle.std.proofs.Common.{◌≡◌, ◌∙◌, ℕ, zero, suc, ◌+◌, ◌-◌, List, [], ◌∷◌, ◌++◌, drop, Option, Some, None, Result, Ok, Err, ap, sym, refl, arith}
use Rattle.std.specs.Prelude.{codes}
use Rattle.usda_lexer.specs.declared.token.LexFault.{LexFault}
use Rattle.usda_lexer.specs.declared.token.LexFault.TheVariants.{Unclosed}
use Rattle.usda_lexer.specs.declared.blanks.Between.TheVariants.{Blank}
use Rattle.usda_lexer.specs.Blanks.{gap}
use Rattle.usda_lexer.specs.Words.{Word, word_in_front, word_behind, next_word, lexing_from}
use Rattle.usda_lexer.proofs.Steps.{one_word, no_word, a_fault}
use Rattle.usda_writer.specs.Canonical.{first_line}
use Rattle.value_texts.specs.Cuts.{IsCut}
use Rattle.value_texts.specs.Follows.{anything}
use Rattle.value_texts.proofs.Blanks.{next_ends, Ends}
use Rattle.value_texts.proofs.Shifts.{up, gap_up}
use Rattle.layer_texts.specs.Spelled.{IsSpelled}
use Rattle.layer_texts.proofs.Spelled.{of_cut}

-- so many bytes further on
abbrev further : ℕ → Result ℕ ℕ → Result ℕ ℕ
further k (Ok n) = Ok (n + k)
further k (Err n) = Err (n + k)

no_further : (r : Result ℕ ℕ) → r ≡ further 0 r
no_further (Ok n) = ap Ok (let e : n ≡ n + 0 = omega arith in e)
no_further (Err n) = ap Err (let e : n ≡ n + 0 = omega arith in e)

one_further : (k : ℕ) (r : Result ℕ ℕ) → up (further k r) ≡ further (suc k) r
one_further k (Ok n) = ap Ok (let e : n + k + 1 ≡ n + suc k = omega arith in e)
one_further k (Err n) = ap Err (let e : n + k + 1 ≡ n + suc k = omega arith in e)

gap_further : (k : ℕ) (rest : List ℕ) → gap Blank 0 k rest ≡ further k (gap Blank 0 0 rest)
gap_further zero rest = no_further (gap Blank 0 0 rest)
gap_further (suc k) rest =
    ap (λ j. gap Blank 0 j rest) (let e : suc k ≡ k + 1 = omega arith in e) ∙ gap_up Blank 0 0 k rest tt ∙ ap up (gap_further k rest) ∙ one_further k (gap Blank 0 0 rest)

abbrev pub text : List ℕ → List ℕ
text rest = codes "#usda 1.0\n" ++ rest

dropped : (n : ℕ) (rest : List ℕ) → drop (n + 10) (text rest) ≡ drop n rest
dropped n rest = ap (λ k. drop k (text rest)) (let e : n + 10 ≡ suc (suc (suc (suc (suc (suc (suc (suc (suc (suc n))))))))) = omega arith in e)

behind_line : (at : ℕ) (rest : List ℕ) (r : Result ℕ ℕ) → word_behind at (text rest) (further 10 r) ≡ word_behind (at + 10) rest r
behind_line at rest (Ok n) =
    ap (λ k. word_in_front k (drop (n + 10) (text rest))) (let e : at + (n + 10) ≡ at + 10 + n = omega arith in e) ∙ ap (word_in_front (at + 10 + n)) (dropped n rest)
behind_line at rest (Err n) = ap (λ k. Err (Unclosed k)) (let e : at + (n + 10) ≡ at + 10 + n = omega arith in e)

next_behind : (at : ℕ) (rest : List ℕ) → next_word at (text rest) ≡ next_word (at + 10) rest
unfolding next_word
next_behind at rest = ap (word_behind at (text rest)) (gap_further 10 rest) ∙ behind_line at rest (gap Blank 0 0 rest)

lexed_behind : (at : ℕ) (rest : List ℕ) (r : Result (Option Word) LexFault) → next_word (at + 10) rest ≡ r → Ends (at + 10) r → lexing_from 0 at (text rest) ≡ lexing_from 0 (at + 10) rest
lexed_behind at rest (Ok (Some w)) e lt =
    one_word at (text rest) w (next_behind at rest ∙ e) (omega (arith, lt))
    ∙ ap (λ (t : List ℕ). record { words = w ∷ (lexing_from 0 w.end t).words; fault = (lexing_from 0 w.end t).fault })
    (ap (λ k. drop k (text rest)) (let same : w.end - at ≡ w.end - (at + 10) + 10 = omega (arith, lt) in same) ∙ dropped (w.end - (at + 10)) rest)
    ∙ sym (one_word (at + 10) rest w e lt)
lexed_behind at rest (Ok None) e lt = no_word at (text rest) (next_behind at rest ∙ e) ∙ sym (no_word (at + 10) rest e)
lexed_behind at rest (Err f) e lt = a_fault at (text rest) f (next_behind at rest ∙ e) ∙ sym (a_fault (at + 10) rest f e)

line_cut : (at : ℕ) (rest : List ℕ) → IsCut at (codes "#usda 1.0\n") [] rest
line_cut at rest = record { words = []; spelled = refl; lexed = lexed_behind at rest (next_word (at + 10) rest) refl (next_ends (at + 10) rest) }

-- the first line is a comment
pub first_line_spelled : IsSpelled anything first_line []
unfolding first_line
first_line_spelled = of_cut anything (codes "#usda 1.0\n") [] refl (λ at rest k. line_cut at rest)

-- One token after the other: what is left behind a token.
use Rattle.std.proofs.Common.{◌≡◌, ◌∙◌, ℕ, zero, suc, ◌+◌, ◌-◌, ◌<◌, List, [], ◌∷◌, drop, Option, Some, None, Result, Ok, Err, ap, sym, refl, arith}
use Rattle.std.proofs.lemmas.List.{drop-drop}
use Rattle.usda_lexer.specs.declared.token.LexFault.{LexFault}
use Rattle.usda_lexer.specs.declared.token.Token.{Token}
use Rattle.usda_lexer.specs.Words.{Word, word_of, Lexing, next_word, and_then, lexing_from, Lexer, left, Finds, StandsIn, AnswersPeek, AnswersNext}

-- the tokens behind those bytes that belong to a token
pub behind_taken : (n at : ℕ) (bytes : List ℕ) → lexing_from n at bytes ≡ lexing_from 0 (at + n) (drop n bytes)
behind_taken zero at bytes = ap (λ k. lexing_from 0 k bytes) (let e : at ≡ at + 0 = omega arith in e)
behind_taken (suc n) at [] = refl
behind_taken (suc n) at (c ∷ cs) = behind_taken n (at + 1) cs ∙ ap (λ k. lexing_from 0 k (drop n cs)) (let e : at + 1 + n ≡ at + suc n = omega arith in e)

-- the next token, and then those behind it
pub one_word : (at : ℕ) (bytes : List ℕ) (w : Word) → next_word at bytes ≡ Ok (Some w) → at < w.end
    → lexing_from 0 at bytes ≡ record { words = w ∷ (lexing_from 0 w.end (drop (w.end - at) bytes)).words; fault = (lexing_from 0 w.end (drop (w.end - at) bytes)).fault }
unfolding next_word
one_word at [] w e behind = absurd cc
one_word at (c ∷ cs) w e behind =
    ap (λ r. and_then r (λ end. lexing_from (end - (at + 1)) (at + 1) cs)) e
    ∙ ap (λ (l : Lexing). record { words = w ∷ l.words; fault = l.fault })
    (behind_taken (w.end - (at + 1)) (at + 1) cs ∙ ap (λ k. lexing_from 0 k (drop (w.end - (at + 1)) cs)) (let s : at + 1 + (w.end - (at + 1)) ≡ w.end = omega arith in s)
    ∙ ap (λ k. lexing_from 0 w.end (drop k (c ∷ cs))) (let s : suc (w.end - (at + 1)) ≡ w.end - at = omega arith in s))

pub no_word : (at : ℕ) (bytes : List ℕ) → next_word at bytes ≡ Ok None → lexing_from 0 at bytes ≡ record { words = []; fault = None }
no_word at [] e = refl
no_word at (c ∷ cs) e = ap (λ r. and_then r (λ end. lexing_from (end - (at + 1)) (at + 1) cs)) e

pub a_fault : (at : ℕ) (bytes : List ℕ) (f : LexFault) → next_word at bytes ≡ Err f → lexing_from 0 at bytes ≡ record { words = []; fault = Some f }
unfolding next_word
a_fault at [] f e = absurd cc
a_fault at (c ∷ cs) f e = ap (λ r. and_then r (λ end. lexing_from (end - (at + 1)) (at + 1) cs)) e

-- the tokens that are left from a token on
pub left_from : (s : Lexer) (w : Word) → next_word s.at (drop s.at s.source) ≡ Ok (Some w) → s.at < w.end
    → left s ≡ record { words = w ∷ (left (record { source = s.source; at = w.end })).words; fault = (left (record { source = s.source; at = w.end })).fault }
unfolding left
left_from s w e behind =
    one_word s.at (drop s.at s.source) w e behind
    ∙ ap (λ (t : List ℕ). record { words = w ∷ (lexing_from 0 w.end t).words; fault = (lexing_from 0 w.end t).fault })
    (drop-drop (w.end - s.at) s.at s.source ∙ ap (λ k. drop k s.source) (let k : s.at + (w.end - s.at) ≡ w.end = omega arith in k))

pub left_none : (s : Lexer) → next_word s.at (drop s.at s.source) ≡ Ok None → left s ≡ record { words = []; fault = None }
unfolding left
left_none s e = no_word s.at (drop s.at s.source) e

pub left_fault : (s : Lexer) (f : LexFault) → next_word s.at (drop s.at s.source) ≡ Err f → left s ≡ record { words = []; fault = Some f }
unfolding left
left_fault s f e = a_fault s.at (drop s.at s.source) f e

pub answers_peek : (r : Result (Option Token) LexFault) (s : Lexer) → Finds r (next_word s.at (drop s.at s.source)) → StandsIn r s → AnswersPeek r (left s)
answers_peek (Ok (Some t)) s e is =
    let all = left_from s (word_of t) e (omega (arith, is.behind, is.some)) in
    ((left (record { source = s.source; at = t.end })).words, ap (λ l. l.words) all)
answers_peek (Ok None) s e is = left_none s e
answers_peek (Err f) s e is = left_fault s f e

pub answers_next : (t : Token) (old new : Lexer) → next_word old.at (drop old.at old.source) ≡ Ok (Some (word_of t)) → old.at < t.end → new ≡ record { source = old.source; at = t.end }
    → AnswersNext (Ok (Some t)) old new
answers_next t old new e behind is =
    (left_from old (word_of t) e behind ∙ ap (λ (s : Lexer). record { words = word_of t ∷ (left s).words; fault = (left s).fault }) (sym is), is)

-- Blanks and line feeds are no tokens.
use Rattle.std.proofs.Common.{◌≡◌, ◌∙◌, ℕ, suc, true, ◌+◌, ◌-◌, ◌<◌, ◌≤◌, List, [], ◌∷◌, drop, Option, Some, None, Result, Ok, Err, ap, refl, arith}
use Rattle.std.specs.Result.{IfOk}
use Rattle.usda_lexer.specs.declared.token.LexFault.{LexFault}
use Rattle.usda_lexer.specs.declared.token.LexFault.TheVariants.{Unclosed}
use Rattle.usda_lexer.specs.declared.blanks.Between.TheVariants.{Blank}
use Rattle.usda_lexer.specs.Blanks.{is_blank, gap}
use Rattle.usda_lexer.specs.Words.{Word, Found, found, cut, word_in_front, word_behind, next_word, and_then, lexing_from, Lexing}
use Rattle.value_texts.proofs.Shifts.{up, gap_blank}
use Rattle.value_texts.proofs.Lengths.{found_some}

up_behind : (at c : ℕ) (cs : List ℕ) (r : Result ℕ ℕ) → word_behind at (c ∷ cs) (up r) ≡ word_behind (at + 1) cs r
up_behind at c cs (Ok n) =
    ap (λ k. word_in_front (at + (n + 1)) (drop k (c ∷ cs))) (let e : n + 1 ≡ suc n = omega arith in e)
    ∙ ap (λ k. word_in_front k (drop n cs)) (let e : at + (n + 1) ≡ at + 1 + n = omega arith in e)
up_behind at c cs (Err n) = ap (λ k. Err (Unclosed k)) (let e : at + (n + 1) ≡ at + 1 + n = omega arith in e)

next_same : (at c : ℕ) (cs : List ℕ) → is_blank c ≡ true → next_word at (c ∷ cs) ≡ next_word (at + 1) cs
unfolding next_word
next_same at c cs h = ap (word_behind at (c ∷ cs)) (gap_blank c cs h) ∙ up_behind at c cs (gap Blank 0 0 cs)

abbrev pub Ends : ℕ → Result (Option Word) LexFault → Type 0
Ends at (Ok (Some w)) = at < w.end
Ends at (Ok None) = Unit {0}
Ends at (Err f) = Unit {0}

cut_ends : (at : ℕ) (bytes : List ℕ) (r : Found) → IfOk r (λ f. 0 < f.1) → Ends at (cut at bytes r)
cut_ends at bytes (Err e) h = tt
cut_ends at bytes (Ok f) h = omega (arith, h)

front_ends : (at : ℕ) (bytes : List ℕ) → Ends at (word_in_front at bytes)
front_ends at [] = tt
front_ends at (c ∷ cs) = cut_ends at (c ∷ cs) (found at (c ∷ cs)) (found_some at (c ∷ cs))

earlier : (at k : ℕ) (r : Result (Option Word) LexFault) → at ≤ k → Ends k r → Ends at r
earlier at k (Ok (Some w)) h e = omega (arith, h, e)
earlier at k (Ok None) h e = tt
earlier at k (Err f) h e = tt

behind_ends : (at : ℕ) (bytes : List ℕ) (r : Result ℕ ℕ) → Ends at (word_behind at bytes r)
behind_ends at bytes (Ok n) = earlier at (at + n) (word_in_front (at + n) (drop n bytes)) (omega arith) (front_ends (at + n) (drop n bytes))
behind_ends at bytes (Err n) = tt

-- a token goes beyond the place from which it is looked for
pub next_ends : (at : ℕ) (bytes : List ℕ) → Ends at (next_word at bytes)
unfolding next_word
next_ends at bytes = behind_ends at bytes (gap Blank 0 0 bytes)

-- what is left of a token one byte further on
one_fewer : (k end d : ℕ) (ds : List ℕ) → k < end → lexing_from (end - k) k (d ∷ ds) ≡ lexing_from (end - (k + 1)) (k + 1) ds
one_fewer k end d ds h =
    ap (λ n. lexing_from n k (d ∷ ds)) (let e : end - k ≡ suc (end - (k + 1)) = omega (arith, h) in e)

same_rest : (at d : ℕ) (ds : List ℕ) (r : Result (Option Word) LexFault) → Ends (at + 1) r
    → and_then r (λ end. lexing_from (end - (at + 1)) (at + 1) (d ∷ ds)) ≡ and_then r (λ end. lexing_from (end - (at + 1 + 1)) (at + 1 + 1) ds)
same_rest at d ds (Ok None) h = refl
same_rest at d ds (Err f) h = refl
same_rest at d ds (Ok (Some w)) h = ap (λ (l : Lexing). record { words = w ∷ l.words; fault = l.fault }) (one_fewer (at + 1) w.end d ds h)

none_left : (k : ℕ) → next_word k [] ≡ Ok None
unfolding next_word
none_left k = refl

pub blank_skipped : (c at : ℕ) (rest : List ℕ) → is_blank c ≡ true → lexing_from 0 at (c ∷ rest) ≡ lexing_from 0 (at + 1) rest
blank_skipped c at [] h = ap (λ (r : Result (Option Word) LexFault). and_then r (λ end. lexing_from (end - (at + 1)) (at + 1) [])) (next_same at c [] h ∙ none_left (at + 1))
blank_skipped c at (d ∷ ds) h =
    ap (λ (r : Result (Option Word) LexFault). and_then r (λ end. lexing_from (end - (at + 1)) (at + 1) (d ∷ ds))) (next_same at c (d ∷ ds) h)
    ∙ same_rest at d ds (next_word (at + 1) (d ∷ ds)) (next_ends (at + 1) (d ∷ ds))

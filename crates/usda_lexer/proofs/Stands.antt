-- Where tokens and faults stand in the source.
use Rattle.std.proofs.Common.{◌≡◌, ◌∙◌, ℕ, ◌<◌, ◌≤◌, ◌+◌, ◌-◌, List, [], ◌∷◌, ◌++◌, take, drop, length, Option, Some, None, Result, Ok, Err, ap, sym, refl, subst, arith}
use Rattle.std.specs.Prelude.{slice_range}
use Rattle.std.specs.Str.{IsCharBoundary}
use Rattle.std.proofs.lemmas.List.{drop-drop, length-drop, take-append-drop}
use Rattle.usda_lexer.specs.declared.token.Token.{Token}
use Rattle.usda_lexer.specs.declared.token.LexFault.{LexFault}
use Rattle.usda_lexer.specs.declared.token.LexFault.TheVariants.{NotUtf8, Unclosed, BadByte, NumberTooLong}
use Rattle.usda_lexer.specs.declared.blanks.Between.TheVariants.{Blank}
use Rattle.usda_lexer.specs.Blanks.{gap, IsGap}
use Rattle.usda_lexer.specs.Words.{Word, found, cut, word_in_front, word_behind, next_word, Finds, IsAt, StandsAt, StandsIn, IsFaultAt}
use Rattle.usda_lexer.proofs.Gaps.{gap_is, gap_open}

pub no_rest : (bytes : List ℕ) → length bytes ≡ 0 → bytes ≡ []
no_rest [] e = refl
no_rest (c ∷ bytes) e = absurd (omega (arith, e))

pub in_front : (at : ℕ) (bytes : List ℕ) → 0 < length bytes → word_in_front at bytes ≡ cut at bytes (found at bytes)
in_front at [] h = absurd (omega (arith, h))
in_front at (c ∷ cs) h = refl

-- the text between two places
range_is : (source : List ℕ) (at n : ℕ) → take n (drop at source) ≡ slice_range source at (at + n)
range_is source at n = ap (λ k. take k (drop at source)) (let e : n ≡ at + n - at = omega arith in e)

gap_behind : (source : List ℕ) (at n : ℕ) → IsGap (take n (drop at source)) (drop n (drop at source)) → IsGap (slice_range source at (at + n)) (drop (at + n) source)
gap_behind source at n g = subst (λ (t : List ℕ). IsGap t (drop (at + n) source)) (range_is source at n) (subst (IsGap (take n (drop at source))) (drop-drop n at source) g)

rest_is_gap : (bytes : List ℕ) (n : ℕ) → drop n bytes ≡ [] → IsGap (take n bytes) (drop n bytes) → IsGap bytes []
rest_is_gap bytes n none g =
    subst (λ (t : List ℕ). IsGap t []) (let e : take n bytes ≡ bytes = nothing (take n bytes) (drop n bytes) none ∙ take-append-drop n bytes in e) (subst (IsGap (take n bytes)) none g)
  where
    nothing : (xs ys : List ℕ) → ys ≡ [] → xs ≡ xs ++ ys
    nothing xs ys e = sym (ap (λ t. xs ++ t) e ∙ Rattle.std.proofs.Common.append-nil xs)

fault_at : (e : LexFault) (source : List ℕ) (at n : ℕ) → IsAt (at + n) e → at + n < length source → IsGap (slice_range source at (at + n)) (drop (at + n) source) → StandsIn (Err e) (record { source = source; at = at })
fault_at (NotUtf8 p) source at n is inside g = absurd is
fault_at (Unclosed p) source at n is inside g = subst (λ (x : ℕ). IsFaultAt source at x) (sym is) (record { behind = omega arith; inside = inside; gap = g })
fault_at (BadByte p) source at n is inside g = subst (λ (x : ℕ). IsFaultAt source at x) (sym is) (record { behind = omega arith; inside = inside; gap = g })
fault_at (NumberTooLong p) source at n is inside g = subst (λ (x : ℕ). IsFaultAt source at x) (sym is) (record { behind = omega arith; inside = inside; gap = g })

pub stands : (r : Result (Option Token) LexFault) (source : List ℕ) (at n : ℕ) → gap Blank 0 0 (drop at source) ≡ Ok n → StandsAt r source (at + n) → StandsIn r (record { source = source; at = at })
stands (Ok (Some t)) source at n e is =
    let g = gap_behind source at n (gap_is (drop at source) n e).1 in
    record {
      text = is.0;
      behind = omega (arith, is.1);
      some = omega (arith, is.1, is.2);
      inside = is.3.0;
      gap = subst (λ (x : ℕ). IsGap (slice_range source at x) (drop x source)) (sym is.1) g;
    }
stands (Ok None) source at n e is =
    rest_is_gap (drop at source) n (drop-drop n at source ∙ is) (gap_is (drop at source) n e).1
stands (Err f) source at n e is = fault_at f source at n is.0 is.1 (gap_behind source at n (gap_is (drop at source) n e).1)

pub stands_open : (source : List ℕ) (at n : ℕ) → gap Blank 0 0 (drop at source) ≡ Err n → StandsIn (Err (Unclosed (at + n))) (record { source = source; at = at })
stands_open source at n e =
    let o = gap_open (drop at source) n e in
    record { behind = omega arith; inside = omega (arith, o.0, length-drop at source); gap = gap_behind source at n o.1 }

pub next_is : (source : List ℕ) (at n : ℕ) (r : Result (Option Token) LexFault) → gap Blank 0 0 (drop at source) ≡ Ok n → Finds r (word_in_front (at + n) (drop (at + n) source))
    → Finds r (next_word at (drop at source))
unfolding next_word
next_is source at n r e finds =
    subst (λ (x : Result (Option Word) LexFault). Finds r x)
    (ap (word_in_front (at + n)) (sym (drop-drop n at source)) ∙ ap (word_behind at (drop at source)) (sym e)) finds

pub next_breaks : (source : List ℕ) (at n : ℕ) → gap Blank 0 0 (drop at source) ≡ Err n → next_word at (drop at source) ≡ Err (Unclosed (at + n))
unfolding next_word
next_breaks source at n e = ap (word_behind at (drop at source)) e

-- the place behind blanks and comments
pub behind_gap : (source : List ℕ) (at n : ℕ) → at ≤ length source → IsCharBoundary (drop at source) n → IsCharBoundary source (at + n)
behind_gap source at n inside cut = Rattle.std.proofs.lemmas.Str.IsCharBoundary-from_rest source at n inside cut

-- Whole lines of a text.
use Rattle.std.proofs.Common.{◌≡◌, ℕ, ◌+◌, ◌≤◌, ◌==◌, length, arith, Bool, true, false, cond, List, [], ◌∷◌, ◌++◌, ◌⊎◌, inl, inr, refl, ap, sym, subst, ◌∙◌, append-nil, append_assoc}
use Rattle.std.specs.List.{concat}
use Rattle.std.proofs.lemmas.List.{length-append}
use Rattle.std.proofs.lemmas.List.Folds.{concat-append}
use Rattle.session_script.specs.Pieces.{onto, lines_of, IsFed, AreFed}
use Rattle.session_script.specs.Cuts.{AreWholeLines}
use Rattle.session_script.specs.States.{has_feed}

none_are : lines_of [] ≡ []
unfolding lines_of
none_are = refl

by_first : (c : ℕ) (cs : List ℕ) → lines_of (c ∷ cs) ≡ cond (c == 10) ((c ∷ []) ∷ lines_of cs) (onto c (lines_of cs))
unfolding lines_of
by_first c cs = refl

onto_bytes : (c : ℕ) (ls : List (List ℕ)) → concat (onto c ls) ≡ c ∷ concat ls
onto_bytes c [] = refl
onto_bytes c (l ∷ ls) = refl

-- the lines of a text are the text
pub lines_join : (text : List ℕ) → concat (lines_of text) ≡ text
lines_join [] = ap concat none_are
lines_join (c ∷ cs) = ap concat (by_first c cs) ∙ by_test (c == 10) ∙ ap (λ (l : List ℕ). c ∷ l) (lines_join cs)
  where
    by_test : (b : Bool) → concat (cond b ((c ∷ []) ∷ lines_of cs) (onto c (lines_of cs))) ≡ c ∷ concat (lines_of cs)
    by_test true = refl
    by_test false = onto_bytes c (lines_of cs)

heads : {X : Type 0} (x y : X) (xs ys : List X) → x ∷ xs ≡ y ∷ ys → x ≡ y
heads {X = X} x y xs ys e = ap (λ (l : List X). elim l [ [] ↦ x | z ∷ zs ↦ z ]) e

tails : {X : Type 0} (x y : X) (xs ys : List X) → x ∷ xs ≡ y ∷ ys → xs ≡ ys
tails {X = X} x y xs ys e = ap (λ (l : List X). elim l [ [] ↦ xs | z ∷ zs ↦ zs ]) e

-- what holds of the first lines of the rest of a text holds of the first lines of the text
front_more : (c : ℕ) (cs l : List ℕ) (ls ms : List (List ℕ)) → ((ks ns : List (List ℕ)) → lines_of cs ≡ ks ++ ns → lines_of (concat ks) ≡ ks) → lines_of (c ∷ cs) ≡ l ∷ (ls ++ ms) → lines_of (l ++ concat ls) ≡ l ∷ ls
front_more c cs l ls ms below e = by_test (c == 10) refl (sym (by_first c cs) ∙ e)
  where
    only : (more : List (List ℕ)) → (c == 10) ≡ false → [] ≡ more ++ ms → lines_of (c ∷ concat more) ≡ (c ∷ []) ∷ more
    only [] other g = by_first c [] ∙ rw other (ap (onto c) none_are)
    only (m ∷ more) other g = absurd cc

    by_lines : (rest : List (List ℕ)) → lines_of cs ≡ rest → (c == 10) ≡ false → onto c rest ≡ l ∷ (ls ++ ms) → lines_of (l ++ concat ls) ≡ l ∷ ls
    by_lines [] is other f =
        let a : c ∷ [] ≡ l = heads (c ∷ []) l [] (ls ++ ms) f in
        let b : [] ≡ ls ++ ms = tails (c ∷ []) l [] (ls ++ ms) f in
        subst (λ (k : List ℕ). lines_of (k ++ concat ls) ≡ k ∷ ls) a (only ls other b)
    by_lines (p ∷ ps) is other f =
        let a : c ∷ p ≡ l = heads (c ∷ p) l ps (ls ++ ms) f in
        let b : ps ≡ ls ++ ms = tails (c ∷ p) l ps (ls ++ ms) f in
        let known : lines_of (concat (p ∷ ls)) ≡ p ∷ ls = below (p ∷ ls) ms (is ∙ ap (λ (k : List (List ℕ)). p ∷ k) b) in
        subst (λ (k : List ℕ). lines_of (k ++ concat ls) ≡ k ∷ ls) a (by_first c (p ++ concat ls) ∙ rw other (ap (onto c) known))

    by_test : (b : Bool) → (c == 10) ≡ b → cond b ((c ∷ []) ∷ lines_of cs) (onto c (lines_of cs)) ≡ l ∷ (ls ++ ms) → lines_of (l ++ concat ls) ≡ l ∷ ls
    by_test true is f =
        let a : c ∷ [] ≡ l = heads (c ∷ []) l (lines_of cs) (ls ++ ms) f in
        let b : lines_of cs ≡ ls ++ ms = tails (c ∷ []) l (lines_of cs) (ls ++ ms) f in
        subst (λ (k : List ℕ). lines_of (k ++ concat ls) ≡ k ∷ ls) a (by_first c (concat ls) ∙ rw is (ap (λ (k : List (List ℕ)). (c ∷ []) ∷ k) (below ls ms b)))
    by_test false is f = by_lines (lines_of cs) refl is f

-- the first lines of a text are the lines of the text that they are together
pub front_lines : (text : List ℕ) (ls ms : List (List ℕ)) → lines_of text ≡ ls ++ ms → lines_of (concat ls) ≡ ls
front_lines text [] ms e = none_are
front_lines [] (l ∷ ls) ms e = absurd (let f : [] ≡ l ∷ (ls ++ ms) = sym none_are ∙ e in cc)
front_lines (c ∷ cs) (l ∷ ls) ms e = front_more c cs l ls ms (λ ks ns h. front_lines cs ks ns h) e

pub fed_append : (xs ys : List (List ℕ)) → AreFed xs → AreFed ys → AreFed (xs ++ ys)
fed_append [] ys f g = g
fed_append (x ∷ xs) ys f g = (f.0, fed_append xs ys f.1 g)

-- lines with their line feeds are a text that has its last one
fed_join : (ls : List (List ℕ)) → AreFed ls → (concat ls ≡ []) ⊎ IsFed (concat ls)
fed_join [] f = inl refl
fed_join (l ∷ ls) f = by_rest (fed_join ls f.1)
  where
    by_rest : (concat ls ≡ []) ⊎ IsFed (concat ls) → (l ++ concat ls ≡ []) ⊎ IsFed (l ++ concat ls)
    by_rest (inl none) = inr (f.0.0, ap (λ (k : List ℕ). l ++ k) none ∙ append-nil l ∙ f.0.1)
    by_rest (inr (front, e)) = inr (l ++ front, ap (λ (k : List ℕ). l ++ k) e ∙ sym (append_assoc l front (10 ∷ [])))

-- one line more
pub longer_by : (ls : List (List ℕ)) (l : List ℕ) → length (concat (ls ++ l ∷ [])) ≡ length (concat ls) + length l
longer_by ls l = ap length (concat-append ls (l ∷ [])) ∙ length-append (concat ls) (l ++ []) ∙ ap (λ (k : List ℕ). length (concat ls) + length k) (append-nil l)

pub longer_by_all : (ls ms : List (List ℕ)) → length (concat (ls ++ ms)) ≡ length (concat ls) + length (concat ms)
longer_by_all ls ms = ap length (concat-append ls ms) ∙ length-append (concat ls) (concat ms)

-- lines that were taken of a text, with bytes behind them that have no line feed
pub whole_lines : (all left rest : List ℕ) (ls : List (List ℕ)) → lines_of all ≡ ls ++ lines_of (rest ++ left) → AreFed ls → has_feed rest ≡ false → length (concat ls) + length rest ≤ 16777216 → AreWholeLines all left (concat ls)
whole_lines all left rest ls e fed none few = record {
  rest = rest;
  bytes = sym (lines_join all) ∙ ap concat e ∙ concat-append ls (lines_of (rest ++ left)) ∙ ap (λ (l : List ℕ). concat ls ++ l) (lines_join (rest ++ left));
  lines = e ∙ ap (λ (k : List (List ℕ)). k ++ lines_of (rest ++ left)) (sym (front_lines all ls (lines_of (rest ++ left)) e));
  fed = fed_join ls fed;
  no_feed = none;
  few = omega (arith, few, length-append (concat ls) rest);
}

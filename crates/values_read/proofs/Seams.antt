-- Where texts that are UTF-8 may be cut: behind and before bytes that are ASCII.
use Rattle.std.proofs.Common.{◌≡◌, ◌∙◌, ℕ, suc, ◌+◌, ◌<◌, List, [], ◌∷◌, ◌++◌, length, length-append, drop, ap, sym, refl, subst, arith}
use Rattle.std.specs.Str.{IsUtf8}
use Rattle.std.proofs.lemmas.Str.{IsUtf8-drop, IsUtf8-take, IsCharBoundary-after_ascii, IsCharBoundary-before_ascii}
use Rattle.value_texts.proofs.AssetTokens.{at_seam}
use Rattle.value_texts.proofs.Pieces.{front, back}

pub behind_one : (xs ys : List ℕ) (c : ℕ) → drop (suc (length xs)) (xs ++ c ∷ ys) ≡ ys
behind_one [] ys c = refl
behind_one (x ∷ xs) ys c = behind_one xs ys c

inside : (xs ys : List ℕ) (c : ℕ) → length xs < length (xs ++ c ∷ ys)
inside xs ys c = omega (arith, length-append xs (c ∷ ys))

pub behind_ascii : (xs ys : List ℕ) (c : ℕ) → c < 128 → IsUtf8 (xs ++ c ∷ ys) → IsUtf8 ys
behind_ascii xs ys c low u =
    subst IsUtf8 (ap (λ k. drop k (xs ++ c ∷ ys)) (let e : length xs + 1 ≡ suc (length xs) = omega arith in e) ∙ behind_one xs ys c)
    (IsUtf8-drop (xs ++ c ∷ ys) (length xs + 1) u (IsCharBoundary-after_ascii (xs ++ c ∷ ys) (length xs) u (inside xs ys c) (subst (λ k. k < 128) (sym (at_seam xs ys c)) low)))

pub before_ascii : (xs ys : List ℕ) (c : ℕ) → c < 128 → IsUtf8 (xs ++ c ∷ ys) → IsUtf8 xs
before_ascii xs ys c low u =
    subst IsUtf8 (front xs (c ∷ ys))
    (IsUtf8-take (xs ++ c ∷ ys) (length xs) u (IsCharBoundary-before_ascii (xs ++ c ∷ ys) (length xs) (inside xs ys c) (subst (λ k. k < 128) (sym (at_seam xs ys c)) low)))

pub from_ascii : (xs ys : List ℕ) (c : ℕ) → c < 128 → IsUtf8 (xs ++ c ∷ ys) → IsUtf8 (c ∷ ys)
from_ascii xs ys c low u =
    subst IsUtf8 (back xs (c ∷ ys))
    (IsUtf8-drop (xs ++ c ∷ ys) (length xs) u (IsCharBoundary-before_ascii (xs ++ c ∷ ys) (length xs) (inside xs ys c) (subst (λ k. k < 128) (sym (at_seam xs ys c)) low)))

-- What stands behind blanks and comments is UTF-8 where the whole is.
use Rattle.std.proofs.Common.{◌≡◌, ◌∙◌, ℕ, true, List, [], ◌∷◌, ◌++◌, append_assoc, take, drop, Ok, ap, sym, subst, arith, eqb-true}
use Rattle.std.specs.Str.{IsUtf8}
use Rattle.std.proofs.lemmas.Str.{IsUtf8-nil}
use Rattle.std.proofs.lemmas.List.{take-append-drop}
use Rattle.usda_lexer.specs.declared.blanks.Between.TheVariants.{Blank}
use Rattle.usda_lexer.specs.Blanks.{gap, IsGap, Piece, blank, hash, slashes, block, is_one_line, at_line_end, is_piece, piece_bytes, pieces_bytes, are_pieces}
use Rattle.usda_lexer.proofs.Gaps.{gap_is, both}
use Rattle.usda_lexer.proofs.Cuts.{blank_ascii}
use Rattle.values_read.proofs.Seams.{behind_ascii, from_ascii}

-- behind the line of a comment
behind_line : (front rest : List ℕ) → at_line_end rest ≡ true → IsUtf8 (front ++ rest) → IsUtf8 rest
behind_line front [] e u = IsUtf8-nil
behind_line front (c ∷ cs) e u = from_ascii front cs c (let feed : c ≡ 10 = eqb-true c 10 e in omega (arith, feed)) u

behind_piece : (p : Piece) (rest : List ℕ) → is_piece p rest ≡ true → IsUtf8 (piece_bytes p ++ rest) → IsUtf8 rest
behind_piece (blank c) rest e u = behind_ascii [] rest c (blank_ascii c e) u
behind_piece (hash text) rest e u = behind_line (35 ∷ text) rest (both (is_one_line text) (at_line_end rest) e).1 u
behind_piece (slashes text) rest e u = behind_line (47 ∷ 47 ∷ text) rest (both (is_one_line text) (at_line_end rest) e).1 u
behind_piece (block text) rest e u =
    behind_ascii (47 ∷ 42 ∷ text ++ 42 ∷ []) rest 47 (omega arith)
    (subst IsUtf8 (ap (λ t. 47 ∷ 42 ∷ t) (append_assoc text (42 ∷ 47 ∷ []) rest ∙ sym (append_assoc text (42 ∷ []) (47 ∷ rest)))) u)

behind_pieces : (ps : List Piece) (behind : List ℕ) → are_pieces ps behind ≡ true → IsUtf8 (pieces_bytes ps ++ behind) → IsUtf8 behind
behind_pieces [] behind e u = u
behind_pieces (p ∷ ps) behind e u =
    let t = both (is_piece p (pieces_bytes ps ++ behind)) (are_pieces ps behind) e in
    behind_pieces ps behind t.1 (behind_piece p (pieces_bytes ps ++ behind) t.0 (subst IsUtf8 (append_assoc (piece_bytes p) (pieces_bytes ps) behind) u))

pub behind_gap : (bytes : List ℕ) (n : ℕ) → gap Blank 0 0 bytes ≡ Ok n → IsUtf8 bytes → IsUtf8 (drop n bytes)
behind_gap bytes n e u =
    let g : IsGap (take n bytes) (drop n bytes) = (gap_is bytes n e).1 in
    behind_pieces g.pieces (drop n bytes) g.good (subst (λ (t : List ℕ). IsUtf8 (t ++ drop n bytes)) (sym g.written) (subst IsUtf8 (sym (take-append-drop n bytes)) u))

-- Blanks and whole comments are gone over up to their end.
use Rattle.std.proofs.Common.{◌≡◌, ◌∙◌, ℕ, ◌+◌, Bool, true, false, ◌&&◌, ◌==◌, List, [], ◌∷◌, ◌++◌, length, Option, Some, None, Result, Ok, ap, sym, refl, subst, arith, eqb-true, append_assoc}
use Rattle.std.specs.Prelude.{if◌then◌else◌, codes}
use Rattle.std.proofs.lemmas.List.{length-append}
use Rattle.usda_lexer.specs.declared.blanks.Between.{Between}
use Rattle.usda_lexer.specs.declared.blanks.Between.TheVariants.{Blank, Slash, Line, Opening, Block, Closing}
use Rattle.usda_lexer.specs.Blanks.{begins, opened_at, gap, IsGap, Piece, blank, hash, slashes, block, is_one_line, has_no_end, at_line_end, is_piece, piece_bytes, pieces_bytes, are_pieces}
use Rattle.usda_lexer.specs.Laws.{first_between}
use Rattle.std.proofs.lemmas.Bool.{and_parts}

-- n bytes on
at_place : (s : Between) (o n m : ℕ) (rest : List ℕ) → n ≡ m → gap s o n rest ≡ gap s o m rest
at_place s o n m rest e = ap (λ k. gap s o k rest) e

line_step : (o n c : ℕ) (text rest : List ℕ) (ends : Bool) → (c == 10) ≡ ends → is_one_line (c ∷ text) ≡ true
    → (is_one_line text ≡ true → gap Line o (n + 1) (text ++ rest) ≡ gap Line o (n + 1 + length text) rest) → gap Line o n (c ∷ text ++ rest) ≡ gap Line o (n + length (c ∷ text)) rest
line_step o n c text rest true is e more = absurd (let t : false ≡ true = ap (λ x. if x then false else is_one_line text) (sym is) ∙ e in cc)
line_step o n c text rest false is e more =
    ap (λ x. gap (if x then Blank else Line) (opened_at (if x then Blank else Line) o n) (n + 1) (text ++ rest)) is
    ∙ more (ap (λ x. if x then false else is_one_line text) (sym is) ∙ e) ∙ at_place Line o (n + 1 + length text) (n + length (c ∷ text)) rest (omega arith)

-- a comment goes on through its line
scan_line : (o n : ℕ) (text rest : List ℕ) → is_one_line text ≡ true → gap Line o n (text ++ rest) ≡ gap Line o (n + length text) rest
scan_line o n [] rest e = at_place Line o n (n + 0) rest (omega arith)
scan_line o n (c ∷ text) rest e = line_step o n c text rest (c == 10) refl e (λ h. scan_line o (n + 1) text rest h)

-- and ends at the line feed
line_ends : (o n : ℕ) (rest : List ℕ) → at_line_end rest ≡ true → gap Line o n rest ≡ gap Blank o n rest
line_ends o n [] e = refl
line_ends o n (c ∷ cs) e = subst (λ (x : ℕ). gap Line o n (x ∷ cs) ≡ gap Blank o n (x ∷ cs)) (let f : c ≡ 10 = eqb-true c 10 e in sym f) refl

whole_line : (o n m : ℕ) (text rest : List ℕ) → (is_one_line text && at_line_end rest) ≡ true → n + length text ≡ m → gap Line o n (text ++ rest) ≡ gap Blank o m rest
whole_line o n m text rest e is =
    let t : (is_one_line text ≡ true) × (at_line_end rest ≡ true) = and_parts (is_one_line text) (at_line_end rest) e in
    scan_line o n text rest t.0 ∙ line_ends o (n + length text) rest t.1 ∙ at_place Blank o (n + length text) m rest is

begins_behind : (text rest : List ℕ) → begins 47 (text ++ 42 ∷ rest) ≡ begins 47 text
begins_behind [] rest = refl
begins_behind (c ∷ text) rest = refl

block_step : (o n c : ℕ) (text rest : List ℕ) (ends : Bool) → (c == 42 && begins 47 text) ≡ ends → has_no_end (c ∷ text) ≡ true
    → (has_no_end text ≡ true → gap Block o (n + 1) (text ++ 42 ∷ 47 ∷ rest) ≡ gap Blank o (n + 1 + length text + 2) rest)
    → gap Block o n (c ∷ text ++ 42 ∷ 47 ∷ rest) ≡ gap Blank o (n + length (c ∷ text) + 2) rest
block_step o n c text rest true is e more = absurd (let t : false ≡ true = ap (λ x. if x then false else has_no_end text) (sym is) ∙ e in cc)
block_step o n c text rest false is e more =
    ap (λ x. gap (if x then Closing else Block) (opened_at (if x then Closing else Block) o n) (n + 1) (text ++ 42 ∷ 47 ∷ rest)) (ap (λ x. c == 42 && x) (begins_behind text (47 ∷ rest)) ∙ is)
    ∙ more (ap (λ x. if x then false else has_no_end text) (sym is) ∙ e) ∙ at_place Blank o (n + 1 + length text + 2) (n + length (c ∷ text) + 2) rest (omega arith)

-- a comment goes on up to its first `*/`
scan_block : (o n : ℕ) (text rest : List ℕ) → has_no_end text ≡ true → gap Block o n (text ++ 42 ∷ 47 ∷ rest) ≡ gap Blank o (n + length text + 2) rest
scan_block o n [] rest e = at_place Blank o (n + 1 + 1) (n + 0 + 2) rest (omega arith)
scan_block o n (c ∷ text) rest e = block_step o n c text rest (c == 42 && begins 47 text) refl e (λ h. scan_block o (n + 1) text rest h)

-- one piece
scan_piece : (o n : ℕ) (p : Piece) (rest : List ℕ) → is_piece p rest ≡ true → (opened : ℕ) × (gap Blank o n (piece_bytes p ++ rest) ≡ gap Blank opened (n + length (piece_bytes p)) rest)
scan_piece o n (blank c) rest e = (
  o,
  ap (λ x. elim (if x then Some Blank else if c == 35 then Some Line else if c == 47 && begins 47 rest then Some Slash else if c == 47 && begins 42 rest then Some Opening else None) [
    | None ↦ Ok n
    | Some next ↦ gap next (opened_at next o n) (n + 1) rest
  ]) e,
)
scan_piece o n (hash text) rest e = (o, whole_line o (n + 1) (n + length (35 ∷ text)) text rest e (omega arith))
scan_piece o n (slashes text) rest e = (o, whole_line o (n + 1 + 1) (n + length (47 ∷ 47 ∷ text)) text rest e (omega arith))
scan_piece o n (block text) rest e = (
  n,
  ap (gap Block n (n + 1 + 1)) (append_assoc text (42 ∷ 47 ∷ []) rest) ∙ scan_block n (n + 1 + 1) text rest e
      ∙ at_place Blank n (n + 1 + 1 + length text + 2) (n + length (piece_bytes (block text))) rest (omega (arith, length-append text (42 ∷ 47 ∷ []))),
)

-- a token, or nothing, stands behind
stops_before : (o n : ℕ) (behind : List ℕ) → first_between behind ≡ None → gap Blank o n behind ≡ Ok n
stops_before o n [] e = refl
stops_before o n (c ∷ cs) e = ap (λ (x : Option Between). elim x [ None ↦ Ok n | Some next ↦ gap next (opened_at next o n) (n + 1) cs ]) e

scan_pieces : (o n : ℕ) (ps : List Piece) (behind : List ℕ) → are_pieces ps behind ≡ true → first_between behind ≡ None → gap Blank o n (pieces_bytes ps ++ behind) ≡ Ok (n + length (pieces_bytes ps))
scan_pieces o n [] behind e none = stops_before o n behind none ∙ ap Ok (let k : n ≡ n + 0 = omega arith in k)
scan_pieces o n (p ∷ ps) behind e none =
    let t : (is_piece p (pieces_bytes ps ++ behind) ≡ true) × (are_pieces ps behind ≡ true) = and_parts (is_piece p (pieces_bytes ps ++ behind)) (are_pieces ps behind) e in
    let first = scan_piece o n p (pieces_bytes ps ++ behind) t.0 in
    ap (gap Blank o n) (append_assoc (piece_bytes p) (pieces_bytes ps) behind) ∙ first.1 ∙ scan_pieces first.0 (n + length (piece_bytes p)) ps behind t.1 none
    ∙ ap Ok (let k : n + length (piece_bytes p) + length (pieces_bytes ps) ≡ n + length (piece_bytes p ++ pieces_bytes ps) = omega (arith, length-append (piece_bytes p) (pieces_bytes ps)) in k)

pub gap_is_whole : (bytes behind : List ℕ) → IsGap bytes behind → first_between behind ≡ None → gap Blank 0 0 (bytes ++ behind) ≡ Ok (length bytes)
gap_is_whole bytes behind g none =
    subst (λ (t : List ℕ). gap Blank 0 0 (t ++ behind) ≡ Ok (length t)) g.written
    (scan_pieces 0 0 g.pieces behind g.good none ∙ ap Ok (let k : 0 + length (pieces_bytes g.pieces) ≡ length (pieces_bytes g.pieces) = omega arith in k))

apart : (r : Result ℕ ℕ) → r ≡ Ok 5 → r ≡ Ok 9 → ⊥
apart r e f = cc

-- the `x` begins a token
pub has_token : IsGap (codes "#a/*\nx */") [] → ⊥
has_token g = apart (gap Blank 0 0 (codes "#a/*\nx */")) refl (gap_is_whole (codes "#a/*\nx */") [] g refl)

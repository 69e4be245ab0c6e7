-- Lists of pieces between brackets, and lines, are cut into the tokens of their parts.
use Rattle.std.proofs.Common.{◌≡◌, ℕ, ◌+◌, true, List, [], ◌∷◌, ◌++◌, append_assoc, append-nil, length, map, ap, sym, refl}
use Rattle.std.specs.Prelude.{codes}
use Rattle.sdf_values.specs.Print.{blanks}
use Rattle.value_texts.specs.Cuts.{Said, IsCut, Cuts}
use Rattle.value_texts.specs.Follows.{may_follow, anything}
use Rattle.value_texts.specs.Lists.{Piece, AreCut, text_of, said_by, more_texts, listed_texts, bracketed_text, line_text}
use Rattle.value_texts.specs.ValueWords.{more_said, listed_said, open_bracket, close_bracket, comma}
use Rattle.value_texts.proofs.Pieces.{both_cut}
use Rattle.value_texts.proofs.TokenCuts as cut
use Rattle.value_texts.proofs.TokenCuts.{recut}

more_follow : (ps : List Piece) (rest : List ℕ) → may_follow ((more_texts (map text_of ps) ++ 93 ∷ []) ++ rest) ≡ true
more_follow [] rest = refl
more_follow (p ∷ ps) rest = refl

more_cut : (ps : List Piece) → AreCut ps → (at : ℕ) (rest : List ℕ) → IsCut at (more_texts (map text_of ps) ++ 93 ∷ []) (more_said (map said_by ps) ++ close_bracket ∷ []) rest
more_cut [] are at rest = cut.close_bracket_cut at rest
more_cut (p ∷ ps) are at rest =
    let more : List ℕ = more_texts (map text_of ps) ++ 93 ∷ [] in
    let words : List Said = more_said (map said_by ps) ++ close_bracket ∷ [] in
    recut at (44 ∷ 32 ∷ (p.0 ++ more)) (more_texts (map text_of (p ∷ ps)) ++ 93 ∷ []) (comma ∷ (p.1 ++ words)) (more_said (map said_by (p ∷ ps)) ++ close_bracket ∷ []) rest
    (ap (λ t. 44 ∷ 32 ∷ t) (sym (append_assoc p.0 (more_texts (map text_of ps)) (93 ∷ []))))
    (ap (λ t. comma ∷ t) (sym (append_assoc p.1 (more_said (map said_by ps)) (close_bracket ∷ []))))
    (both_cut at (codes ",") (32 ∷ (p.0 ++ more)) (comma ∷ []) (p.1 ++ words) rest (cut.comma_cut at ((32 ∷ (p.0 ++ more)) ++ rest))
    (both_cut (at + 1) (codes " ") (p.0 ++ more) [] (p.1 ++ words) rest (cut.space_cut (at + 1) ((p.0 ++ more) ++ rest))
    (both_cut (at + 1 + 1) p.0 more p.1 words rest (are.0 (at + 1 + 1) (more ++ rest) (more_follow ps rest))
    (more_cut ps are.1 (at + 1 + 1 + length p.0) rest))))

listed_cut : (ps : List Piece) → AreCut ps → (at : ℕ) (rest : List ℕ) → IsCut at (listed_texts (map text_of ps) ++ 93 ∷ []) (listed_said (map said_by ps) ++ close_bracket ∷ []) rest
listed_cut [] are at rest = cut.close_bracket_cut at rest
listed_cut (p ∷ ps) are at rest =
    let more : List ℕ = more_texts (map text_of ps) ++ 93 ∷ [] in
    let words : List Said = more_said (map said_by ps) ++ close_bracket ∷ [] in
    recut at (p.0 ++ more) (listed_texts (map text_of (p ∷ ps)) ++ 93 ∷ []) (p.1 ++ words) (listed_said (map said_by (p ∷ ps)) ++ close_bracket ∷ []) rest
    (sym (append_assoc p.0 (more_texts (map text_of ps)) (93 ∷ [])))
    (sym (append_assoc p.1 (more_said (map said_by ps)) (close_bracket ∷ [])))
    (both_cut at p.0 more p.1 words rest (are.0 at (more ++ rest) (more_follow ps rest)) (more_cut ps are.1 (at + length p.0) rest))

pub bracketed_cut : (ps : List Piece) → AreCut ps → Cuts (bracketed_text (map text_of ps)) (open_bracket ∷ listed_said (map said_by ps) ++ close_bracket ∷ []) anything
bracketed_cut ps are at rest h =
    both_cut at (codes "[") (listed_texts (map text_of ps) ++ codes "]") (open_bracket ∷ []) (listed_said (map said_by ps) ++ close_bracket ∷ []) rest
    (cut.open_bracket_cut at ((listed_texts (map text_of ps) ++ codes "]") ++ rest)) (listed_cut ps are (at + 1) rest)

pub line_cut : (level : ℕ) (text : List ℕ) (said : List Said) → Cuts text said may_follow → Cuts (line_text level text) said anything
line_cut level text said is at rest h =
    recut at (blanks level ++ (text ++ codes "\n")) (line_text level text) (said ++ []) said rest (sym (append_assoc (blanks level) text (codes "\n"))) (append-nil said)
    (both_cut at (blanks level) (text ++ codes "\n") [] (said ++ []) rest (cut.blanks_cut level at ((text ++ codes "\n") ++ rest))
    (both_cut (at + length (blanks level)) text (codes "\n") said [] rest (is (at + length (blanks level)) (10 ∷ rest) refl)
    (cut.line_feed_cut (at + length (blanks level) + length text) rest)))

-- Texts that are cut while they are walked over.
use Rattle.std.proofs.Common.{◌≡◌, ℕ, ◌+◌, ◌-◌, ◌<◌, ◌≤◌, ◌==◌, List, [], ◌∷◌, ◌++◌, length, take, drop, get_or, true, false, refl, ap, sym, ◌∙◌, arith, append_assoc, append-nil, suc}
use Rattle.std.proofs.Math.Seq.{take-suc}
use Rattle.std.proofs.lemmas.List.{at_drop_more, at_drop_all, take_all, length-drop, get_or-drop}
use Rattle.session_script.specs.Pieces.{onto, pieces_of}

-- bytes before the first piece
abbrev pub glue : List ℕ → List (List ℕ) → List (List ℕ)
glue [] ps = ps
glue (c ∷ cs) ps = onto c (glue cs ps)

pub glue-push : (cs : List ℕ) (c : ℕ) (ps : List (List ℕ)) → glue (cs ++ c ∷ []) ps ≡ glue cs (onto c ps)
glue-push [] c ps = refl
glue-push (x ∷ cs) c ps = ap (onto x) (glue-push cs c ps)

pub glue-first : (cs p : List ℕ) (ps : List (List ℕ)) → glue cs (p ∷ ps) ≡ (cs ++ p) ∷ ps
glue-first [] p ps = refl
glue-first (x ∷ cs) p ps = ap (onto x) (glue-first cs p ps)

pub pieces-nil : (s : ℕ) → pieces_of s [] ≡ [] ∷ []
unfolding pieces_of
pieces-nil s = refl

pub pieces-cut : (s c : ℕ) (cs : List ℕ) → (c == s) ≡ true → pieces_of s (c ∷ cs) ≡ [] ∷ pieces_of s cs
unfolding pieces_of
pieces-cut s c cs e = rw (e, pieces_of) refl

pub pieces-more : (s c : ℕ) (cs : List ℕ) → (c == s) ≡ false → pieces_of s (c ∷ cs) ≡ onto c (pieces_of s cs)
unfolding pieces_of
pieces-more s c cs e = rw (e, pieces_of) refl

-- what a walk over a text has cut, and the piece that is open
pub record Cuts (s start i : ℕ) (text : List ℕ) (pieces : List (List ℕ)) : Type 0 where
  pub before : start ≤ i
  pub within : i ≤ length text
  pub whole : pieces ++ glue (take (i - start) (drop start text)) (pieces_of s (drop i text)) ≡ pieces_of s text

-- one byte more of a part
pub take_next : (text : List ℕ) (start i : ℕ) → start ≤ i → i < length text → take (i + 1 - start) (drop start text) ≡ take (i - start) (drop start text) ++ get_or text i 0 ∷ []
take_next text start i before within =
    let n = i - start in
    let e : i + 1 - start ≡ suc n = omega arith in
    let at : start + n ≡ i = omega arith in
    let fits : n < length (drop start text) = omega (arith, length-drop start text) in
    ap (λ (k : ℕ). take k (drop start text)) e ∙ take-suc (drop start text) n 0 fits ∙ ap (λ (x : ℕ). take n (drop start text) ++ x ∷ []) (get_or-drop start text n 0 ∙ ap (λ (k : ℕ). get_or text k 0) at)

pub cuts_more : (s start i : ℕ) (text : List ℕ) (pieces : List (List ℕ)) → Cuts s start i text pieces → i < length text → (get_or text i 0 == s) ≡ false → Cuts s start (i + 1) text pieces
cuts_more s start i text pieces k within e = record {
  before = omega (arith, k.before);
  within = omega arith;
  whole =
      let here : pieces_of s (drop i text) ≡ onto (get_or text i 0) (pieces_of s (drop (i + 1) text)) = at_drop_more (pieces_of s) text i 0 within ∙ pieces-more s (get_or text i 0) (drop (i + 1) text) e in
      let joined = glue-push (take (i - start) (drop start text)) (get_or text i 0) (pieces_of s (drop (i + 1) text)) in
      ap (λ (l : List ℕ). pieces ++ glue l (pieces_of s (drop (i + 1) text))) (take_next text start i k.before within)
      ∙ ap (λ (ps : List (List ℕ)). pieces ++ ps) (joined ∙ ap (glue (take (i - start) (drop start text))) (sym here)) ∙ k.whole;
}

pub cuts_here : (s start i : ℕ) (text : List ℕ) (pieces : List (List ℕ)) → Cuts s start i text pieces → i < length text → (get_or text i 0 == s) ≡ true
    → Cuts s (i + 1) (i + 1) text (pieces ++ take (i - start) (drop start text) ∷ [])
cuts_here s start i text pieces k within e =
    let piece = take (i - start) (drop start text) in
    let rest = pieces_of s (drop (i + 1) text) in
    record {
      before = omega arith;
      within = omega arith;
      whole =
          let here : pieces_of s (drop i text) ≡ [] ∷ rest = at_drop_more (pieces_of s) text i 0 within ∙ pieces-cut s (get_or text i 0) (drop (i + 1) text) e in
          let none : i + 1 - (i + 1) ≡ 0 = omega arith in
          let first : glue piece ([] ∷ rest) ≡ piece ∷ rest = glue-first piece [] rest ∙ ap (λ (l : List ℕ). l ∷ rest) (append-nil piece) in
          ap (λ (n : ℕ). (pieces ++ piece ∷ []) ++ glue (take n (drop (i + 1) text)) rest) none
          ∙ append_assoc pieces (piece ∷ []) rest
          ∙ ap (λ (ps : List (List ℕ)). pieces ++ ps) (sym (ap (glue piece) here ∙ first)) ∙ k.whole;
    }

pub cuts_end : (s start i : ℕ) (text : List ℕ) (pieces : List (List ℕ)) → Cuts s start i text pieces → length text ≤ i → pieces ++ drop start text ∷ [] ≡ pieces_of s text
cuts_end s start i text pieces k past =
    let piece = drop start text in
    let all : take (i - start) piece ≡ piece = take_all (i - start) piece (omega (arith, length-drop start text, k.within)) in
    let here : pieces_of s (drop i text) ≡ [] ∷ [] = at_drop_all (pieces_of s) text i past ∙ pieces-nil s in
    let one : glue piece ([] ∷ []) ≡ piece ∷ [] = glue-first piece [] [] ∙ ap (λ (l : List ℕ). l ∷ []) (append-nil piece) in
    ap (λ (ps : List (List ℕ)). pieces ++ ps) (sym (ap (λ (l : List ℕ). glue l (pieces_of s (drop i text))) all ∙ ap (glue piece) here ∙ one)) ∙ k.whole

-- all that is left from a place on
pub whole_rest : (start : ℕ) (text : List ℕ) → take (length text - start) (drop start text) ≡ drop start text
whole_rest start text = take_all (length text - start) (drop start text) (omega (arith, length-drop start text))

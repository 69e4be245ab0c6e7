-- What stands between tokens, one byte further on.
use Rattle.std.proofs.Common.{◌≡◌, ◌∙◌, ℕ, ◌+◌, ◌&&◌, ◌==◌, Bool, true, false, List, [], ◌∷◌, Option, Some, None, Result, Ok, Err, ap, sym, refl, subst}
use Rattle.std.specs.Prelude.{if◌then◌else◌}
use Rattle.usda_lexer.specs.declared.blanks.Between.{Between}
use Rattle.usda_lexer.specs.declared.blanks.Between.TheVariants.{Blank, Slash, Line, Opening, Block, Closing}
use Rattle.usda_lexer.specs.Blanks.{is_blank, begins, between_after, opened_at, ended_between, gap}

abbrev pub up : Result ℕ ℕ → Result ℕ ℕ
up (Ok n) = Ok (n + 1)
up (Err n) = Err (n + 1)

-- within a block the place where it was opened moves along
abbrev pub Moves : Between → ℕ → ℕ → Type 0
Moves Blank o p = Unit {0}
Moves Slash o p = Unit {0}
Moves Line o p = Unit {0}
Moves Opening o p = p ≡ o + 1
Moves Block o p = p ≡ o + 1
Moves Closing o p = p ≡ o + 1

ended : (s : Between) (o p n : ℕ) → Moves s o p → ended_between s p (n + 1) ≡ up (ended_between s o n)
ended Blank o p n m = refl
ended Slash o p n m = refl
ended Line o p n m = refl
ended Opening o p n m = ap Err m
ended Block o p n m = ap Err m
ended Closing o p n m = ap Err m

-- a comment opens no block
outside : Between → Bool
outside Blank = true
outside Slash = true
outside Line = true
outside Opening = true
outside Block = false
outside Closing = false

outside_moves : (next : Between) (o p n : ℕ) → outside next ≡ true → Moves next (opened_at next o n) (opened_at next p (n + 1))
unfolding outside
outside_moves Blank o p n h = tt
outside_moves Slash o p n h = tt
outside_moves Line o p n h = tt
outside_moves Opening o p n h = refl
outside_moves Block o p n h = absurd cc
outside_moves Closing o p n h = absurd cc

one_of : (b1 b2 b3 b4 : Bool) (next : Between) → (if b1 then Some Blank else if b2 then Some Line else if b3 then Some Slash else if b4 then Some Opening else None) ≡ Some next → outside next ≡ true
unfolding outside
one_of true b2 b3 b4 next e = (let same : Blank ≡ next = cc e in sym (ap outside same))
one_of false true b3 b4 next e = (let same : Line ≡ next = cc e in sym (ap outside same))
one_of false false true b4 next e = (let same : Slash ≡ next = cc e in sym (ap outside same))
one_of false false false true next e = (let same : Opening ≡ next = cc e in sym (ap outside same))
one_of false false false false next e = absurd cc

within : (s : Between) (b : Bool) (x y next : Between) (o p n : ℕ) → (Moves x (opened_at x o n) (opened_at x p (n + 1))) → (Moves y (opened_at y o n) (opened_at y p (n + 1)))
    → Some (if b then x else y) ≡ Some next → Moves next (opened_at next o n) (opened_at next p (n + 1))
within s true x y next o p n mx my e = let same : x ≡ next = cc e in subst (λ (z : Between). Moves z (opened_at z o n) (opened_at z p (n + 1))) same mx
within s false x y next o p n mx my e = let same : y ≡ next = cc e in subst (λ (z : Between). Moves z (opened_at z o n) (opened_at z p (n + 1))) same my

step_moves : (s next : Between) (o p n c : ℕ) (cs : List ℕ) → Moves s o p → between_after s c cs ≡ Some next → Moves next (opened_at next o n) (opened_at next p (n + 1))
step_moves Blank next o p n c cs m e = outside_moves next o p n (one_of (is_blank c) (c == 35) (c == 47 && begins 47 cs) (c == 47 && begins 42 cs) next e)
step_moves Slash next o p n c cs m e = within Slash true Line Line next o p n tt tt e
step_moves Line next o p n c cs m e = within Line (c == 10) Blank Line next o p n tt tt e
step_moves Opening next o p n c cs m e = within Opening true Block Block next o p n m m e
step_moves Block next o p n c cs m e = within Block (c == 42 && begins 47 cs) Closing Block next o p n m m e
step_moves Closing next o p n c cs m e = within Closing true Blank Blank next o p n tt tt e

abbrev Followed : Between → ℕ → ℕ → List ℕ → Option Between → Result ℕ ℕ
Followed s o n cs r = elim r [ None ↦ Ok n | Some next ↦ gap next (opened_at next o n) (n + 1) cs ]

pub gap_up : (s : Between) (o p n : ℕ) (bytes : List ℕ) → Moves s o p → gap s p (n + 1) bytes ≡ up (gap s o n bytes)
gap_up s o p n [] m = ended s o p n m
gap_up s o p n (c ∷ cs) m = cases (between_after s c cs) refl (λ next mv. gap_up next (opened_at next o n) (opened_at next p (n + 1)) (n + 1) cs mv)
  where
    cases : (r : Option Between) → between_after s c cs ≡ r
        → ((next : Between) → Moves next (opened_at next o n) (opened_at next p (n + 1)) → gap next (opened_at next p (n + 1)) (n + 1 + 1) cs ≡ up (gap next (opened_at next o n) (n + 1) cs))
        → Followed s p (n + 1) cs r ≡ up (Followed s o n cs r)
    cases None e below = refl
    cases (Some next) e below = below next (step_moves s next o p n c cs m e)

blank_leads : (c : ℕ) (cs : List ℕ) → is_blank c ≡ true → between_after Blank c cs ≡ Some Blank
blank_leads c cs h = ap (λ b. if b then Some Blank else if c == 35 then Some Line else if c == 47 && begins 47 cs then Some Slash else if c == 47 && begins 42 cs then Some Opening else None) h

-- a blank in front
pub gap_blank : (c : ℕ) (cs : List ℕ) → is_blank c ≡ true → gap Blank 0 0 (c ∷ cs) ≡ up (gap Blank 0 0 cs)
gap_blank c cs h =
    ap (λ (r : Option Between). elim r [ None ↦ Ok 0 | Some next ↦ gap next (opened_at next 0 0) 1 cs ]) (blank_leads c cs h)
    ∙ gap_up Blank 0 0 0 cs tt

-- What the scan of blanks and comments goes over is blanks and comments.
use Rattle.std.proofs.Common.{◌≡◌, ◌∙◌, ℕ, zero, suc, ◌+◌, ◌<◌, ◌≤◌, Bool, true, false, ◌&&◌, ◌==◌, List, [], ◌∷◌, ◌++◌, take, drop, length, Option, Some, None, Result, Ok, Err, ap, sym, refl, subst, arith, ◌⊎◌, inl, inr, eqb-true, append_assoc}
use Rattle.std.specs.Prelude.{if◌then◌else◌}
use Rattle.std.proofs.lemmas.Bool.{and_parts}
pub use Rattle.std.proofs.lemmas.Bool.{and_parts as both}
use Rattle.usda_lexer.specs.declared.blanks.Between.{Between}
use Rattle.usda_lexer.specs.declared.blanks.Between.TheVariants.{Blank, Slash, Line, Opening, Block, Closing}
use Rattle.usda_lexer.specs.Blanks.{is_blank, begins, between_after, opened_at, ended_between, gap, IsGap, Piece, blank, hash, slashes, block, is_one_line, has_no_end, at_line_end, is_piece, piece_bytes, are_pieces}

empty_gap : (b : List ℕ) → IsGap [] b
empty_gap b = record { pieces = []; good = refl; written = refl }

one_more : (p : Piece) (bytes g b : List ℕ) → is_piece p (g ++ b) ≡ true → piece_bytes p ++ g ≡ bytes → IsGap g b → IsGap bytes b
one_more p bytes g b good is rest = record {
  pieces = p ∷ rest.pieces;
  good = ap (λ x. x && are_pieces rest.pieces b) (ap (λ t. is_piece p (t ++ b)) rest.written ∙ good) ∙ rest.good;
  written = ap (λ t. piece_bytes p ++ t) rest.written ∙ is;
}

-- a comment up to the end of its line, and what follows it
pub record IsLineRest (g b : List ℕ) : Type 0 where
  pub text : List ℕ
  pub rest : List ℕ
  pub good : (is_one_line text && at_line_end (rest ++ b)) ≡ true
  pub gap : IsGap rest b
  pub all : text ++ rest ≡ g

-- a comment up to its `*/`, and what follows it
pub record IsBlockRest (g b : List ℕ) : Type 0 where
  pub text : List ℕ
  pub rest : List ℕ
  pub no_end : has_no_end text ≡ true
  pub gap : IsGap rest b
  pub all : text ++ 42 ∷ 47 ∷ rest ≡ g

-- what may stand behind a place up to the end of the blanks and comments, of the bytes behind those
abbrev pub IsRest : Between → List ℕ → List ℕ → Type 0
IsRest Blank g b = IsGap g b
IsRest Slash h b = (g : List ℕ) × IsLineRest g b × (h ≡ 47 ∷ g)
IsRest Line g b = IsLineRest g b
IsRest Opening h b = (g : List ℕ) × IsBlockRest g b × (h ≡ 42 ∷ g)
IsRest Block g b = IsBlockRest g b
IsRest Closing h b = (g : List ℕ) × IsGap g b × (h ≡ 47 ∷ g)

-- the byte that is known to stand at a place
abbrev pub IsKnown : Between → List ℕ → Type 0
IsKnown Slash cs = begins 47 cs ≡ true
IsKnown Opening cs = begins 42 cs ≡ true
IsKnown Closing cs = begins 47 cs ≡ true
IsKnown state cs = Unit {0}

-- a rest, along an equation of places
moved : (s next : Between) (g b : List ℕ) → Some s ≡ Some next → IsRest next g b → IsRest s g b
moved s next g b e r = let f : s ≡ next = cc e in subst (λ (x : Between). IsRest x g b) (sym f) r

from_blank : (next : Between) (c : ℕ) (cs g b : List ℕ) (b1 b2 b3 b4 : Bool) → is_blank c ≡ b1 → (c == 35) ≡ b2 → (c == 47 && begins 47 cs) ≡ b3 → (c == 47 && begins 42 cs) ≡ b4
    → (if b1 then Some Blank else if b2 then Some Line else if b3 then Some Slash else if b4 then Some Opening else None) ≡ Some next → IsRest next g b → IsGap (c ∷ g) b
from_blank next c cs g b true b2 b3 b4 e1 e2 e3 e4 h r = one_more (blank c) (c ∷ g) g b e1 refl (moved Blank next g b h r)
from_blank next c cs g b false true b3 b4 e1 e2 e3 e4 h r =
    let l : IsLineRest g b = moved Line next g b h r in
    one_more (hash l.text) (c ∷ g) l.rest b l.good (ap (λ t. 35 ∷ t) l.all ∙ ap (λ x. x ∷ g) (sym (eqb-true c 35 e2))) l.gap
from_blank next c cs g b false false true b4 e1 e2 e3 e4 h r =
    let s : (t : List ℕ) × IsLineRest t b × (g ≡ 47 ∷ t) = moved Slash next g b h r in
    one_more (slashes s.1.text) (c ∷ g) s.1.rest b s.1.good
    (ap (λ t. 47 ∷ 47 ∷ t) s.1.all ∙ ap (λ t. 47 ∷ t) (sym s.2) ∙ ap (λ x. x ∷ g) (sym (eqb-true c 47 (and_parts _ _ e3).0))) s.1.gap
from_blank next c cs g b false false false true e1 e2 e3 e4 h r =
    let s : (t : List ℕ) × IsBlockRest t b × (g ≡ 42 ∷ t) = moved Opening next g b h r in
    one_more (block s.1.text) (c ∷ g) s.1.rest b s.1.no_end
    (ap (λ t. 47 ∷ 42 ∷ t) (append_assoc s.1.text (42 ∷ 47 ∷ []) s.1.rest) ∙ ap (λ t. 47 ∷ 42 ∷ t) s.1.all ∙ ap (λ t. 47 ∷ t) (sym s.2)
    ∙ ap (λ x. x ∷ g) (sym (eqb-true c 47 (and_parts _ _ e4).0))) s.1.gap
from_blank next c cs g b false false false false e1 e2 e3 e4 h r = absurd cc

in_line : (next : Between) (c : ℕ) (g b : List ℕ) (ends : Bool) → (c == 10) ≡ ends → Some (if ends then Blank else Line) ≡ Some next → IsRest next g b → IsLineRest (c ∷ g) b
in_line next c g b true e h r = record {
  text = [];
  rest = c ∷ g;
  good = e;
  gap = one_more (blank c) (c ∷ g) g b (let t : c ≡ 10 = eqb-true c 10 e in ap is_blank t) refl (moved Blank next g b h r);
  all = refl;
}
in_line next c g b false e h r =
    let l : IsLineRest g b = moved Line next g b h r in
    record {
      text = c ∷ l.text;
      rest = l.rest;
      good = ap (λ x. (if x then false else is_one_line l.text) && at_line_end (l.rest ++ b)) e ∙ l.good;
      gap = l.gap;
      all = ap (λ t. c ∷ t) l.all;
    }

begins_front : (d k : ℕ) (xs ys cs : List ℕ) → xs ++ ys ≡ take k cs → begins d xs ≡ true → begins d cs ≡ true
begins_front d k [] ys cs e h = absurd cc
begins_front d k (x ∷ xs) ys [] e h = absurd (empty k e)
  where
    empty : (k : ℕ) → x ∷ xs ++ ys ≡ take k [] → ⊥
    empty zero e = cc
    empty (suc k) e = cc
begins_front d zero (x ∷ xs) ys (c ∷ cs) e h = absurd cc
begins_front d (suc k) (x ∷ xs) ys (c ∷ cs) e h = let same : x ≡ c = cc e in ap (λ y. y == d) (sym same) ∙ h

no_star : (a b x : Bool) → (a && b) ≡ false → (x ≡ true → b ≡ true) → (a && x) ≡ false
no_star false b x e h = refl
no_star true b false e h = refl
no_star true b true e h = absurd (let t = h refl in cc)

in_block : (next : Between) (c k : ℕ) (cs g b : List ℕ) (ends : Bool) → g ≡ take k cs → (c == 42 && begins 47 cs) ≡ ends → Some (if ends then Closing else Block) ≡ Some next → IsRest next g b
    → IsBlockRest (c ∷ g) b
in_block next c k cs g b true front e h r =
    let s : (t : List ℕ) × IsGap t b × (g ≡ 47 ∷ t) = moved Closing next g b h r in
    record {
      text = [];
      rest = s.0;
      no_end = refl;
      gap = s.1;
      all = ap (λ t. 42 ∷ t) (sym s.2) ∙ ap (λ x. x ∷ g) (sym (eqb-true c 42 (and_parts _ _ e).0));
    }
in_block next c k cs g b false front e h r =
    let l : IsBlockRest g b = moved Block next g b h r in
    let none : (c == 42 && begins 47 l.text) ≡ false = no_star (c == 42) (begins 47 cs) (begins 47 l.text) e (begins_front 47 k l.text (42 ∷ 47 ∷ l.rest) cs (l.all ∙ front)) in
    record {
      text = c ∷ l.text;
      rest = l.rest;
      no_end = ap (λ x. if x then false else has_no_end l.text) none ∙ l.no_end;
      gap = l.gap;
      all = ap (λ t. c ∷ t) l.all;
    }

step_rest : (s next : Between) (c k : ℕ) (cs g b : List ℕ) → g ≡ take k cs → IsKnown s (c ∷ cs) → between_after s c cs ≡ Some next → IsRest next g b → IsRest s (c ∷ g) b
step_rest Blank next c k cs g b front known e r = from_blank next c cs g b (is_blank c) (c == 35) (c == 47 && begins 47 cs) (c == 47 && begins 42 cs) refl refl refl refl e r
step_rest Slash next c k cs g b front known e r = (g, moved Line next g b e r, ap (λ x. x ∷ g) (eqb-true c 47 known))
step_rest Line next c k cs g b front known e r = in_line next c g b (c == 10) refl e r
step_rest Opening next c k cs g b front known e r = (g, moved Block next g b e r, ap (λ x. x ∷ g) (eqb-true c 42 known))
step_rest Block next c k cs g b front known e r = in_block next c k cs g b (c == 42 && begins 47 cs) front refl e r
step_rest Closing next c k cs g b front known e r = (g, moved Blank next g b e r, ap (λ x. x ∷ g) (eqb-true c 47 known))

known_moved : (s next : Between) (cs : List ℕ) → Some s ≡ Some next → IsKnown s cs → IsKnown next cs
known_moved s next cs e k = let f : s ≡ next = cc e in subst (λ (x : Between). IsKnown x cs) f k

known_from_blank : (next : Between) (c : ℕ) (cs : List ℕ) (b1 b2 b3 b4 : Bool) → (c == 47 && begins 47 cs) ≡ b3 → (c == 47 && begins 42 cs) ≡ b4
    → (if b1 then Some Blank else if b2 then Some Line else if b3 then Some Slash else if b4 then Some Opening else None) ≡ Some next → IsKnown next cs
known_from_blank next c cs true b2 b3 b4 e3 e4 h = known_moved Blank next cs h tt
known_from_blank next c cs false true b3 b4 e3 e4 h = known_moved Line next cs h tt
known_from_blank next c cs false false true b4 e3 e4 h = known_moved Slash next cs h (and_parts _ _ e3).1
known_from_blank next c cs false false false true e3 e4 h = known_moved Opening next cs h (and_parts _ _ e4).1
known_from_blank next c cs false false false false e3 e4 h = absurd cc

known_line : (next : Between) (cs : List ℕ) (b : Bool) → Some (if b then Blank else Line) ≡ Some next → IsKnown next cs
known_line next cs true e = known_moved Blank next cs e tt
known_line next cs false e = known_moved Line next cs e tt

known_block : (next : Between) (c : ℕ) (cs : List ℕ) (b : Bool) → (c == 42 && begins 47 cs) ≡ b → Some (if b then Closing else Block) ≡ Some next → IsKnown next cs
known_block next c cs true e h = known_moved Closing next cs h (and_parts _ _ e).1
known_block next c cs false e h = known_moved Block next cs h tt

step_known : (s next : Between) (c : ℕ) (cs : List ℕ) → between_after s c cs ≡ Some next → IsKnown next cs
step_known Blank next c cs e = known_from_blank next c cs (is_blank c) (c == 35) (c == 47 && begins 47 cs) (c == 47 && begins 42 cs) refl refl e
step_known Slash next c cs e = known_moved Line next cs e tt
step_known Line next c cs e = known_line next cs (c == 10) e
step_known Opening next c cs e = known_moved Block next cs e tt
step_known Block next c cs e = known_block next c cs (c == 42 && begins 47 cs) refl e
step_known Closing next c cs e = known_moved Blank next cs e tt

-- blanks and comments up to a place k bytes on
abbrev pub Ends : Between → ℕ → List ℕ → ℕ → Type 0
Ends s n cs m = (k : ℕ) × (m ≡ n + k) × (k ≤ length cs) × IsRest s (take k cs) (drop k cs)

at_end : (s : Between) (o n m : ℕ) → IsKnown s [] → ended_between s o n ≡ Ok m → Ends s n [] m
at_end Blank o n m known e = let f : n ≡ m = cc e in (0, omega (arith, f), omega arith, empty_gap [])
at_end Slash o n m known e = absurd cc
at_end Line o n m known e =
    let f : n ≡ m = cc e in (0, omega (arith, f), omega arith, record { text = []; rest = []; good = refl; gap = empty_gap []; all = refl })
at_end Opening o n m known e = absurd cc
at_end Block o n m known e = absurd cc
at_end Closing o n m known e = absurd cc

stops : (s : Between) (c : ℕ) (cs : List ℕ) (n m : ℕ) → between_after s c cs ≡ None → n ≡ m → Ends s n (c ∷ cs) m
stops Blank c cs n m e f = (0, omega (arith, f), omega arith, empty_gap (c ∷ cs))
stops Slash c cs n m e f = absurd cc
stops Line c cs n m e f = absurd cc
stops Opening c cs n m e f = absurd cc
stops Block c cs n m e f = absurd cc
stops Closing c cs n m e f = absurd cc

goes_on : (s next : Between) (c n m : ℕ) (cs : List ℕ) → IsKnown s (c ∷ cs) → between_after s c cs ≡ Some next → Ends next (n + 1) cs m → Ends s n (c ∷ cs) m
goes_on s next c n m cs known e ends =
    (suc ends.0, omega (arith, ends.1), omega (arith, ends.2), step_rest s next c ends.0 cs (take ends.0 cs) (drop ends.0 cs) refl known e ends.3)

abbrev After : Option Between → ℕ → ℕ → List ℕ → Result ℕ ℕ
After after o n cs = elim after [ None ↦ Ok n | Some next ↦ gap next (opened_at next o n) (n + 1) cs ]

step_ok : (s : Between) (o n c m : ℕ) (cs : List ℕ) (after : Option Between) → between_after s c cs ≡ after → IsKnown s (c ∷ cs) → After after o n cs ≡ Ok m
    → ((next : Between) (p : ℕ) → IsKnown next cs → gap next p (n + 1) cs ≡ Ok m → Ends next (n + 1) cs m) → Ends s n (c ∷ cs) m
step_ok s o n c m cs None is known e more = stops s c cs n m is (let f : n ≡ m = cc e in f)
step_ok s o n c m cs (Some next) is known e more = goes_on s next c n m cs known is (more next (opened_at next o n) (step_known s next c cs is) e)

gap_ends : (s : Between) (o n : ℕ) (cs : List ℕ) (m : ℕ) → IsKnown s cs → gap s o n cs ≡ Ok m → Ends s n cs m
gap_ends s o n [] m known e = at_end s o n m known e
gap_ends s o n (c ∷ cs) m known e = step_ok s o n c m cs (between_after s c cs) refl known e (λ next p k h. gap_ends next p (n + 1) cs m k h)

-- the comment that is open at a place has no end
abbrev pub IsOpen : Between → Type 0
IsOpen Opening = Unit {0}
IsOpen Block = Unit {0}
IsOpen s = ⊥

abbrev pub Breaks : Between → ℕ → ℕ → List ℕ → ℕ → Type 0
Breaks s o n cs m = ((m ≡ o) × IsOpen s) ⊎ ((k : ℕ) × (m ≡ n + k) × (k < length cs) × IsRest s (take k cs) (drop k cs))

breaks_at_end : (s : Between) (o n m : ℕ) → IsKnown s [] → ended_between s o n ≡ Err m → Breaks s o n [] m
breaks_at_end Blank o n m known e = absurd cc
breaks_at_end Slash o n m known e = absurd cc
breaks_at_end Line o n m known e = absurd cc
breaks_at_end Opening o n m known e = absurd cc
breaks_at_end Block o n m known e = inl (let f : o ≡ m = cc e in sym f, tt)
breaks_at_end Closing o n m known e = absurd cc

-- only a place in no comment leads into one
opens : (s : Between) (c n m : ℕ) (cs : List ℕ) (o : ℕ) → between_after s c cs ≡ Some Opening → m ≡ n → Breaks s o n (c ∷ cs) m
opens Blank c n m cs o e f = inr (0, omega (arith, f), omega arith, empty_gap (c ∷ cs))
opens Slash c n m cs o e f = absurd cc
opens Line c n m cs o e f = absurd (line (c == 10) e)
  where
    line : (b : Bool) → Some (if b then Blank else Line) ≡ Some Opening → ⊥
    line true e = cc
    line false e = cc
opens Opening c n m cs o e f = absurd cc
opens Block c n m cs o e f = absurd (star (c == 42 && begins 47 cs) e)
  where
    star : (b : Bool) → Some (if b then Closing else Block) ≡ Some Opening → ⊥
    star true e = cc
    star false e = cc
opens Closing c n m cs o e f = absurd cc

no_block : (b1 b2 b3 b4 : Bool) → (if b1 then Some Blank else if b2 then Some Line else if b3 then Some Slash else if b4 then Some Opening else None) ≡ Some Block → ⊥
no_block true b2 b3 b4 e = cc
no_block false true b3 b4 e = cc
no_block false false true b4 e = cc
no_block false false false true e = cc
no_block false false false false e = cc

stays_open : (s : Between) (c n m : ℕ) (cs : List ℕ) (o : ℕ) → between_after s c cs ≡ Some Block → m ≡ o → Breaks s o n (c ∷ cs) m
stays_open Blank c n m cs o e f = absurd (no_block (is_blank c) (c == 35) (c == 47 && begins 47 cs) (c == 47 && begins 42 cs) e)
stays_open Slash c n m cs o e f = absurd cc
stays_open Line c n m cs o e f = absurd (line (c == 10) e)
  where
    line : (b : Bool) → Some (if b then Blank else Line) ≡ Some Block → ⊥
    line true e = cc
    line false e = cc
stays_open Opening c n m cs o e f = inl (f, tt)
stays_open Block c n m cs o e f = inl (f, tt)
stays_open Closing c n m cs o e f = absurd cc

broken : (s next : Between) (o n c m : ℕ) (cs : List ℕ) → between_after s c cs ≡ Some next → m ≡ opened_at next o n → IsOpen next → Breaks s o n (c ∷ cs) m
broken s Blank o n c m cs e f is = absurd is
broken s Slash o n c m cs e f is = absurd is
broken s Line o n c m cs e f is = absurd is
broken s Opening o n c m cs e f is = opens s c n m cs o e f
broken s Block o n c m cs e f is = stays_open s c n m cs o e f
broken s Closing o n c m cs e f is = absurd is

step_err : (s : Between) (o n c m : ℕ) (cs : List ℕ) (after : Option Between) → between_after s c cs ≡ after → IsKnown s (c ∷ cs) → After after o n cs ≡ Err m
    → ((next : Between) (p : ℕ) → IsKnown next cs → gap next p (n + 1) cs ≡ Err m → Breaks next p (n + 1) cs m) → Breaks s o n (c ∷ cs) m
step_err s o n c m cs None is known e more = absurd cc
step_err s o n c m cs (Some next) is known e more =
    elim (more next (opened_at next o n) (step_known s next c cs is) e) [
      | inl p ↦ broken s next o n c m cs is p.0 p.1
      | inr q ↦ inr (suc q.0, omega (arith, q.1), omega (arith, q.2), step_rest s next c q.0 cs (take q.0 cs) (drop q.0 cs) refl known is q.3)
    ]

gap_breaks : (s : Between) (o n : ℕ) (cs : List ℕ) (m : ℕ) → IsKnown s cs → gap s o n cs ≡ Err m → Breaks s o n cs m
gap_breaks s o n [] m known e = breaks_at_end s o n m known e
gap_breaks s o n (c ∷ cs) m known e = step_err s o n c m cs (between_after s c cs) refl known e (λ next p k h. gap_breaks next p (n + 1) cs m k h)

-- what the scan goes over is blanks and comments
pub gap_is : (bytes : List ℕ) (n : ℕ) → gap Blank 0 0 bytes ≡ Ok n → (n ≤ length bytes) × IsGap (take n bytes) (drop n bytes)
gap_is bytes n e =
    let ends : Ends Blank 0 bytes n = gap_ends Blank 0 0 bytes n tt e in
    let same : ends.0 ≡ n = omega (arith, ends.1) in
    (omega (arith, ends.1, ends.2), subst (λ (k : ℕ). IsGap (take k bytes) (drop k bytes)) same ends.3)

-- so is what stands before a comment without its end
pub gap_open : (bytes : List ℕ) (n : ℕ) → gap Blank 0 0 bytes ≡ Err n → (n < length bytes) × IsGap (take n bytes) (drop n bytes)
gap_open bytes n e =
    elim (gap_breaks Blank 0 0 bytes n tt e) [
      | inl p ↦ absurd p.1
      | inr q ↦ (let same : q.0 ≡ n = omega (arith, q.1) in (omega (arith, q.1, q.2), subst (λ (k : ℕ). IsGap (take k bytes) (drop k bytes)) same q.3))
    ]

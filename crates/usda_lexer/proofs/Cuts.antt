-- Where a text may be cut between its tokens.
use Rattle.std.proofs.Common.{◌≡◌, ◌∙◌, ℕ, ◌<◌, ◌+◌, ◌-◌, ◌&&◌, ◌==◌, Bool, true, false, List, [], ◌∷◌, length, drop, get_or, Some, None, Ok, Err, ap, sym, refl, subst, arith, eqb-true}
use Rattle.std.specs.Result.{IfOk}
use Rattle.std.specs.Prelude.{if◌then◌else◌}
use Rattle.std.specs.Str.{IsCharBoundary, IsUtf8, is_utf8}
use Rattle.std.proofs.lemmas.Bool.Decides.{nat_tests}
use Rattle.std.proofs.lemmas.Bool.{and_parts}
use Rattle.std.proofs.lemmas.List.{drop_more, get_or-drop}
use Rattle.std.proofs.lemmas.Str.{IsCharBoundary-after_ascii, IsUtf8-from_is_utf8}
use Rattle.usda_lexer.specs.declared.blanks.Between.{Between}
use Rattle.usda_lexer.specs.declared.blanks.Between.TheVariants.{Blank, Slash, Line, Opening, Block, Closing}
use Rattle.usda_lexer.specs.Blanks.{is_blank, begins, between_after, opened_at, gap}
use Rattle.usda_lexer.specs.Forms.{EndsIn}
use Rattle.usda_lexer.specs.Words.{Found}

pub not_utf8 : (bytes : List ℕ) → (IsUtf8 bytes → ⊥) → is_utf8 bytes ≡ false
not_utf8 bytes bad = test (is_utf8 bytes) refl
  where
    test : (b : Bool) → is_utf8 bytes ≡ b → b ≡ false
    test true e = absurd (bad (IsUtf8-from_is_utf8 bytes e))
    test false e = refl

-- the text may be cut at i, or may be when its comment has ended
abbrev pub MayCut : Between → List ℕ → ℕ → Type 0
MayCut Blank bytes i = IsCharBoundary bytes i
MayCut Closing bytes i = get_or bytes i 0 ≡ 47
MayCut state bytes i = Unit {0}

-- one byte more of blanks and comments
pub gap_step : (s next : Between) (o i : ℕ) (bytes : List ℕ) → i < length bytes → between_after s (get_or bytes i 0) (drop (i + 1) bytes) ≡ Some next
    → gap s o i (drop i bytes) ≡ gap next (opened_at next o i) (i + 1) (drop (i + 1) bytes)
gap_step s next o i bytes lt e =
    ap (gap s o i) (drop_more bytes i 0 lt)
    ∙ ap (λ a. elim a [ None ↦ Ok i | Some n ↦ gap n (opened_at n o i) (i + 1) (drop (i + 1) bytes) ]) e

leads_to_blank : (b1 b2 b3 b4 : Bool) → (if b1 then Some Blank else if b2 then Some Line else if b3 then Some Slash else if b4 then Some Opening else None) ≡ Some Blank → b1 ≡ true
leads_to_blank true b2 b3 b4 e = refl
leads_to_blank false true b3 b4 e = absurd cc
leads_to_blank false false true b4 e = absurd cc
leads_to_blank false false false true e = absurd cc
leads_to_blank false false false false e = absurd cc

leads_to_closing : (b1 b2 b3 b4 : Bool) → (if b1 then Some Blank else if b2 then Some Line else if b3 then Some Slash else if b4 then Some Opening else None) ≡ Some Closing → ⊥
leads_to_closing true b2 b3 b4 e = cc
leads_to_closing false true b3 b4 e = cc
leads_to_closing false false true b4 e = cc
leads_to_closing false false false true e = cc
leads_to_closing false false false false e = cc

pub blank_ascii : (c : ℕ) → is_blank c ≡ true → c < 128
blank_ascii c e = grind (arith, nat_tests)

line_ends : (c : ℕ) (b : Bool) → (c == 10) ≡ b → Some (if b then Blank else Line) ≡ Some Blank → c < 128
line_ends c true e h = omega (arith, eqb-true c 10 e)
line_ends c false e h = absurd cc

block_goes : (b : Bool) → Some (if b then Closing else Block) ≡ Some Blank → ⊥
block_goes true e = cc
block_goes false e = cc

-- a byte that leads out of a comment, or is a blank, is ASCII
ascii_before_blank : (s : Between) (c : ℕ) (cs bytes : List ℕ) (i : ℕ) → get_or bytes i 0 ≡ c → MayCut s bytes i → between_after s c cs ≡ Some Blank → c < 128
ascii_before_blank Blank c cs bytes i is cut e = blank_ascii c (leads_to_blank (is_blank c) (c == 35) (c == 47 && begins 47 cs) (c == 47 && begins 42 cs) e)
ascii_before_blank Slash c cs bytes i is cut e = absurd cc
ascii_before_blank Line c cs bytes i is cut e = line_ends c (c == 10) refl e
ascii_before_blank Opening c cs bytes i is cut e = absurd cc
ascii_before_blank Block c cs bytes i is cut e = absurd (block_goes (c == 42 && begins 47 cs) e)
ascii_before_blank Closing c cs bytes i is cut e = omega (arith, is, cut)

begins_at : (d : ℕ) (cs : List ℕ) → begins d cs ≡ true → get_or cs 0 0 ≡ d
begins_at d [] e = absurd cc
begins_at d (c ∷ cs) e = eqb-true c d e

line_closes : (b : Bool) → Some (if b then Blank else Line) ≡ Some Closing → ⊥
line_closes true e = cc
line_closes false e = cc

block_closes : (c : ℕ) (cs : List ℕ) (b : Bool) → (c == 42 && begins 47 cs) ≡ b → Some (if b then Closing else Block) ≡ Some Closing → get_or cs 0 0 ≡ 47
block_closes c cs true e h = begins_at 47 cs (and_parts _ _ e).1
block_closes c cs false e h = absurd cc

slash_behind : (s : Between) (c : ℕ) (cs : List ℕ) → between_after s c cs ≡ Some Closing → get_or cs 0 0 ≡ 47
slash_behind Blank c cs e = absurd (leads_to_closing (is_blank c) (c == 35) (c == 47 && begins 47 cs) (c == 47 && begins 42 cs) e)
slash_behind Slash c cs e = absurd cc
slash_behind Line c cs e = absurd (line_closes (c == 10) e)
slash_behind Opening c cs e = absurd cc
slash_behind Block c cs e = block_closes c cs (c == 42 && begins 47 cs) refl e
slash_behind Closing c cs e = absurd cc

pub cut_step : (s next : Between) (i : ℕ) (bytes : List ℕ) → IsUtf8 bytes → i < length bytes → MayCut s bytes i → between_after s (get_or bytes i 0) (drop (i + 1) bytes) ≡ Some next
    → MayCut next bytes (i + 1)
cut_step s Blank i bytes u lt cut e = IsCharBoundary-after_ascii bytes i u lt (ascii_before_blank s (get_or bytes i 0) (drop (i + 1) bytes) bytes i refl cut e)
cut_step s Slash i bytes u lt cut e = tt
cut_step s Line i bytes u lt cut e = tt
cut_step s Opening i bytes u lt cut e = tt
cut_step s Block i bytes u lt cut e = tt
cut_step s Closing i bytes u lt cut e =
    ap (λ k. get_or bytes k 0) (let k : i + 1 ≡ i + 1 + 0 = omega arith in k) ∙ sym (get_or-drop (i + 1) bytes 0 0) ∙ slash_behind s (get_or bytes i 0) (drop (i + 1) bytes) e

-- a text may be cut behind a token whose last byte is ASCII
pub ends_boundary : (text : List ℕ) (n : ℕ) → IsUtf8 text → EndsIn 0 text n → IsCharBoundary text n
ends_boundary text n u ends =
    let last : get_or text (n - 1) 0 < 128 = subst (λ (k : ℕ). get_or text k 0 < 128) (let e : n - 0 - 1 ≡ n - 1 = omega arith in e) ends.ascii in
    subst (λ (k : ℕ). IsCharBoundary text k) (let e : n - 1 + 1 ≡ n = omega (arith, ends.some) in e)
    (IsCharBoundary-after_ascii text (n - 1) u (omega (arith, ends.some, ends.inside)) last)

-- a token of the rest is one of the whole
pub ends_behind : (text : List ℕ) (k n : ℕ) → EndsIn 0 (drop k text) n → EndsIn 0 text (k + n)
ends_behind text k n ends = record {
  some = omega (arith, ends.some);
  inside = omega (arith, ends.some, ends.inside, Rattle.std.proofs.lemmas.List.length-drop k text);
  ascii = subst (λ (j : ℕ). get_or text j 0 < 128) (let e : k + (n - 0 - 1) ≡ k + n - 0 - 1 = omega (arith, ends.some) in e)
      (subst (λ (x : ℕ). x < 128) (get_or-drop k text (n - 0 - 1) 0) ends.ascii);
}

pub cut_after_first : (text rest : List ℕ) (x : ℕ) → IsUtf8 text → text ≡ x ∷ rest → x < 128 → IsCharBoundary text 1
cut_after_first text rest x u e ascii =
    IsCharBoundary-after_ascii text 0 u (subst (λ (t : List ℕ). 0 < length t) (sym e) (omega arith)) (subst (λ (t : List ℕ). get_or t 0 0 < 128) (sym e) ascii)

pub found_boundary : (r : Found) (text rest : List ℕ) (x : ℕ) → IsUtf8 text → text ≡ x ∷ rest → IfOk r (λ f. EndsIn 0 (x ∷ rest) f.1) → IfOk r (λ f. (0 < f.1) × IsCharBoundary text f.1)
found_boundary (Ok f) text rest x u e ends = (ends.some, ends_boundary text f.1 u (subst (λ (t : List ℕ). EndsIn 0 t f.1) (sym e) ends))
found_boundary (Err e) text rest x u is ends = tt

-- Whole lines, one behind the other.
use Rattle.std.proofs.Common.{◌≡◌, ◌∙◌, ℕ, ◌&&◌, Bool, true, false, List, [], ◌∷◌, ◌++◌, ap, sym, refl}
use Rattle.std.specs.List.{list_all, flat_map}
use Rattle.std.proofs.lemmas.Bool.{and_parts}
use Rattle.sdf_values.specs.Print.{blanks}
use Rattle.usda_writer.specs.Fields.{line}
use Rattle.usda_writer.specs.Texts.{metadata_block}
use Rattle.value_texts.specs.Cuts.{Said}
use Rattle.value_texts.specs.Follows.{anything, may_follow}
use Rattle.layer_texts.specs.Spelled.{IsSpelled, AreLines, is_nothing}
use Rattle.layer_texts.specs.FieldWords.{block_words}
use Rattle.layer_texts.proofs.Marks.{indent, line_feed, block_start, paren_end}
use Rattle.layer_texts.proofs.Spelled.{joined, then_more, silent, nothing, weaker}

pub nothing_in : {T : Type 0} (a b : List T) → is_nothing (a ++ b) ≡ (is_nothing a && is_nothing b)
nothing_in [] b = refl
nothing_in (x ∷ a) b = refl

pub some_end : {T : Type 0} (a : List T) (x : T) (b : List T) → is_nothing (a ++ x ∷ b) ≡ false
some_end [] x b = refl
some_end (y ∷ a) x b = refl

-- something between two
pub some_middle : {T : Type 0} (a : List T) (x : T) (m b : List T) → is_nothing ((a ++ (x ∷ m)) ++ b) ≡ false
some_middle [] x m b = refl
some_middle (y ∷ a) x m b = refl

-- a line at a level
pub line_spelled : {said : List Said} (level : ℕ) (text : List ℕ) → IsSpelled may_follow text said → IsSpelled anything (line level text) said
line_spelled level text p = silent (then_more (indent level) p) line_feed (λ rest k. refl)

pub one_line : {said : List Said} (level : ℕ) (text : List ℕ) → is_nothing said ≡ false → IsSpelled may_follow text said → AreLines (line level text) said
one_line level text some p = record { spelled = line_spelled level text p; both_some = some_end (blanks level ++ text) 10 [] ∙ sym some }

pub no_lines : AreLines [] []
no_lines = record { spelled = nothing anything; both_some = refl }

pub more_lines : {s t : List ℕ} {x y : List Said} → AreLines s x → AreLines t y → AreLines (s ++ t) (x ++ y)
more_lines {s = s} {t = t} {x = x} {y = y} p q = record {
  spelled = then_more p.spelled q.spelled;
  both_some = nothing_in s t ∙ ap (λ b. b && is_nothing t) p.both_some ∙ ap (λ b. is_nothing x && b) q.both_some ∙ sym (nothing_in x y);
}

pub all_lines : {T : Type 0} (f : T → List ℕ) (g : T → List Said) (w : T → Bool) → ((x : T) → w x ≡ true → AreLines (f x) (g x)) → (xs : List T) → list_all w xs ≡ true → AreLines (flat_map f xs) (flat_map g xs)
all_lines f g w each [] h = no_lines
all_lines f g w each (x ∷ xs) h = let p = and_parts (w x) (list_all w xs) h in more_lines (each x p.0) (all_lines f g w each xs p.1)

-- metadata between brackets, where there is any
pub block_spelled : (level : ℕ) (text : List ℕ) (said : List Said) → AreLines text said → IsSpelled may_follow (metadata_block level text) (block_words said)
block_spelled level [] [] p = nothing may_follow
block_spelled level [] (w ∷ ws) p = absurd (let e = p.both_some in cc)
block_spelled level (c ∷ cs) [] p = absurd (let e = p.both_some in cc)
block_spelled level (c ∷ cs) (w ∷ ws) p = weaker (joined (silent (then_more block_start p.spelled) (indent level) (λ rest k. refl)) paren_end (λ rest k. refl))

-- a block begins with a blank
pub block_follows : (level : ℕ) (text rest : List ℕ) → may_follow rest ≡ true → may_follow (metadata_block level text ++ rest) ≡ true
block_follows level [] rest k = k
block_follows level (c ∷ cs) rest k = refl

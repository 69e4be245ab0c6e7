-- Texts that compare as one, and what nodes say of variants.
use Rattle.std.proofs.Common.{◌≡◌, ap, refl, Bool, true, false, ◌==◌, ◌&&◌, List, [], ◌∷◌}
use Rattle.std.specs.Cmp.Lexicographic.{pointwise}
use Rattle.plain_data.specs.contracts.text.TextPartialEq.TheImpl.{ghosts as text_eq}
use Rattle.composition.specs.Texts.{Text, same_text, find_at}
use Rattle.std.specs.Prelude.{map, filter_map}
use Rattle.composition.specs.Paths.{limits}
use Rattle.composition.specs.Trees as defined
use Rattle.composition.specs.Trees.{is_overgrown}
use Rattle.composition.specs.Strength.{sites}
use Rattle.composition.specs.Compose.{sets_met, first_selection, decided}
use Rattle.list_ops.specs.ListEdits.{firsts, without}
use Rattle.prim_trees.specs.declared.tree.Tree.{Tree, out-Tree}
use Rattle.prim_trees.specs.Meant.{meant}
use Rattle.prim_trees.specs.Unfolded.{here_is}
use Rattle.site_order.specs.Said.{sets_of, selected_at}

-- the derived equality of texts is the test of them
pub text_test : (a b : Text) → pointwise ◌==◌ a b ≡ same_text a b
text_test [] [] = refl
text_test [] (y ∷ b) = refl
text_test (x ∷ a) [] = refl
text_test (x ∷ a) (y ∷ b) = by_first (x == y) (text_test a b)
  where
    by_first : (t : Bool) → pointwise ◌==◌ a b ≡ same_text a b → (t && pointwise ◌==◌ a b) ≡ (elim t as (λ _. Bool) [ true ↦ same_text a b | false ↦ false ])
    by_first true h = h
    by_first false h = refl

pub firsts_are : (ts : List Text) → firsts text_eq.eq ts ≡ firsts same_text ts
firsts_are ts i = firsts (λ a b. text_test a b i) ts

pub sets_are : (t : Tree) → sets_of (meant t) ≡ (out-Tree t).here.sets
sets_are t i = (here_is t i).sets

pub selected_is : (set : Text) (t : Tree) → selected_at set (meant t) ≡ find_at same_text set (out-Tree t).here.selections
selected_is set t i = find_at same_text set (here_is t i).selections

pub decided_is : (t : defined.Tree) (cs : List (Text × Text)) → is_overgrown t ≡ false
    → decided limits t cs ≡ filter_map (first_selection limits (sites limits t)) (without same_text (sets_met limits t) (map (λ c. c.0) cs))
decided_is t cs h =
    ap (λ (b : Bool). elim b as (λ _. List (Text × Text)) [
      | true ↦ []
      | false ↦ filter_map (first_selection limits (sites limits t)) (without same_text (sets_met limits t) (map (λ c. c.0) cs))
    ]) h

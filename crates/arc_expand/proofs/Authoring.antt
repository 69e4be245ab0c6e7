-- What is authored, from opinions on.
use Rattle.std.proofs.Common.{◌≡◌, ◌∙◌, sym, ap, refl, Bool, true, false, not, IsTrue, ◌↔◌, List, [], ◌∷◌, map, reverse, Option}
use Rattle.std.specs.List.{filter_map, list_any, All}
use Rattle.std.specs.Option.{is_some, unwrap_or}
use Rattle.std.proofs.lemmas.List.Elements.{All-weaker}
use Rattle.sdf_values.specs.Scales.{Offset}
use Rattle.list_ops.specs.declared.op.ListOp.{ListOp}
use Rattle.list_ops.specs.ListEdits.{folded}
use Rattle.path_maps.specs.declared.kind.ArcKind.{ArcKind}
use Rattle.composition.specs.Texts.{Text, same_text}
use Rattle.composition.specs.Paths.{Path, limits}
use Rattle.composition.specs.World.{World, StackName}
use Rattle.composition.specs.Arcs.{Opinion, Item, Authored, opinions_at, gives, same_item, strongest_folded, edits_of, arcs_of, variant_sets_of, selections_of, is_empty}
use Rattle.layer_stack.specs.Meant.{defined_stack}
use Rattle.layer_stack.specs.declared.stacks.LayerStack.{LayerStack}
use Rattle.arc_expand.specs.Authoring.{IsStackOf, opinion_of, opinions_in, edit_of, edits, folded_items, authored_by, authored_in, authored, sets_in, variant_sets, selections, has_spec}
use Rattle.arc_expand.specs.Authors.{author_in}
use Rattle.arc_expand.proofs.Given.{folded_given}
use Rattle.arc_expand.proofs.Noting.{author_is, author_there}
use Rattle.arc_expand.proofs.Outcomes.{outcome_agrees}
use Rattle.arc_expand.specs.SameItems.{item_itself}

abbrev here : World → StackName → Path → List Opinion
here w s q = opinions_at limits w (defined_stack w s) q

pub opinions_are : (w : World) (s : LayerStack) (q : Path) → IsStackOf w s → opinions_in w s.layers q ≡ opinions_at limits w (defined_stack w s.name) q
unfolding opinion_of
opinions_are w s q is = ap (λ (layers : List (Text × Offset)). filter_map (opinion_of w q) layers) is.layers

-- each item of the fold has an author among those that `authors` tells
pub authors_there : (es : List (Text × ListOp Item)) (authors : Item → Option Text) → ((x : Item) → authors x ≡ author_in es x)
    → All (λ i. is_some (authors i) ≡ true) (folded_items es)
unfolding folded_items
authors_there es authors tells =
    All-weaker (λ i. list_any (λ e. gives same_item e.1 i) es ≡ true) (λ i. is_some (authors i) ≡ true)
    (λ i given. ap (λ (a : Option Text). is_some a) (tells i) ∙ (author_there es i ∙ given))
    (strongest_folded same_item (map (λ e. e.1) es)) (folded_given same_item item_itself es)

pub authored_is : (w : World) (s : StackName) (k : ArcKind) (os : List Opinion) (authors : Item → Option Text) → ((x : Item) → authors x ≡ author_in (edits k os) x)
    → map (authored_by w s authors) (folded_items (edits k os)) ≡ authored_in w s os k
unfolding authored_in authored_by edit_of folded_items
authored_is w s k os authors tells =
    ap (λ (f : Item → Authored). map f (strongest_folded same_item (map (λ e. e.1) (edits_of limits w k os))))
    (λ j. λ i. record {
      item = i;
      author = (ap (λ (a : Option Text). unwrap_or a []) (tells i) ∙ author_is w (edits_of limits w k os) i) j;
      outcome = sym (outcome_agrees w s i) j;
    })

pub sets_are : (os : List Opinion) → folded same_text (reverse (map (λ o. o.spec.arcs.variant_sets) os)) ≡ sets_in os
unfolding sets_in
sets_are os = refl

module _ (w : World) (s : StackName) (q : Path) where
  pub authored_here : (k : ArcKind) (os : List Opinion) → os ≡ here w s q → authored_in w s os k ≡ authored w s q k
  unfolding authored_in authored
  authored_here k os is = ap (λ (x : List Opinion). arcs_of limits w s x k) is

  pub variant_sets_are : (os : List Opinion) → os ≡ here w s q → sets_in os ≡ variant_sets w s q
  unfolding sets_in variant_sets
  variant_sets_are os is = ap (λ (x : List Opinion). variant_sets_of x) is

  pub selections_are : (os : List Opinion) → os ≡ here w s q → selections_of os ≡ selections w s q
  unfolding selections
  selections_are os is = ap (λ (x : List Opinion). selections_of x) is

  pub has_spec_is : (os : List Opinion) → os ≡ here w s q → not (is_empty os) ≡ has_spec w s q
  unfolding has_spec
  has_spec_is os is = ap (λ (x : List Opinion). not (is_empty x)) is

pub empty_told : {T : Type 0} (xs : List T) (r : Bool) → IsTrue r ↔ (xs ≡ []) → r ≡ is_empty xs
empty_told [] true told = refl
empty_told [] false told = told.1 refl
empty_told (x ∷ xs) true told = absurd (let no : (x ∷ xs) ≡ [] = told.0 refl in cc)
empty_told (x ∷ xs) false told = refl

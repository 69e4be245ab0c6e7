-- Marks of the names that are listed and of those that stand on the chain.
use Rattle.std.proofs.Common.{◌≡◌, ◌∙◌, sym, ap, refl, subst, Bool, true, false, cond, ◌||◌, List, [], ◌∷◌, ◌++◌, Option, Some}
use Rattle.std.specs.List.{list_any}
use Rattle.std.specs.Option.{is_some}
use Rattle.std.proofs.lemmas.List.Folds.{list_any-append}
use Rattle.sdf_values.specs.Scales.{Offset}
use Rattle.composition.specs.Texts.{Text, same_text}
use Rattle.layer_set.specs.Named.{at_name, with_name}
use Rattle.layer_stack.specs.Visiting.{Marks, is_on, is_above, mark, is_among, Marked}
use Rattle.layer_stack.proofs.Names.{at_with}
use Rattle.sdf_specs.proofs.PathLemmas.{not_both}
use Rattle.composition.proofs.Same.{same_text_same}

on_mark : (a b : Bool) → is_on (mark a b) ≡ a
on_mark true b = refl
on_mark false true = refl
on_mark false false = refl

there_mark : (a b : Bool) → (a ≡ true → b ≡ true) → is_some (mark a b) ≡ b
there_mark true true h = refl
there_mark true false h = sym (h refl)
there_mark false true h = refl
there_mark false false h = refl

open_mark : (t a b : Bool) → cond t (Some true) (mark a b) ≡ mark (t || a) (b || (t || false))
open_mark true a b = refl
open_mark false a true = refl
open_mark false a false = refl

close_mark : (t a b : Bool) → (t ≡ true → (a ≡ false) × (b ≡ true)) → cond t (Some false) (mark (t || a) b) ≡ mark a b
close_mark true true b h = not_both refl (h refl).0
close_mark true false true h = refl
close_mark true false false h = not_both (h refl).1 refl
close_mark false a b h = refl

contrary : (a b : Bool) → (a ≡ true → b ≡ true) → b ≡ false → a ≡ false
contrary true b h f = not_both (h refl) f
contrary false b h f = refl

module _ (marks : Marks) (chain : List Text) (layers : List (Text × Offset)) (m : Marked marks chain layers) where
  pub above_told : (name : Text) → is_above marks name ≡ list_any (same_text name) chain
  above_told name = ap is_on (m.tell name) ∙ on_mark (list_any (same_text name) chain) (is_among name layers)

  pub listed_told : (name : Text) → is_some (at_name name marks) ≡ is_among name layers
  listed_told name = ap (λ (o : Option Bool). is_some o) (m.tell name) ∙ there_mark (list_any (same_text name) chain) (is_among name layers) (m.within name)

  -- after a layer is listed, and stands on the chain
  pub opened : (name : Text) (o : Offset) → is_among name layers ≡ false → Marked (with_name name true marks) (name ∷ chain) (layers ++ (name, o) ∷ [])
  opened name o new = record {
    apart = (contrary (list_any (same_text name) chain) (is_among name layers) (m.within name) new, m.apart);
    within = λ q above. among q (also (same_text q name) (list_any (same_text q) chain) (is_among q layers) (m.within q) above);
    tell = λ q.
        at_with q name true marks
        ∙ (ap (λ (x : Option Bool). cond (same_text q name) (Some true) x) (m.tell q)
        ∙ (open_mark (same_text q name) (list_any (same_text q) chain) (is_among q layers)
        ∙ ap (mark (same_text q name || list_any (same_text q) chain)) (sym (appended q))));
  }
    where
      appended : (q : Text) → is_among q (layers ++ (name, o) ∷ []) ≡ (is_among q layers || (same_text q name || false))
      appended q = list_any-append (λ (e : Text × Offset). same_text q e.0) layers ((name, o) ∷ [])

      among : (q : Text) → (is_among q layers || (same_text q name || false)) ≡ true → is_among q (layers ++ (name, o) ∷ []) ≡ true
      among q h = appended q ∙ h

      also : (t a b : Bool) → (a ≡ true → b ≡ true) → (t || a) ≡ true → (b || (t || false)) ≡ true
      also true a true h s = refl
      also true a false h s = refl
      also false a true h s = refl
      also false a false h s = not_both (h s) refl

-- after the innermost layer of the chain has been visited
pub closed : (marks : Marks) (name : Text) (chain : List Text) (layers : List (Text × Offset)) → Marked marks (name ∷ chain) layers
    → Marked (with_name name false marks) chain layers
closed marks name chain layers m = record {
  apart = m.apart.1;
  within = λ q above. m.within q (more (same_text q name) (list_any (same_text q) chain) above);
  tell = λ q.
      at_with q name false marks
      ∙ (ap (λ (x : Option Bool). cond (same_text q name) (Some false) x) (m.tell q)
      ∙ close_mark (same_text q name) (list_any (same_text q) chain) (is_among q layers) (here q));
}
  where
    more : (t a : Bool) → a ≡ true → (t || a) ≡ true
    more true a h = refl
    more false a h = h

    here : (q : Text) → same_text q name ≡ true → (list_any (same_text q) chain ≡ false) × (is_among q layers ≡ true)
    here q t =
        let one : q ≡ name = same_text_same q name t in
        (ap (λ (x : Text). list_any (same_text x) chain) one ∙ m.apart.0, m.within q (ap (λ (b : Bool). b || list_any (same_text q) chain) t))

-- the same marks, chain and layers by other names
pub carried : (marks marks' : Marks) (chain chain' : List Text) (layers layers' : List (Text × Offset)) → marks' ≡ marks → chain' ≡ chain → layers' ≡ layers
    → Marked marks chain layers → Marked marks' chain' layers'
carried marks marks' chain chain' layers layers' m c l told =
    subst (λ (x : Marks). Marked x chain' layers') (sym m) (subst (λ (x : List Text). Marked marks x layers') (sym c) (subst (λ (x : List (Text × Offset)). Marked marks chain x) (sym l) told))

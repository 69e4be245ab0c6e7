-- What a change of a layer leaves: every key of the layer that is of none of some parts.
use Rattle.std.proofs.Common.{◌≡◌, ◌∙◌, sym, ap, refl, subst, ℕ, true, false, not, ◌||◌, ◌&&◌, List, [], ◌∷◌, Option, Some, None}
use Rattle.std.specs.BTreeMap.{is_at}
use Rattle.std.specs.Cmp.Lexicographic.{nat_list_cmp_total}
use Rattle.std.specs.Option.{option_map}
use Rattle.std.specs.Ordering.{is_eq, ordering_then}
use Rattle.std.specs.declared.cmp.Ordering.{Ordering}
use Rattle.std.specs.declared.cmp.Ordering.TheVariants.{Equal}
use Rattle.std.proofs.lemmas.Bool.{or_right}
use Rattle.std.proofs.lemmas.Cmp.{tied_itself}
use Rattle.sdf_paths.specs.Order.{text_cmp, path_cmp}
use Rattle.sdf_paths.specs.DerivedOrder.{path_cmp_same}
use Rattle.sdf_paths.specs.Paths.{has_prefix}
use Rattle.sdf_paths.specs.declared.element.Element.{Element}
use Rattle.sdf_specs.specs.Layers.{LayerTable, spec_at, with_spec, with_spec_for, without_tree}
use Rattle.sdf_specs.proofs.PathLemmas.{path_cmp_itself, not_both}
use Rattle.spec_parts.specs.declared.spec.ArcPart.{ArcPart}
use Rattle.spec_parts.specs.declared.spec.BodyPart.{BodyPart}
use Rattle.spec_parts.specs.declared.spec.Spec.{Spec}
use Rattle.layer_set.specs.LookUps.{layer_head, root_names}
use Rattle.layer_set.specs.declared.key.Key.{Key}
use Rattle.layer_set.specs.declared.key.Key.TheVariants.{Head, Arcs, Body, Load}
use Rattle.layer_edit.specs.Places.{with_changed, changed_spec}
use Rattle.layer_edit.proofs.Found.{not_at, is_key, other_put, other_exchanged, same_exchanged, kept_found}
use Rattle.key_sets.specs.Order.{key_cmp}
use Rattle.layer_changes.specs.Parts.{is_in, is_among, is_below}
use Rattle.layer_changes.specs.declared.part.Part.{Part}
use Rattle.layer_changes.specs.declared.part.Part.TheVariants.{At}
use Rattle.composition.proofs.Tests.{by_test}

-- ---- keys of parts

pub text_itself : (t : List ℕ) → text_cmp t t ≡ Equal
text_itself t = tied_itself nat_list_cmp_total t

pub key_itself : (k : Key) → key_cmp k k ≡ Equal
key_itself (Head a) = text_itself a
key_itself (Arcs a p) = ap (λ (o : Ordering). ordering_then o (path_cmp p p)) (text_itself a) ∙ path_cmp_itself p
key_itself (Body a p) = ap (λ (o : Ordering). ordering_then o (path_cmp p p)) (text_itself a) ∙ path_cmp_itself p
key_itself (Load p) = path_cmp_itself p

pub one_of : (k : Key) (parts : List Part) → is_among (At k ∷ parts) k ≡ true
one_of k parts = ap (λ (o : Ordering). is_eq o || is_among parts k) (key_itself k)

pub more_of : (part : Part) (parts : List Part) (k : Key) → is_among parts k ≡ true → is_among (part ∷ parts) k ≡ true
more_of part parts k h = or_right (is_in part k) (is_among parts k) h

pub below_front : (name : List ℕ) (front q : List Element) → has_prefix front q ≡ true → is_below name front name q ≡ true
below_front name front q h = ap (λ (o : Ordering). is_eq o && has_prefix front q) (text_itself name) ∙ h

-- ---- what is left

abbrev pub arcs_at : List Element → LayerTable → Option ArcPart
arcs_at q layer = option_map (λ s. s.arcs) (spec_at q layer.specs)

abbrev pub body_at : List Element → LayerTable → Option BodyPart
body_at q layer = option_map (λ s. s.body) (spec_at q layer.specs)

-- from the first layer to the second all is left but what is of the parts
pub record Leaves (name : List ℕ) (parts : List Part) (l m : LayerTable) : Type 0 where
  pub head : is_among parts (Head name) ≡ false → layer_head m.head ≡ layer_head l.head
  pub roots : is_among parts (Body name []) ≡ false → root_names m.head ≡ root_names l.head
  pub arcs : (q : List Element) → is_among parts (Arcs name q) ≡ false → arcs_at q m ≡ arcs_at q l
  pub body : (q : List Element) → is_among parts (Body name q) ≡ false → body_at q m ≡ body_at q l

-- ---- specs that are changed

module _ {A : Type 0} (f : Spec → A) (path : List Element) (change : Spec → Spec) (layer : LayerTable) (kept : (s : Spec) → f (change s) ≡ f s) (q : List Element) where
  abbrev f_at : LayerTable → Option A
  f_at l = option_map f (spec_at q l.specs)

  there : (s : Spec) → spec_at path layer.specs ≡ Some s → q ≡ path → option_map f (spec_at q (with_spec_for path (change s) layer.specs)) ≡ f_at layer
  there s at e =
      ap (λ (p : List Element). option_map f (spec_at p (with_spec_for path (change s) layer.specs))) e
      ∙ ap (option_map f) (same_exchanged (is_at (path_cmp path)) s (change s) layer.specs at)
      ∙ ap Some (kept s)
      ∙ sym (ap (option_map f) at)
      ∙ sym (ap (λ (p : List Element). option_map f (spec_at p layer.specs)) e)

  by_spec : (o : Option Spec) → spec_at path layer.specs ≡ o → f_at (with_changed o path change layer) ≡ f_at layer
  by_spec None at = refl
  by_spec (Some s) at =
      by_test (is_at (path_cmp q) path)
      (λ on. there s at (is_key path_cmp path_cmp_same q path on))
      (λ off. ap (option_map f) (other_exchanged path_cmp path_cmp_same q path (change s) layer.specs off))

  -- a part of specs that the change keeps is left
  pub part_kept : f_at (changed_spec path change layer) ≡ f_at layer
  unfolding changed_spec
  part_kept = by_spec (spec_at path layer.specs) refl

module _ (path : List Element) (change : Spec → Spec) (layer : LayerTable) where
  others : (q : List Element) → is_at (path_cmp q) path ≡ false → (o : Option Spec) → spec_at q (with_changed o path change layer).specs ≡ spec_at q layer.specs
  others q off None = refl
  others q off (Some s) = other_exchanged path_cmp path_cmp_same q path (change s) layer.specs off

  -- the specs at other paths are left
  pub other_left : (q : List Element) → (q ≡ path → ⊥) → spec_at q (changed_spec path change layer).specs ≡ spec_at q layer.specs
  unfolding changed_spec
  other_left q apart = others q (not_at path_cmp path_cmp_same q path apart) (spec_at path layer.specs)

  heads : (o : Option Spec) → (with_changed o path change layer).head ≡ layer.head
  heads None = refl
  heads (Some s) = refl

  pub head_left : (changed_spec path change layer).head ≡ layer.head
  unfolding changed_spec
  head_left = heads (spec_at path layer.specs)

module _ (name : List ℕ) (parts : List Part) where
  pub still : (l : LayerTable) → Leaves name parts l l
  still l = record { head = λ h. refl; roots = λ h. refl; arcs = λ q h. refl; body = λ q h. refl }

  pub both_left : (l m n : LayerTable) → Leaves name parts l m → Leaves name parts m n → Leaves name parts l n
  both_left l m n a b = record {
    head = λ h. b.head h ∙ a.head h;
    roots = λ h. b.roots h ∙ a.roots h;
    arcs = λ q h. b.arcs q h ∙ a.arcs q h;
    body = λ q h. b.body q h ∙ a.body q h;
  }

  no_arcs : (q path : List Element) → is_among parts (Arcs name path) ≡ true → is_among parts (Arcs name q) ≡ false → q ≡ path → ⊥
  no_arcs q path in' out e = not_both in' (subst (λ (p : List Element). is_among parts (Arcs name p) ≡ false) e out)

  no_body : (q path : List Element) → is_among parts (Body name path) ≡ true → is_among parts (Body name q) ≡ false → q ≡ path → ⊥
  no_body q path in' out e = not_both in' (subst (λ (p : List Element). is_among parts (Body name p) ≡ false) e out)

  -- a change of a spec that keeps its arcs
  pub body_changed : (path : List Element) (change : Spec → Spec) (l : LayerTable) → is_among parts (Body name path) ≡ true → ((s : Spec) → (change s).arcs ≡ s.arcs)
      → Leaves name parts l (changed_spec path change l)
  body_changed path change l in' kept = record {
    head = λ h. ap layer_head (head_left path change l);
    roots = λ h. ap root_names (head_left path change l);
    arcs = λ q h. part_kept (λ (s : Spec). s.arcs) path change l kept q;
    body = λ q h. ap (option_map (λ (s : Spec). s.body)) (other_left path change l q (no_body q path in' h));
  }

  -- a change of a spec that keeps its body
  pub arcs_changed : (path : List Element) (change : Spec → Spec) (l : LayerTable) → is_among parts (Arcs name path) ≡ true → ((s : Spec) → (change s).body ≡ s.body)
      → Leaves name parts l (changed_spec path change l)
  arcs_changed path change l in' kept = record {
    head = λ h. ap layer_head (head_left path change l);
    roots = λ h. ap root_names (head_left path change l);
    arcs = λ q h. ap (option_map (λ (s : Spec). s.arcs)) (other_left path change l q (no_arcs q path in' h));
    body = λ q h. part_kept (λ (s : Spec). s.body) path change l kept q;
  }

  -- a spec that is put
  pub spec_put : (path : List Element) (spec : Spec) (l : LayerTable) → is_among parts (Arcs name path) ≡ true → is_among parts (Body name path) ≡ true
      → Leaves name parts l (record l { specs = with_spec path spec l.specs })
  spec_put path spec l in_arcs in_body = record {
    head = λ h. refl;
    roots = λ h. refl;
    arcs = λ q h. ap (option_map (λ (s : Spec). s.arcs)) (other_put path_cmp path_cmp_same q path spec l.specs (not_at path_cmp path_cmp_same q path (no_arcs q path in_arcs h)));
    body = λ q h. ap (option_map (λ (s : Spec). s.body)) (other_put path_cmp path_cmp_same q path spec l.specs (not_at path_cmp path_cmp_same q path (no_body q path in_body h)));
  }

  -- specs that are taken away with all below them
  module _ (front : List Element) (l : LayerTable) where
    outside : (q : List Element) → (has_prefix front q ≡ true → ⊥) → spec_at q (without_tree front l.specs) ≡ spec_at q l.specs
    outside q out = kept_found (is_at (path_cmp q)) (λ (e : List Element × Spec). not (has_prefix front e.0)) l.specs all
      where
        all : (e : List Element × Spec) → is_at (path_cmp q) e.0 ≡ true → not (has_prefix front e.0) ≡ true
        all e here =
            let one : q ≡ e.0 = is_key path_cmp path_cmp_same q e.0 here in
            by_test (has_prefix front e.0) (λ on. absurd (out (ap (has_prefix front) one ∙ on))) (λ off. ap not off)

    pub tree_gone : ((q : List Element) → has_prefix front q ≡ true → is_among parts (Arcs name q) ≡ true) → ((q : List Element) → has_prefix front q ≡ true → is_among parts (Body name q) ≡ true)
        → Leaves name parts l (record l { specs = without_tree front l.specs })
    tree_gone in_arcs in_body = record {
      head = λ h. refl;
      roots = λ h. refl;
      arcs = λ q h. ap (option_map (λ (s : Spec). s.arcs)) (outside q (λ on. not_both (in_arcs q on) h));
      body = λ q h. ap (option_map (λ (s : Spec). s.body)) (outside q (λ on. not_both (in_body q on) h));
    }

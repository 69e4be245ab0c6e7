-- Each operation leaves the value of every key that is not of its parts.
use Rattle.std.proofs.Common.{◌≡◌, ◌∙◌, sym, ap, refl, subst, ℕ, Bool, true, false, ◌||◌, ◌&&◌, List, [], ◌∷◌, Option, Some, None, Ok, Err}
use Rattle.std.specs.BTreeMap.{is_at}
use Rattle.std.specs.Option.{option_map}
use Rattle.std.proofs.lemmas.Map.Lookups.{exact_bytes}
use Rattle.sdf_paths.specs.Order.{text_cmp, path_cmp}
use Rattle.sdf_paths.specs.DerivedOrder.{path_cmp_same}
use Rattle.sdf_paths.specs.declared.element.Element.{Element}
use Rattle.sdf_specs.specs.Layers.{LayerTable}
use Rattle.spec_parts.specs.declared.spec.Spec.{Spec}
use Rattle.composition.specs.World.{Heading, headed}
use Rattle.composition.specs.Keys.{head_value, arcs_value, body_value, roots_value, load_value}
use Rattle.layer_set.specs.LookUps.{heading_of, roots_of, stands_at}
use Rattle.layer_set.specs.Named.{name_cmp}
use Rattle.layer_set.specs.Rules.{RuleEntries, rule_at, with_rule}
use Rattle.layer_set.specs.Worlds.{WorldData, held_or_absent, held_at, spec_of, present_layer, with_held}
use Rattle.layer_set.specs.declared.held.Held.{Held}
use Rattle.layer_set.specs.declared.held.Held.TheVariants.{Present, Absent, Broken}
use Rattle.layer_set.specs.declared.key.Key.{Key}
use Rattle.layer_set.specs.declared.key.Key.TheVariants.{Head, Arcs, Body, Load}
use Rattle.layer_edit.specs.Outcomes.{Made, given}
use Rattle.edit_batches.specs.declared.fault.EditFault.TheVariants.{NoLayer}
use Rattle.edit_batches.specs.declared.op.Op.{Op}
use Rattle.edit_batches.specs.declared.op.Op.TheVariants as op
use Rattle.layer_edit.proofs.Found.{is_key, other_put, same_put, other_removed}
use Rattle.layer_apply.specs.Edits.{put_back, in_layer, new_layer, layer_added, layer_put, rule_set, edited}
use Rattle.layer_changes.specs.Parts.{is_among, of_layer, of_rule, parts_of}
use Rattle.layer_changes.specs.declared.part.Part.{Part}
use Rattle.layer_changes.proofs.Left.{Leaves, text_itself}
use Rattle.layer_changes.proofs.Layers as layers
use Rattle.composition.proofs.Tests.{by_test}

-- ---- what stands at names

module _ {A : Type 0} (f : Held → A) (name : List ℕ) (held : Held) (w : WorldData) (n : List ℕ) where
  put_there : held_at (with_held name held w) name ≡ held
  put_there = ap held_or_absent (same_put name_cmp exact_bytes text_itself name held w.layers)

  -- what is seen at a name is left if at the name that is put it is
  pub seen : (is_at (name_cmp n) name ≡ true → f held ≡ f (held_at w name)) → f (held_at (with_held name held w) n) ≡ f (held_at w n)
  seen same =
      by_test (is_at (name_cmp n) name)
      (λ on.
      let one : n ≡ name = is_key name_cmp exact_bytes n name on in
      ap (λ (m : List ℕ). f (held_at (with_held name held w) m)) one ∙ ap f put_there ∙ same on ∙ sym (ap (λ (m : List ℕ). f (held_at w m)) one))
      (λ off. ap (λ (o : Option Held). f (held_or_absent o)) (other_put name_cmp exact_bytes n name held w.layers off))

-- ---- one layer that is changed

module _ (name : List ℕ) (parts : List Part) (w : WorldData) (l m : LayerTable) (at : held_at w name ≡ Present l) (leaves : Leaves name parts l m) where
  abbrev after : WorldData
  after = with_held name (Present m) w

  at_it : {A : Type 0} (f : Held → A) → f (Present m) ≡ f (Present l) → f (Present m) ≡ f (held_at w name)
  at_it f e = e ∙ sym (ap f at)

  named : (make : List ℕ → Key) (n : List ℕ) → is_at (name_cmp n) name ≡ true → is_among parts (make n) ≡ false → is_among parts (make name) ≡ false
  named make n on h = subst (λ (x : List ℕ). is_among parts (make x) ≡ false) (is_key name_cmp exact_bytes n name on) h

  pub layer_stands : (k : Key) → is_among parts k ≡ false → stands_at after k ≡ stands_at w k
  layer_stands (Head n) h = ap (λ (x : Heading). head_value x w.root w.session) (seen heading_of name (Present m) w n (λ on. at_it heading_of (ap headed (leaves.head (named Head n on h)))))
  layer_stands (Arcs n []) h = refl
  layer_stands (Arcs n (e ∷ q)) h =
      let f = λ (held : Held). option_map (λ (s : Spec). s.arcs) (spec_of held (e ∷ q)) in
      ap arcs_value (seen f name (Present m) w n (λ on. at_it f (leaves.arcs (e ∷ q) (named (λ x. Arcs x (e ∷ q)) n on h))))
  layer_stands (Body n []) h = ap roots_value (seen roots_of name (Present m) w n (λ on. at_it roots_of (ap Some (leaves.roots (named (λ x. Body x []) n on h)))))
  layer_stands (Body n (e ∷ q)) h =
      let f = λ (held : Held). option_map (λ (s : Spec). s.body) (spec_of held (e ∷ q)) in
      ap body_value (seen f name (Present m) w n (λ on. at_it f (leaves.body (e ∷ q) (named (λ x. Body x (e ∷ q)) n on h))))
  layer_stands (Load q) h = refl

module _ (name : List ℕ) (parts : List Part) (change : LayerTable → Made LayerTable) (leaves : (l m : LayerTable) → change l ≡ Ok m → Leaves name parts l m) (w v : WorldData) (k : Key)
    (out : is_among parts k ≡ false) where
  by_made : (l : LayerTable) → held_at w name ≡ Present l → (made : Made LayerTable) → change l ≡ made → put_back name made w ≡ Ok v → stands_at v k ≡ stands_at w k
  by_made l at (Ok m) is h =
      let e : with_held name (Present m) w ≡ v = cc in
      ap (λ (u : WorldData). stands_at u k) (sym e) ∙ layer_stands name parts w l m at (leaves l m is) k out
  by_made l at (Err fault) is h = absurd cc

  by_held : (held : Held) → held_at w name ≡ held → given NoLayer (present_layer held) (λ layer. put_back name (change layer) w) ≡ Ok v → stands_at v k ≡ stands_at w k
  unfolding given
  by_held (Present l) at h = by_made l at (change l) refl h
  by_held Absent at h = absurd cc
  by_held (Broken refusal) at h = absurd cc

  pub in_layer_left : in_layer name change w ≡ Ok v → stands_at v k ≡ stands_at w k
  unfolding in_layer
  in_layer_left h = by_held (held_at w name) refl h

-- ---- whole layers

module _ (name : List ℕ) (held : Held) (w : WorldData) where
  clashes : {A : Type 0} (a b c : Bool) → a ≡ true → b ≡ true → (c || ((a && b) || false)) ≡ false → A
  clashes {A} true true true p q h = absurd cc
  clashes {A} true true false p q h = absurd cc
  clashes {A} true false c p q h = absurd cc
  clashes {A} false b c p q h = absurd cc

  clashes_first : {A : Type 0} (a b : Bool) → a ≡ true → (a || b) ≡ false → A
  clashes_first {A} true b p h = absurd cc
  clashes_first {A} false b p h = absurd cc

  pub whole_left : (k : Key) → is_among (of_layer name) k ≡ false → stands_at (with_held name held w) k ≡ stands_at w k
  whole_left (Head n) h = ap (λ (x : Heading). head_value x w.root w.session) (seen heading_of name held w n (λ on. clashes_first (is_at (text_cmp n) name) false on h))
  whole_left (Arcs n []) h = refl
  whole_left (Arcs n (e ∷ q)) h = ap arcs_value (seen (λ (x : Held). option_map (λ (s : Spec). s.arcs) (spec_of x (e ∷ q))) name held w n (λ on. clashes (is_at (text_cmp n) name) true false on refl h))
  whole_left (Body n []) h = ap roots_value (seen roots_of name held w n (λ on. clashes (is_at (text_cmp n) name) true false on refl h))
  whole_left (Body n (e ∷ q)) h = ap body_value (seen (λ (x : Held). option_map (λ (s : Spec). s.body) (spec_of x (e ∷ q))) name held w n (λ on. clashes (is_at (text_cmp n) name) true false on refl h))
  whole_left (Load q) h = refl

module _ (name : List ℕ) (w v : WorldData) (k : Key) (out : is_among (of_layer name) k ≡ false) where
  put_left : (held : Held) → with_held name held w ≡ v → stands_at v k ≡ stands_at w k
  put_left held e = ap (λ (u : WorldData). stands_at u k) (sym e) ∙ whole_left name held w k out

  by_new : (made : Made LayerTable) → put_back name made w ≡ Ok v → stands_at v k ≡ stands_at w k
  by_new (Ok layer) h = let e : with_held name (Present layer) w ≡ v = cc in put_left (Present layer) e
  by_new (Err fault) h = absurd cc

  pub added_left : (text : Option (List ℕ)) → layer_added name text w ≡ Ok v → stands_at v k ≡ stands_at w k
  unfolding layer_added
  added_left text h = by_new (new_layer text) (layers.passed _ _ v h)

  pub layer_put_left : (held : Held) → layer_put name held w ≡ Ok v → stands_at v k ≡ stands_at w k
  unfolding layer_put
  layer_put_left held h =
      let made : ◌≡◌ {A = Made WorldData} (Ok (with_held name held w)) (Ok v) = layers.passed _ _ v h in
      let e : with_held name held w ≡ v = cc in
      put_left held e

-- ---- load rules

rule_left : (path q : List Element) (rule : Option Bool) (rules : RuleEntries) → is_at (path_cmp q) path ≡ false → rule_at q (with_rule path rule rules) ≡ rule_at q rules
rule_left path q (Some r) rules off = other_put path_cmp path_cmp_same q path r rules off
rule_left path q None rules off = other_removed path_cmp path_cmp_same q path rules off

neither : (a : Bool) → (a || false) ≡ false → a ≡ false
neither true h = h
neither false h = h

rules_left : (path : List Element) (rule : Option Bool) (w : WorldData) (k : Key) → is_among (of_rule path) k ≡ false
    → stands_at (record w { rules = with_rule path rule w.rules }) k ≡ stands_at w k
rules_left path rule w (Head n) h = refl
rules_left path rule w (Arcs n []) h = refl
rules_left path rule w (Arcs n (e ∷ q)) h = refl
rules_left path rule w (Body n []) h = refl
rules_left path rule w (Body n (e ∷ q)) h = refl
rules_left path rule w (Load q) h = ap load_value (rule_left path q rule w.rules (neither (is_at (path_cmp q) path) h))

pub rule_set_left : (path : List Element) (rule : Option Bool) (w v : WorldData) (k : Key) → is_among (of_rule path) k ≡ false → rule_set path rule w ≡ Ok v → stands_at v k ≡ stands_at w k
unfolding rule_set
rule_set_left path rule w v k out h =
    let made : ◌≡◌ {A = Made WorldData} (Ok (record w { rules = with_rule path rule w.rules })) (Ok v) = layers.passed _ _ v h in
    let e : record w { rules = with_rule path rule w.rules } ≡ v = cc in
    ap (λ (u : WorldData). stands_at u k) (sym e) ∙ rules_left path rule w k out

-- ---- operations

pub op_left : (o : Op) (w v : WorldData) (k : Key) → is_among (parts_of o) k ≡ false → edited o w ≡ Ok v → stands_at v k ≡ stands_at w k
op_left (op.NewLayer layer text) w v k out h = added_left layer w v k out text h
op_left (op.AddPrim layer path specifier type_name) w v k out h = in_layer_left layer _ _ (layers.prim_left layer path specifier type_name) w v k out h
op_left (op.AddVariant layer path) w v k out h = in_layer_left layer _ _ (layers.variant_left layer path) w v k out h
op_left (op.AddAttribute layer path ty custom uniform) w v k out h = in_layer_left layer _ _ (layers.attribute_left layer path ty custom uniform) w v k out h
op_left (op.AddRelationship layer path custom) w v k out h = in_layer_left layer _ _ (layers.relationship_left layer path custom) w v k out h
op_left (op.Remove layer path) w v k out h = in_layer_left layer _ _ (layers.removed_left layer path) w v k out h
op_left (op.SetDefault layer path value) w v k out h = in_layer_left layer _ _ (layers.default_left layer path value) w v k out h
op_left (op.ClearDefault layer path) w v k out h = in_layer_left layer _ _ (layers.no_default_left layer path) w v k out h
op_left (op.SetSample layer path time value) w v k out h = in_layer_left layer _ _ (layers.sample_left layer path time value) w v k out h
op_left (op.ClearSample layer path time) w v k out h = in_layer_left layer _ _ (layers.no_sample_left layer path time) w v k out h
op_left (op.SetMeta layer path key value) w v k out h = in_layer_left layer _ _ (layers.meta_left layer path key value) w v k out h
op_left (op.ClearMeta layer path key) w v k out h = in_layer_left layer _ _ (layers.no_meta_left layer path key) w v k out h
op_left (op.SetList layer path edit list) w v k out h = in_layer_left layer _ _ (layers.list_left layer path edit list) w v k out h
op_left (op.Select layer path set variant) w v k out h = in_layer_left layer _ _ (layers.selection_left layer path set (Some variant)) w v k out h
op_left (op.Unselect layer path set) w v k out h = in_layer_left layer _ _ (layers.selection_left layer path set None) w v k out h
op_left (op.SetOrder layer path word names) w v k out h = in_layer_left layer _ _ (layers.order_left layer path word names) w v k out h
op_left (op.SetSublayers layer sublayers) w v k out h = in_layer_left layer _ _ (layers.sublayers_left layer sublayers) w v k out h
op_left (op.Load path) w v k out h = rule_set_left path (Some true) w v k out h
op_left (op.Unload path) w v k out h = rule_set_left path (Some false) w v k out h
op_left (op.Unrule path) w v k out h = rule_set_left path None w v k out h
op_left (op.PutLayer id held) w v k out h = layer_put_left id w v k out held h

-- Specs and properties that are taken out, changed and put back.
use Rattle.std.proofs.Common.{◌≡◌, ◌∙◌, sym, ap, refl, subst, Bool, cond, true, false, List, [], ◌∷◌, Option, Some, None, Result, Ok, Err, ℕ}
use Rattle.std.specs.Map.{lookup, set_value}
use Rattle.std.specs.BTreeMap.{is_at}
use Rattle.std.specs.Cmp.Lexicographic.{bytes_decides}
use Rattle.plain_data.specs.Exact.{text_same}
use Rattle.sdf_paths.specs.Order.{path_cmp}
use Rattle.sdf_paths.specs.declared.element.Element.{Element}
use Rattle.sdf_paths.specs.declared.element.Element.TheVariants.{Prim, Property as Named, Selection}
use Rattle.sdf_specs.specs.Layers.{LayerTable, SpecEntries, spec_at, with_spec_for}
use Rattle.spec_parts.specs.declared.spec.Head.{Head}
use Rattle.spec_parts.specs.declared.spec.Spec.{Spec}
use Rattle.std.specs.Prelude.{IfSome, IfOk, OnOk}
use Rattle.spec_properties.specs.Properties.{same_name, property_name, property_at, with_property, blank_relationship}
use Rattle.spec_properties.specs.declared.property.Property.{Property}
use Rattle.spec_properties.specs.declared.property.Property.TheVariants.{Attr, Rel}
use Rattle.layer_edit.specs.Places.{last_element, above, property_named, property_in, with_changed, changed_spec, with_properties, with_changed_property, changed_property}
use Rattle.layer_edit.specs.Changes.{property_changed, with_changed_in, spec_changed}
use Rattle.layer_edit.specs.declared.change.SpecChange.TheVariants as spec_change
use Rattle.layer_edit.specs.Fields.{with_order, reordered}
use Rattle.layer_edit.specs.Prims.{with_children, renamed}
use Rattle.layer_edit.specs.Properties.{named_property, with_new_property}
use Rattle.usda_fields.specs.declared.owner.OrderWord.{OrderWord}
use Rattle.layer_edit.specs.declared.change.PropertyChange.{PropertyChange}
use Rattle.layer_edit.specs.declared.change.PropertyChange.TheVariants as change
use Rattle.layer_edit.proofs.Found.{none_exchanged, exchanged_twice}
use Rattle.composition.proofs.Tests.{by_test}

-- ---- specs

abbrev layer_of : Head → SpecEntries → LayerTable
layer_of head specs = record { head = head; specs = specs }

pub changed_put : (path : List Element) (change : Spec → Spec) (old mid new : LayerTable) (taken spec : Spec)
    → Some taken ≡ spec_at path old.specs → ((s : Spec) → with_spec_for path s mid.specs ≡ with_spec_for path s old.specs) → mid.head ≡ old.head
    → spec ≡ change taken → new ≡ record mid { specs = with_spec_for path spec mid.specs } → new ≡ changed_spec path change old
unfolding changed_spec
changed_put path change old mid new taken spec at left head is put =
    put
    ∙ ap (λ (h : Head). layer_of h (with_spec_for path spec mid.specs)) head
    ∙ ap (layer_of old.head) (left spec ∙ ap (λ (s : Spec). with_spec_for path s old.specs) is)
    ∙ ap (λ (o : Option Spec). with_changed o path change old) at

pub unchanged : (path : List Element) (change : Spec → Spec) (old new : LayerTable) → None ≡ spec_at path old.specs → new ≡ old → new ≡ changed_spec path change old
unfolding changed_spec
unchanged path change old new at same = same ∙ ap (λ (o : Option Spec). with_changed o path change old) at

-- what is there may be put in its place
exchanged_same : {K V : Type 0} (test : K → Bool) (v : V) (es : List (K × V)) → lookup test es ≡ Some v → set_value test es v ≡ es
exchanged_same test v [] h = absurd cc
exchanged_same test v (e ∷ es) h =
    by_test (test e.0)
    (λ on.
    let f : Some e.1 ≡ Some v = sym (ap (λ (b : Bool). cond b (Some e.1) (lookup test es)) on) ∙ h in
    let is : v ≡ e.1 = cc in
    ap (λ (b : Bool). cond b ((e.0, v) ∷ es) (e ∷ set_value test es v)) on ∙ ap (λ (x : _). (e.0, x) ∷ es) is)
    (λ off.
    let rest : lookup test es ≡ Some v = sym (ap (λ (b : Bool). cond b (Some e.1) (lookup test es)) off) ∙ h in
    ap (λ (b : Bool). cond b ((e.0, v) ∷ es) (e ∷ set_value test es v)) off ∙ ap (λ (xs : List _). e ∷ xs) (exchanged_same test v es rest))

-- ---- properties of a layer

module _ (path : List Element) (change : PropertyChange) (layer : LayerTable) where
  abbrev in_spec : List ℕ → Spec → Spec
  in_spec name s = with_changed_in (property_at name s.body.properties) change s

  abbrev in_layer : Option Property → LayerTable
  in_layer p = with_changed_property p path (property_changed change) layer

  by_property : (name : List ℕ) (s : Spec) → spec_at (above path) layer.specs ≡ Some s → (p : Option Property) → property_at name s.body.properties ≡ p
      → record layer { specs = with_spec_for (above path) (with_changed_in p change s) layer.specs } ≡ in_layer p
  unfolding changed_spec
  by_property name s at None none = ap (layer_of layer.head) (exchanged_same (is_at (path_cmp (above path))) s layer.specs at)
  by_property name s at (Some p) some =
      sym (ap (λ (o : Option Spec). with_changed o (above path) (λ t. with_properties (with_property (property_changed change p) t.body.properties) t) layer) at)

  by_spec : (name : List ℕ) (o : Option Spec) → spec_at (above path) layer.specs ≡ o
      → with_changed o (above path) (λ s. with_changed_in (property_at name s.body.properties) change s) layer ≡ in_layer (property_named (Some (Named name)) o)
  by_spec name None at = refl
  by_spec name (Some s) at = by_property name s at (property_at name s.body.properties) refl

  pub named_changed : (name : List ℕ) → Some (Named name) ≡ last_element path
      → changed_spec (above path) (λ s. with_changed_in (property_at name s.body.properties) change s) layer ≡ changed_property path (property_changed change) layer
  unfolding changed_property property_in changed_spec
  named_changed name last =
      by_spec name (spec_at (above path) layer.specs) refl
      ∙ ap (λ (e : Option Element). in_layer (property_named e (spec_at (above path) layer.specs))) last

  not_named : (e : Option Element) (o : Option Spec) → ((name : List ℕ) → e ≡ Some (Named name) → ⊥) → property_named e o ≡ None
  not_named None o lacks = refl
  not_named (Some (Prim n)) o lacks = refl
  not_named (Some (Selection s v)) o lacks = refl
  not_named (Some (Named n)) o lacks = absurd (lacks n refl)

  pub none_changed : ((name : List ℕ) → last_element path ≡ Some (Named name) → ⊥) → layer ≡ changed_property path (property_changed change) layer
  unfolding changed_property property_in
  none_changed lacks = sym (ap in_layer (not_named (last_element path) (spec_at (above path) layer.specs) lacks))

-- ---- properties of a spec

same_itself : (name : List ℕ) → same_name name name ≡ true
same_itself name = (bytes_decides name name).1 refl

keeps_name : (c : PropertyChange) (p : Property) → property_name (property_changed c p) ≡ property_name p
keeps_name (change.Targets edit items) (Attr name ty custom uniform default samples connections meta) = refl
keeps_name (change.Targets edit items) (Rel name custom targets meta) = refl
keeps_name (change.Default v) (Attr name ty custom uniform default samples connections meta) = refl
keeps_name (change.Default v) (Rel name custom targets meta) = refl
keeps_name (change.Sample t v) (Attr name ty custom uniform default samples connections meta) = refl
keeps_name (change.Sample t v) (Rel name custom targets meta) = refl
keeps_name (change.NoSample t) (Attr name ty custom uniform default samples connections meta) = refl
keeps_name (change.NoSample t) (Rel name custom targets meta) = refl
keeps_name (change.Meta key v) (Attr name ty custom uniform default samples connections meta) = refl
keeps_name (change.Meta key v) (Rel name custom targets meta) = refl

found_name : (name : List ℕ) (ps : List Property) (p : Property) → property_at name ps ≡ Some p → property_name p ≡ name
found_name name [] p h = absurd cc
found_name name (q ∷ ps) p h =
    by_test (same_name name (property_name q))
    (λ on.
    let f : Some q ≡ Some p = sym (ap (λ (b : Bool). cond b (Some q) (property_at name ps)) on) ∙ h in
    let is : q ≡ p = cc in
    sym (text_same name (property_name q) on ∙ ap property_name is))
    (λ off. found_name name ps p (sym (ap (λ (b : Bool). cond b (Some q) (property_at name ps)) off) ∙ h))

put_over : (p q : Property) → property_name p ≡ property_name q → (ps : List Property) → with_property p (with_property q ps) ≡ with_property p ps
put_over p q same [] = ap (λ (b : Bool). cond b (p ∷ []) (q ∷ p ∷ [])) (ap (same_name (property_name p)) (sym same) ∙ same_itself (property_name p))
put_over p q same (r ∷ ps) =
    by_test (same_name (property_name q) (property_name r))
    (λ on.
    let there : same_name (property_name p) (property_name r) ≡ true = ap (λ (n : List ℕ). same_name n (property_name r)) same ∙ on in
    ap (λ (b : Bool). with_property p (cond b (q ∷ ps) (r ∷ with_property q ps))) on
    ∙ ap (λ (b : Bool). cond b (p ∷ ps) (q ∷ with_property p ps)) (ap (same_name (property_name p)) (sym same) ∙ same_itself (property_name p))
    ∙ sym (ap (λ (b : Bool). cond b (p ∷ ps) (r ∷ with_property p ps)) there))
    (λ off.
    let there : same_name (property_name p) (property_name r) ≡ false = ap (λ (n : List ℕ). same_name n (property_name r)) same ∙ off in
    ap (λ (b : Bool). with_property p (cond b (q ∷ ps) (r ∷ with_property q ps))) off
    ∙ ap (λ (b : Bool). cond b (p ∷ with_property q ps) (r ∷ with_property p (with_property q ps))) there
    ∙ ap (λ (xs : List Property). r ∷ xs) (put_over p q same ps)
    ∙ sym (ap (λ (b : Bool). cond b (p ∷ ps) (r ∷ with_property p ps)) there))

-- the changed property stands in the place of the one that was taken out for a blank
pub renewed : (c : PropertyChange) (name : List ℕ) (blank taken new : Property) (ps : List Property) → property_name blank ≡ name → Some taken ≡ property_at name ps → new ≡ property_changed c taken
    → with_property new (with_property blank ps) ≡ with_property (property_changed c taken) ps
renewed c name blank taken new ps called at is =
    let same : property_name new ≡ property_name blank = ap property_name is ∙ keeps_name c taken ∙ found_name name ps taken (sym at) ∙ sym called in
    put_over new blank same ps ∙ ap (λ (p : Property). with_property p ps) is

pub changed_in : (c : PropertyChange) (name : List ℕ) (s : Spec) (o : Option Property) (taken new : Property) (mid after : List Property) → o ≡ property_at name s.body.properties → o ≡ Some taken
    → IfSome o (λ _. mid ≡ with_property (blank_relationship name) s.body.properties) → new ≡ property_changed c taken → after ≡ with_property new mid
    → with_properties after s ≡ with_changed_in (property_at name s.body.properties) c s
changed_in c name s o taken new mid after at some left is put =
    let there : Some taken ≡ property_at name s.body.properties = sym some ∙ at in
    let blank : mid ≡ with_property (blank_relationship name) s.body.properties = subst (λ (x : Option Property). IfSome x (λ _. mid ≡ with_property (blank_relationship name) s.body.properties)) some left in
    ap (λ (ps : List Property). with_properties ps s) (put ∙ ap (with_property new) blank ∙ renewed c name (blank_relationship name) taken new s.body.properties refl there is)
    ∙ ap (λ (x : Option Property). with_changed_in x c s) there

pub taken_left : (path : List Element) (blank : Spec) (old new : LayerTable) → new ≡ record old { specs = with_spec_for path blank old.specs }
    → (s : Spec) → with_spec_for path s new.specs ≡ with_spec_for path s old.specs
taken_left path blank old new put s = ap (λ (l : LayerTable). with_spec_for path s l.specs) put ∙ exchanged_twice (is_at (path_cmp path)) blank s old.specs

-- ---- names in owners

pub renamed_below : (owner : List Element) (change : List (List ℕ) → List (List ℕ)) (layer : LayerTable) → (owner ≡ [] → ⊥) → changed_spec owner (with_children change) layer ≡ renamed owner change layer
renamed_below [] change layer below = absurd (below refl)
renamed_below (e ∷ owner) change layer below = refl

pub reordered_below : (path : List Element) (word : OrderWord) (names : List (List ℕ)) (layer : LayerTable) → (path ≡ [] → ⊥) → changed_spec path (with_order word names) layer ≡ reordered word names path layer
reordered_below [] word names layer below = absurd (below refl)
reordered_below (e ∷ path) word names layer below = refl

pub moved : {A E : Type 0} (r : Result A E) (new x y : LayerTable) → x ≡ y → OnOk r (new ≡ x) → OnOk r (new ≡ y)
moved r new x y e h = subst (λ (z : LayerTable). OnOk r (new ≡ z)) e h

-- where nothing was taken, nothing changed
pub untaken : {E : Type 0} (r : Result (Option Spec) E) (path : List Element) (blank : Spec) (old new : LayerTable) → IfOk r (λ taken. taken ≡ spec_at path old.specs)
    → OnOk r (new ≡ record old { specs = with_spec_for path blank old.specs }) → IfOk r (λ taken. taken ≡ None → new ≡ old)
untaken (Ok taken) path blank old new at put = λ none. put ∙ ap (layer_of old.head) (none_exchanged (is_at (path_cmp path)) blank old.specs (sym at ∙ none))
untaken (Err e) path blank old new at put = tt

pub at_place : (path owner : List Element) (name copied : List ℕ) (change : PropertyChange) (layer : LayerTable) → owner ≡ above path → copied ≡ name → Some (Named name) ≡ last_element path
    → changed_spec owner (spec_changed (spec_change.ChangeProperty copied change)) layer ≡ changed_property path (property_changed change) layer
at_place path owner name copied change layer is same last =
    ap (λ (o : List Element). changed_spec o (spec_changed (spec_change.ChangeProperty copied change)) layer) is
    ∙ ap (λ (n : List ℕ). changed_spec (above path) (spec_changed (spec_change.ChangeProperty n change)) layer) same
    ∙ named_changed path change layer name last

pub new_at_place : (path owner : List Element) (name copied : List ℕ) (blank : List ℕ → Property) (property : Property) (layer : LayerTable)
    → owner ≡ above path → copied ≡ name → Some (Named name) ≡ last_element path → property ≡ blank copied
    → changed_spec owner (spec_changed (spec_change.PutProperty property)) layer ≡ with_new_property path blank layer
unfolding with_new_property
new_at_place path owner name copied blank property layer is same last made =
    ap (λ (o : List Element). changed_spec o (spec_changed (spec_change.PutProperty property)) layer) is
    ∙ ap (λ (p : Property). changed_spec (above path) (spec_changed (spec_change.PutProperty p)) layer) (made ∙ ap blank same)
    ∙ ap (λ (e : Option Element). changed_spec (above path) (λ s. with_properties (named_property e blank s.body.properties) s) layer) last

-- under a premise that holds
pub moved_if : {A E : Type 0} (P : Type 0) (r : Result A E) (new x y : LayerTable) → x ≡ y → OnOk r (new ≡ x) → OnOk r (P → new ≡ y)
moved_if P (Ok a) new x y e h = λ p. h ∙ e
moved_if P (Err a) new x y e h = h

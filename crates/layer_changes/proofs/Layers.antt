-- Each operation on a layer leaves what is not of its parts.
use Rattle.std.proofs.Common.{◌≡◌, refl, subst, ℕ, Bool, true, false, ◌||◌, List, [], ◌∷◌, Option, Some, None, Ok}
use Rattle.std.specs.Prelude.{codes, if◌then◌else◌}
use Rattle.std.proofs.lemmas.Bool.{or_right}
use Rattle.sdf_paths.specs.declared.element.Element.{Element}
use Rattle.sdf_paths.specs.declared.element.Element.TheVariants.{Prim, Property as Named, Selection}
use Rattle.sdf_specs.specs.Layers.{LayerTable, with_spec, without_tree}
use Rattle.sdf_specs.proofs.PathLemmas.{not_both}
use Rattle.sdf_values.specs.declared.decimal.Num.{Num}
use Rattle.sdf_values.specs.declared.type_name.TypeName.{TypeName}
use Rattle.sdf_values.specs.declared.value.Value.{Value}
use Rattle.spec_parts.specs.Blank.{blank_spec}
use Rattle.spec_parts.specs.declared.items.Specifier.{Specifier}
use Rattle.spec_parts.specs.declared.items.Specifier.TheVariants.{Over}
use Rattle.spec_parts.specs.declared.items.SubLayer.{SubLayer}
use Rattle.spec_parts.specs.declared.items.RefItem.{RefItem}
use Rattle.spec_parts.specs.declared.spec.Spec.{Spec}
use Rattle.spec_properties.specs.Properties.{same_name, with_property, without_property}
use Rattle.spec_properties.specs.declared.property.Property.{Property}
use Rattle.usda_fields.specs.declared.field.PathField.{PathField}
use Rattle.usda_fields.specs.declared.field.PathField.TheVariants.{Inherits, Specializes}
use Rattle.usda_fields.specs.declared.field.ReferenceField.{ReferenceField}
use Rattle.usda_fields.specs.declared.field.ReferenceField.TheVariants.{References, Payload}
use Rattle.usda_fields.specs.declared.field.TextField.{TextField}
use Rattle.usda_fields.specs.declared.field.TextField.TheVariants.{VariantSets, ApiSchemas, ClipSets}
use Rattle.usda_fields.specs.declared.owner.OrderWord.{OrderWord}
use Rattle.usda_fields.specs.declared.owner.OrderWord.TheVariants.{NameChildren, PropertyNames}
use Rattle.usda_lists.specs.declared.edit.ListEdit.{ListEdit}
use Rattle.layer_set.specs.LookUps.{root_names}
use Rattle.layer_set.specs.declared.key.Key.TheVariants.{Head, Arcs, Body}
use Rattle.layer_edit.specs.Outcomes.{Made, Test, first_fault, unless, passing, given}
use Rattle.layer_edit.specs.Places.{last_element, above, property_in, changed_spec, with_properties, with_changed_property, changed_property}
use Rattle.layer_edit.specs.Prims.{with_name, without_name, with_variant, without_variant, with_children, with_sets, renamed, listed, unlisted, with_new_spec, prim_spec, prim_added, variant_added, without_part, removed}
use Rattle.layer_edit.specs.Properties.{blank_attribute, blank_relationship, named_property, with_new_property, attribute_added, relationship_added, with_default, with_sample, without_sample, type_of, default_given, default_set, default_dropped, default_cleared, sample_given, sample_set, sample_dropped, sample_cleared}
use Rattle.layer_edit.specs.Typing.{typed, time_at, meta_value}
use Rattle.layer_edit.specs.Metadata.{with_entry, text_of, with_head_entry, with_spec_entry, with_property_entry, with_entry_by, with_meta, meta_set, meta_cleared}
use Rattle.layer_edit.specs.Fields.{with_paths, with_references, with_texts, with_targets, paths_set, references_set, texts_set, targets_set, connections_set, list_set, with_selection, selection_set, with_order, reordered, order_set, sublayers_set}
use Rattle.layer_edit.specs.Offsets.{items_of, sublayers_of}
use Rattle.edit_batches.specs.declared.fault.EditFault.{EditFault}
use Rattle.edit_batches.specs.declared.fault.EditFault.TheVariants.{NoSpec, NoSuchType, ValueShape, TimeRange, OffsetRange}
use Rattle.edit_batches.specs.declared.op.FieldList.{FieldList}
use Rattle.edit_batches.specs.declared.op.FieldList.TheVariants as list
use Rattle.edit_batches.specs.declared.written.WrittenReference.{WrittenReference}
use Rattle.edit_batches.specs.declared.written.WrittenSubLayer.{WrittenSubLayer}
use Rattle.layer_changes.specs.Parts.{is_in, is_among, is_below, of_new, of_owner, of_tree, of_head, of_arcs, of_body, of_meta_by, of_meta, of_list}
use Rattle.layer_changes.specs.declared.part.Part.{Part}
use Rattle.layer_changes.specs.declared.part.Part.TheVariants.{At, Below}
use Rattle.layer_changes.proofs.Left.{Leaves, still, both_left, body_changed, arcs_changed, spec_put, tree_gone, one_of, more_of, below_front}

-- ---- what is made where nothing is refused

by_first : {A : Type 0} (fault : Option EditFault) (made : Made A) (a : A) → unless fault made ≡ Ok a → made ≡ Ok a
by_first None made a h = h
by_first (Some fault) made a h = absurd cc

pub passed : {A : Type 0} (tests : List Test) (made : Made A) (a : A) → passing tests made ≡ Ok a → made ≡ Ok a
unfolding passing
passed tests made a h = by_first (first_fault tests) made a h

pub given_next : {V A G : Type 0} (fault : EditFault) (o : Option V) (make : V → Made A) (a : A) → given fault o make ≡ Ok a → ((v : V) → make v ≡ Ok a → G) → G
unfolding given
given_next fault None make a h next = absurd cc
given_next fault (Some v) make a h next = next v h

done : (name : List ℕ) (parts : List Part) (l made m : LayerTable) → Leaves name parts l made → ◌≡◌ {A = Made LayerTable} (Ok made) (Ok m) → Leaves name parts l m
done name parts l made m leaves h = let e : made ≡ m = cc in subst (λ (n : LayerTable). Leaves name parts l n) e leaves

-- ---- names in the owner

module _ (name : List ℕ) (parts : List Part) where
  renamed_left : (owner : List Element) (change : List (List ℕ) → List (List ℕ)) (l : LayerTable) → is_among parts (Body name owner) ≡ true → Leaves name parts l (renamed owner change l)
  renamed_left [] change l in' = record { head = λ h. refl; roots = λ h. not_both in' h; arcs = λ q h. refl; body = λ q h. refl }
  renamed_left (e ∷ owner) change l in' = body_changed name parts (e ∷ owner) (with_children change) l in' (λ s. refl)

  listed_left : (last : Option Element) (owner : List Element) (l : LayerTable) → is_among parts (Body name owner) ≡ true → Leaves name parts l (listed last owner l)
  listed_left None owner l in' = still name parts l
  listed_left (Some (Prim n)) owner l in' = renamed_left owner (with_name n) l in'
  listed_left (Some (Named n)) owner l in' = still name parts l
  listed_left (Some (Selection s v)) owner l in' = body_changed name parts owner (with_sets (with_variant s v)) l in' (λ t. refl)

  unlisted_left : (last : Option Element) (owner : List Element) (l : LayerTable) → is_among parts (Body name owner) ≡ true → Leaves name parts l (unlisted last owner l)
  unlisted_left None owner l in' = still name parts l
  unlisted_left (Some (Prim n)) owner l in' = renamed_left owner (without_name n) l in'
  unlisted_left (Some (Named n)) owner l in' = still name parts l
  unlisted_left (Some (Selection s v)) owner l in' = body_changed name parts owner (with_sets (without_variant s v)) l in' (λ t. refl)

-- ---- prims and variants

module _ (name : List ℕ) (path : List Element) where
  new_left : (spec : Spec) (l : LayerTable) → Leaves name (of_new name path) l (with_new_spec path spec l)
  unfolding with_new_spec
  new_left spec l =
      let parts : List Part = of_new name path in
      let mid : LayerTable = record l { specs = with_spec path spec l.specs } in
      let in_arcs : is_among parts (Arcs name path) ≡ true = one_of (Arcs name path) (At (Body name path) ∷ At (Body name (above path)) ∷ []) in
      let in_body : is_among parts (Body name path) ≡ true =
      more_of (At (Arcs name path)) (At (Body name path) ∷ At (Body name (above path)) ∷ []) (Body name path) (one_of (Body name path) (At (Body name (above path)) ∷ [])) in
      let in_owner : is_among parts (Body name (above path)) ≡ true =
      more_of (At (Arcs name path)) (At (Body name path) ∷ At (Body name (above path)) ∷ []) (Body name (above path))
      (more_of (At (Body name path)) (At (Body name (above path)) ∷ []) (Body name (above path)) (one_of (Body name (above path)) [])) in
      both_left name parts l mid (listed (last_element path) (above path) mid) (spec_put name parts path spec l in_arcs in_body) (listed_left name parts (last_element path) (above path) mid in_owner)

  pub prim_left : (specifier : Specifier) (type_name : Option (List ℕ)) (l m : LayerTable) → prim_added path specifier type_name l ≡ Ok m → Leaves name (of_new name path) l m
  unfolding prim_added
  prim_left specifier type_name l m h = done name (of_new name path) l _ m (new_left (prim_spec specifier type_name) l) (passed _ _ m h)

  pub variant_left : (l m : LayerTable) → variant_added path l ≡ Ok m → Leaves name (of_new name path) l m
  unfolding variant_added
  variant_left l m h = done name (of_new name path) l _ m (new_left (blank_spec Over) l) (passed _ _ m h)

  owner_in : is_among (of_tree name path) (Body name (above path)) ≡ true
  owner_in = one_of (Body name (above path)) (Below name path ∷ [])

  below_in : (a b : Bool) → b ≡ true → (a || (b || false)) ≡ true
  below_in a true h = or_right a true refl
  below_in a false h = absurd cc

  cut_left : (last : Option Element) (l : LayerTable) → Leaves name (of_tree name path) l (unlisted last (above path) (record l { specs = without_tree path l.specs }))
  cut_left last l =
      let parts : List Part = of_tree name path in
      let mid : LayerTable = record l { specs = without_tree path l.specs } in
      both_left name parts l mid (unlisted last (above path) mid)
      (tree_gone name parts path l
      (λ q on. below_in (is_in (At (Body name (above path))) (Arcs name q)) (is_below name path name q) (below_front name path q on))
      (λ q on. below_in (is_in (At (Body name (above path))) (Body name q)) (is_below name path name q) (below_front name path q on)))
      (unlisted_left name parts last (above path) mid owner_in)

  part_left : (last : Option Element) (l : LayerTable) → Leaves name (of_tree name path) l (without_part last path l)
  part_left None l = cut_left None l
  part_left (Some (Prim n)) l = cut_left (Some (Prim n)) l
  part_left (Some (Selection s v)) l = cut_left (Some (Selection s v)) l
  part_left (Some (Named n)) l = body_changed name (of_tree name path) (above path) (λ s. with_properties (without_property n s.body.properties) s) l owner_in (λ s. refl)

  pub removed_left : (l m : LayerTable) → removed path l ≡ Ok m → Leaves name (of_tree name path) l m
  unfolding removed
  removed_left l m h = done name (of_tree name path) l _ m (part_left (last_element path) l) (passed _ _ m h)

  -- ---- properties

  property_in_owner : is_among (of_owner name path) (Body name (above path)) ≡ true
  property_in_owner = one_of (Body name (above path)) []

  property_left : (change : Property → Property) (l : LayerTable) → Leaves name (of_owner name path) l (changed_property path change l)
  unfolding changed_property
  property_left change l = by_property (property_in path l)
    where
      by_property : (p : Option Property) → Leaves name (of_owner name path) l (with_changed_property p path change l)
      by_property None = still name (of_owner name path) l
      by_property (Some p) = body_changed name (of_owner name path) (above path) (λ s. with_properties (with_property (change p) s.body.properties) s) l property_in_owner (λ s. refl)

  new_property_left : (blank : List ℕ → Property) (l : LayerTable) → Leaves name (of_owner name path) l (with_new_property path blank l)
  unfolding with_new_property
  new_property_left blank l =
      body_changed name (of_owner name path) (above path) (λ s. with_properties (named_property (last_element path) blank s.body.properties) s) l property_in_owner (λ s. refl)

  pub attribute_left : (ty : Option TypeName) (custom uniform : Bool) (l m : LayerTable) → attribute_added path ty custom uniform l ≡ Ok m → Leaves name (of_owner name path) l m
  unfolding attribute_added
  attribute_left ty custom uniform l m h =
      given_next NoSuchType ty _ m (passed _ _ m h) (λ t g. done name (of_owner name path) l _ m (new_property_left (λ n. blank_attribute n t custom uniform) l) g)

  pub relationship_left : (custom : Bool) (l m : LayerTable) → relationship_added path custom l ≡ Ok m → Leaves name (of_owner name path) l m
  unfolding relationship_added
  relationship_left custom l m h = done name (of_owner name path) l _ m (new_property_left (λ n. blank_relationship n custom) l) (passed _ _ m h)

  default_given_left : (ty : TypeName) (v : Value) (l m : LayerTable) → default_given path ty v l ≡ Ok m → Leaves name (of_owner name path) l m
  unfolding default_given
  default_given_left ty v l m h = given_next TimeRange (typed ty v) _ m (passed _ _ m h) (λ w g. done name (of_owner name path) l _ m (property_left (with_default (Some w)) l) g)

  pub default_left : (v : Value) (l m : LayerTable) → default_set path v l ≡ Ok m → Leaves name (of_owner name path) l m
  unfolding default_set
  default_left v l m h = given_next NoSpec (type_of (property_in path l)) _ m (passed _ _ m h) (λ ty g. default_given_left ty v l m g)

  default_dropped_left : (l m : LayerTable) → default_dropped path l ≡ Ok m → Leaves name (of_owner name path) l m
  unfolding default_dropped
  default_dropped_left l m h = done name (of_owner name path) l _ m (property_left (with_default None) l) h

  pub no_default_left : (l m : LayerTable) → default_cleared path l ≡ Ok m → Leaves name (of_owner name path) l m
  unfolding default_cleared
  no_default_left l m h = given_next NoSpec (type_of (property_in path l)) _ m (passed _ _ m h) (λ ty g. default_dropped_left l m g)

  sample_given_left : (ty : TypeName) (time : Num) (v : Value) (l m : LayerTable) → sample_given path ty time v l ≡ Ok m → Leaves name (of_owner name path) l m
  unfolding sample_given
  sample_given_left ty time v l m h =
      given_next TimeRange (time_at time) _ m (passed _ _ m h)
      (λ t f. given_next TimeRange (typed ty v) _ m f (λ w g. done name (of_owner name path) l _ m (property_left (with_sample t w) l) g))

  pub sample_left : (time : Num) (v : Value) (l m : LayerTable) → sample_set path time v l ≡ Ok m → Leaves name (of_owner name path) l m
  unfolding sample_set
  sample_left time v l m h = given_next NoSpec (type_of (property_in path l)) _ m (passed _ _ m h) (λ ty g. sample_given_left ty time v l m g)

  sample_dropped_left : (time : Num) (l m : LayerTable) → sample_dropped path time l ≡ Ok m → Leaves name (of_owner name path) l m
  unfolding sample_dropped
  sample_dropped_left time l m h = given_next TimeRange (time_at time) _ m h (λ t g. done name (of_owner name path) l _ m (property_left (without_sample t) l) g)

  pub no_sample_left : (time : Num) (l m : LayerTable) → sample_cleared path time l ≡ Ok m → Leaves name (of_owner name path) l m
  unfolding sample_cleared
  no_sample_left time l m h = given_next NoSpec (type_of (property_in path l)) _ m (passed _ _ m h) (λ ty g. sample_dropped_left time l m g)

  -- ---- metadata

  head_entry : (key : List ℕ) (v : Option Value) (l : LayerTable) → root_names (with_head_entry key v l.head) ≡ root_names l.head
  head_entry key v l =
      elim (same_name key (codes "defaultPrim")) as (λ b. root_names (if b then record l.head { default_prim = text_of v } else record l.head { meta = with_entry key v l.head.meta }) ≡ root_names l.head) [
        | true ↦ refl
        | false ↦ refl
      ]

  entry_left : (last : Option Element) (key : List ℕ) (v : Option Value) (l : LayerTable) → Leaves name (of_meta_by last name path) l (with_entry_by last path key v l)
  entry_left None key v l = record {
    head = λ h. not_both (one_of (Head name) []) h;
    roots = λ h. head_entry key v l;
    arcs = λ q h. refl;
    body = λ q h. refl;
  }
  entry_left (Some (Prim n)) key v l = body_changed name (of_body name path) path (with_spec_entry key v) l (one_of (Body name path) []) (λ s. refl)
  entry_left (Some (Selection s x)) key v l = body_changed name (of_body name path) path (with_spec_entry key v) l (one_of (Body name path) []) (λ t. refl)
  entry_left (Some (Named n)) key v l = property_left (with_property_entry key v) l

  meta_made_left : (key : List ℕ) (v : Option Value) (l : LayerTable) → Leaves name (of_meta name path) l (with_meta path key v l)
  unfolding with_meta
  meta_made_left key v l = entry_left (last_element path) key v l

  pub meta_left : (key : List ℕ) (v : Value) (l m : LayerTable) → meta_set path key v l ≡ Ok m → Leaves name (of_meta name path) l m
  unfolding meta_set
  meta_left key v l m h = given_next ValueShape (meta_value key v) _ m (passed _ _ m h) (λ w g. done name (of_meta name path) l _ m (meta_made_left key (Some w) l) g)

  pub no_meta_left : (key : List ℕ) (l m : LayerTable) → meta_cleared path key l ≡ Ok m → Leaves name (of_meta name path) l m
  unfolding meta_cleared
  no_meta_left key l m h = done name (of_meta name path) l _ m (meta_made_left key None l) (passed _ _ m h)

  -- ---- lists, selections and orders

  arcs_left : (change : Spec → Spec) (l : LayerTable) → ((s : Spec) → (change s).body ≡ s.body) → Leaves name (of_arcs name path) l (changed_spec path change l)
  arcs_left change l kept = arcs_changed name (of_arcs name path) path change l (one_of (Arcs name path) []) kept

  body_left : (change : Spec → Spec) (l : LayerTable) → ((s : Spec) → (change s).arcs ≡ s.arcs) → Leaves name (of_body name path) l (changed_spec path change l)
  body_left change l kept = body_changed name (of_body name path) path change l (one_of (Body name path) []) kept

  paths_body : (field : PathField) (edit : ListEdit) (items : List (List Element)) (s : Spec) → (with_paths field edit items s).body ≡ s.body
  paths_body Inherits edit items s = refl
  paths_body Specializes edit items s = refl

  paths_left : (field : PathField) (edit : ListEdit) (items : List (List Element)) (l m : LayerTable) → paths_set field edit items path l ≡ Ok m → Leaves name (of_arcs name path) l m
  unfolding paths_set
  paths_left field edit items l m h = done name (of_arcs name path) l _ m (arcs_left (with_paths field edit items) l (paths_body field edit items)) (passed _ _ m h)

  references_body : (field : ReferenceField) (edit : ListEdit) (items : List RefItem) (s : Spec) → (with_references field edit items s).body ≡ s.body
  references_body References edit items s = refl
  references_body Payload edit items s = refl

  references_left : (field : ReferenceField) (edit : ListEdit) (written : List WrittenReference) (l m : LayerTable) → references_set name field edit written path l ≡ Ok m → Leaves name (of_arcs name path) l m
  unfolding references_set
  references_left field edit written l m h =
      given_next OffsetRange (items_of written) _ m (passed _ _ m h)
      (λ items g. done name (of_arcs name path) l _ m (arcs_left (with_references field edit items) l (references_body field edit items)) (passed _ _ m g))

  texts_left : (field : TextField) (edit : ListEdit) (items : List (List ℕ)) (l m : LayerTable) → texts_set field edit items path l ≡ Ok m → Leaves name (of_list name path (list.Texts field items)) l m
  unfolding texts_set
  texts_left VariantSets edit items l m h = done name (of_arcs name path) l _ m (arcs_left (with_texts VariantSets edit items) l (λ s. refl)) (passed _ _ m h)
  texts_left ApiSchemas edit items l m h = done name (of_body name path) l _ m (body_left (with_texts ApiSchemas edit items) l (λ s. refl)) (passed _ _ m h)
  texts_left ClipSets edit items l m h = done name (of_body name path) l _ m (body_left (with_texts ClipSets edit items) l (λ s. refl)) (passed _ _ m h)

  targets_left : (edit : ListEdit) (items : List (List Element)) (l m : LayerTable) → targets_set edit items path l ≡ Ok m → Leaves name (of_owner name path) l m
  unfolding targets_set
  targets_left edit items l m h = done name (of_owner name path) l _ m (property_left (with_targets edit items) l) (passed _ _ m h)

  connections_left : (edit : ListEdit) (items : List (List Element)) (l m : LayerTable) → connections_set edit items path l ≡ Ok m → Leaves name (of_owner name path) l m
  unfolding connections_set
  connections_left edit items l m h = done name (of_owner name path) l _ m (property_left (with_targets edit items) l) (passed _ _ m h)

  pub list_left : (edit : ListEdit) (fields : FieldList) (l m : LayerTable) → list_set name path edit fields l ≡ Ok m → Leaves name (of_list name path fields) l m
  list_left edit (list.Paths field items) l m h = paths_left field edit items l m h
  list_left edit (list.References field items) l m h = references_left field edit items l m h
  list_left edit (list.Texts field items) l m h = texts_left field edit items l m h
  list_left edit (list.Targets items) l m h = targets_left edit items l m h
  list_left edit (list.Connections items) l m h = connections_left edit items l m h

  selection_body : (set : List ℕ) (variant : Option (List ℕ)) (s : Spec) → (with_selection set variant s).body ≡ s.body
  selection_body set None s = refl
  selection_body set (Some v) s = refl

  pub selection_left : (set : List ℕ) (variant : Option (List ℕ)) (l m : LayerTable) → selection_set path set variant l ≡ Ok m → Leaves name (of_arcs name path) l m
  unfolding selection_set
  selection_left set variant l m h = done name (of_arcs name path) l _ m (arcs_left (with_selection set variant) l (selection_body set variant)) (passed _ _ m h)

order_arcs : (word : OrderWord) (names : List (List ℕ)) (s : Spec) → (with_order word names s).arcs ≡ s.arcs
order_arcs NameChildren names s = refl
order_arcs PropertyNames names s = refl

reordered_left : (name : List ℕ) (path : List Element) (word : OrderWord) (names : List (List ℕ)) (l : LayerTable) → Leaves name (of_body name path) l (reordered word names path l)
reordered_left name [] word names l = record { head = λ h. refl; roots = λ h. not_both (one_of (Body name []) []) h; arcs = λ q h. refl; body = λ q h. refl }
reordered_left name (e ∷ path) word names l = body_changed name (of_body name (e ∷ path)) (e ∷ path) (with_order word names) l (one_of (Body name (e ∷ path)) []) (order_arcs word names)

pub order_left : (name : List ℕ) (path : List Element) (word : OrderWord) (names : List (List ℕ)) (l m : LayerTable) → order_set path word names l ≡ Ok m → Leaves name (of_body name path) l m
unfolding order_set
order_left name path word names l m h = done name (of_body name path) l _ m (reordered_left name path word names l) (passed _ _ m h)

sublayers_made : (name : List ℕ) (sublayers : List SubLayer) (l : LayerTable) → Leaves name (of_head name) l (record l { head = record l.head { sublayers = sublayers } })
sublayers_made name sublayers l = record { head = λ h. not_both (one_of (Head name) []) h; roots = λ h. refl; arcs = λ q h. refl; body = λ q h. refl }

pub sublayers_left : (name : List ℕ) (written : List WrittenSubLayer) (l m : LayerTable) → sublayers_set written l ≡ Ok m → Leaves name (of_head name) l m
unfolding sublayers_set
sublayers_left name written l m h = given_next OffsetRange (sublayers_of written) _ m h (λ sublayers g. done name (of_head name) l _ m (sublayers_made name sublayers l) g)

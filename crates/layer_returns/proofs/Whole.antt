-- The specs of the prims and variants that are read.
use Rattle.std.proofs.Common.{◌≡◌, ◌∙◌, ℕ, zero, suc, Bool, true, false, List, [], ◌∷◌, ◌++◌, length, Option, Some, None, is_some, ap, sym, refl, subst, cond}
use Rattle.std.specs.Ordering.{is_eq, match_ordering}
use Rattle.std.specs.declared.cmp.Ordering.{Ordering}
use Rattle.std.specs.declared.cmp.Ordering.TheVariants.{Less, Equal, Greater}
use Rattle.sdf_paths.specs.DerivedOrder.{path_cmp_same}
use Rattle.sdf_paths.specs.Order.{path_cmp}
use Rattle.sdf_paths.specs.declared.element.Element.{Element}
use Rattle.sdf_paths.specs.declared.element.Element.TheVariants.{Prim, Selection}
use Rattle.sdf_specs.specs.Layers.{LayerTable, SpecEntries, spec_at}
use Rattle.sdf_specs.proofs.PathLemmas.{same_path}
use Rattle.spec_parts.specs.declared.items.Specifier.{Specifier}
use Rattle.spec_parts.specs.declared.items.Specifier.TheVariants.{Over}
use Rattle.spec_parts.specs.declared.items.VariantSet.{VariantSet}
use Rattle.spec_parts.specs.declared.spec.Spec.{Spec}
use Rattle.spec_properties.specs.declared.property.Property.{Property}
use Rattle.spec_tables.specs.Tables.{at_key, with_key}
use Rattle.usda_writer.specs.Canonical.{spec_below}
use Rattle.usda_drafts.specs.Closed.{with_spec_at}
use Rattle.usda_drafts.specs.Owners.{spec_of, with_child, with_variant}
use Rattle.usda_drafts.specs.declared.owner.Owner.{Owner}
use Rattle.layer_reads.specs.Standing.{Standing}
use Rattle.layer_reads.specs.Bodies.{inside}
use Rattle.layer_reads.specs.Properties.{with_more, marks_of}
use Rattle.value_texts.specs.Each.{AreAll}
use Rattle.layer_returns.specs.Layers.{behind_front}
use Rattle.layer_returns.specs.Owners.{HasVariants, HasAllBelow}
use Rattle.layer_returns.specs.Trees.{behind_properties, behind_child, behind_children, behind_variant, behind_variants, in_set, behind_sets, from_properties, from_sets, from_children, behind_body}
use Rattle.layer_returns.specs.Whole.{IsChildWhole, IsVariantWhole, AreChildrenWhole, AreVariantsWhole, AreAllWhole, IsWhole, AreAmong, SpecsAreTheLayers}
use Rattle.layer_returns.proofs.Owners.{Parts, body_said, owners_say}

-- ---- a spec more in a table

module _ (p q : List Element) (s : Spec) (G : Spec → Type 0) (here : p ≡ q → G s) where
  first : (b : Bool) → is_eq (path_cmp p q) ≡ b → (rest : Option Spec) → ((x : Spec) → rest ≡ Some x → G x) → (x : Spec) → cond b (Some s) rest ≡ Some x → G x
  first true e rest more x h = let same : s ≡ x = cc h in subst G same (here (same_path p q e))
  first false e rest more x h = more x h

  pub one_more : (t : List (List Element × Spec)) → ((x : Spec) → at_key path_cmp p t ≡ Some x → G x) → (x : Spec) → at_key path_cmp p (with_key path_cmp q s t) ≡ Some x → G x
  one_more [] old x h = first (is_eq (path_cmp p q)) refl None (λ x h. absurd cc) x h
  one_more (e ∷ es) old x h = by (path_cmp q e.0) refl old (one_more es) x h
    where
      over : path_cmp q e.0 ≡ Equal → (b : Bool) → is_eq (path_cmp p e.0) ≡ b → ((x : Spec) → cond b (Some e.1) (at_key path_cmp p es) ≡ Some x → G x) → (x : Spec) → cond b (Some s) (at_key path_cmp p es) ≡ Some x → G x
      over eq true i old x h = let same : s ≡ x = cc h in subst G same (here (same_path p e.0 i ∙ sym (path_cmp_same q e.0 eq)))
      over eq false i old x h = old x h

      behind : (b : Bool) → ((x : Spec) → cond b (Some e.1) (at_key path_cmp p es) ≡ Some x → G x) → (((x : Spec) → at_key path_cmp p es ≡ Some x → G x) → (x : Spec) → at_key path_cmp p (with_key path_cmp q s es) ≡ Some x → G x)
          → (x : Spec) → cond b (Some e.1) (at_key path_cmp p (with_key path_cmp q s es)) ≡ Some x → G x
      behind true old more x h = old x h
      behind false old more x h = more old x h

      by : (o : Ordering) → path_cmp q e.0 ≡ o → ((x : Spec) → at_key path_cmp p (e ∷ es) ≡ Some x → G x) → (((x : Spec) → at_key path_cmp p es ≡ Some x → G x) → (x : Spec) → at_key path_cmp p (with_key path_cmp q s es) ≡ Some x → G x)
          → (x : Spec) → at_key path_cmp p (match_ordering o ((q, s) ∷ e ∷ es) ((e.0, s) ∷ es) (e ∷ with_key path_cmp q s es)) ≡ Some x → G x
      by Less eq old more x h = first (is_eq (path_cmp p q)) refl (at_key path_cmp p (e ∷ es)) old x h
      by Equal eq old more x h = over eq (is_eq (path_cmp p e.0)) refl old x h
      by Greater eq old more x h = behind (is_eq (path_cmp p e.0)) old more x h

among_more : (some all : SpecEntries) (q : List Element) (s : Spec) → AreAmong some all → spec_at q all ≡ Some s → AreAmong (with_spec_at q s some) all
unfolding with_spec_at
among_more some all q s among is p x h = one_more p q s (λ x. spec_at p all ≡ Some x) (λ same. subst (λ r. spec_at r all ≡ Some s) (sym same) is) some (among p) x h

pub properties_specs : (ps : List Property) (at : Standing) → (behind_properties ps at).specs ≡ at.specs
properties_specs [] at = refl
properties_specs (p ∷ ps) at = properties_specs ps (with_more p (marks_of p) at)

-- ---- what is closed of a prim or a variant, and of all that stands below it

abbrev Among : SpecEntries → Standing → Type 0
Among specs s = AreAmong s.specs specs

-- what is to be shown of the bodies further down
abbrev IsAmong : SpecEntries → (List Element → Specifier → Spec → Standing → Standing) → (List Element → Spec → Type 0) → Type 0
IsAmong specs behind Whole =
    (path : List Element) (specifier : Specifier) (ty : Option (List ℕ)) (spec : Spec) (round : Owner) (at : Standing) → specifier ≡ spec.body.specifier → ty ≡ spec.body.type_name → Whole path spec → Among specs at
    → Among specs (behind path specifier spec (inside path specifier ty spec round at)) × ((behind path specifier spec (inside path specifier ty spec round at)).owner.said.path ≡ path)
    × (spec_of (behind path specifier spec (inside path specifier ty spec round at)).owner ≡ spec)

module _ (specs : SpecEntries) (behind : List Element → Specifier → Spec → Standing → Standing) (Whole : List Element → Spec → Type 0) (among : IsAmong specs behind Whole) where
  -- a spec that is closed is that of its path
  closes : (path : List Element) (specifier : Specifier) (ty : Option (List ℕ)) (spec : Spec) (round : Owner) (at : Standing) → specifier ≡ spec.body.specifier → ty ≡ spec.body.type_name → Whole path spec → spec_at path specs ≡ Some spec → Among specs at
      → (let done : Standing = behind path specifier spec (inside path specifier ty spec round at) in AreAmong (with_spec_at done.owner.said.path (spec_of done.owner) done.specs) specs)
  closes path specifier ty spec round at is also whole there h =
      let done : Standing = behind path specifier spec (inside path specifier ty spec round at) in
      let a = among path specifier ty spec round at is also whole h in
      subst (λ p. AreAmong (with_spec_at p (spec_of done.owner) done.specs) specs) (sym a.1) (subst (λ s. AreAmong (with_spec_at path s done.specs) specs) (sym a.2) (among_more done.specs specs path spec a.0 there))

  child_among : (name : List ℕ) (path : List Element) (o : Option Spec) (at : Standing) → spec_at path specs ≡ o → IsChildWhole specs Whole path o → Among specs at → Among specs (behind_child specs behind name path o at)
  child_among name path None at there whole h = absurd whole
  child_among name path (Some spec) at there whole h = closes path spec.body.specifier spec.body.type_name spec (with_child name at.owner) at refl refl whole there h

  children_among : (path : List Element) (names : List (List ℕ)) (at : Standing) → AreChildrenWhole specs Whole path names → Among specs at → Among specs (behind_children specs behind path names at)
  children_among path [] at whole h = h
  children_among path (name ∷ names) at whole h =
      children_among path names (behind_child specs behind name (path ++ Prim name ∷ []) (spec_below specs path (Prim name)) at) whole.1
      (child_among name (path ++ Prim name ∷ []) (spec_below specs path (Prim name)) at refl whole.0 h)

  variant_among : (name : List ℕ) (path : List Element) (o : Option Spec) (at : Standing) → spec_at path specs ≡ o → IsVariantWhole specs Whole path o → Among specs at → Among specs (behind_variant specs behind name path o at)
  variant_among name path None at there whole h = absurd whole
  variant_among name path (Some spec) at there whole h = closes path Over None spec (with_variant name at.owner) at (sym whole.0) (sym whole.1) whole.2 there h

  variants_among : (path : List Element) (set : List ℕ) (names : List (List ℕ)) (at : Standing) → AreAll (λ name. IsVariantWhole specs Whole (path ++ Selection set name ∷ []) (spec_below specs path (Selection set name))) names → Among specs at
      → Among specs (behind_variants specs behind path set names at)
  variants_among path set [] at whole h = h
  variants_among path set (name ∷ names) at whole h =
      variants_among path set names (behind_variant specs behind name (path ++ Selection set name ∷ []) (spec_below specs path (Selection set name)) at) whole.1
      (variant_among name (path ++ Selection set name ∷ []) (spec_below specs path (Selection set name)) at refl whole.0 h)

  sets_among : (path : List Element) (ss : List VariantSet) (at : Standing) → AreAll (AreVariantsWhole specs Whole path) ss → Among specs at → Among specs (behind_sets specs behind path ss at)
  sets_among path [] at whole h = h
  sets_among path (s ∷ ss) at whole h =
      sets_among path ss (behind_variants specs behind path s.set s.variants (in_set specs behind s.set at)) whole.1 (variants_among path s.set s.variants (in_set specs behind s.set at) whole.0 h)

  statements_among : (path : List Element) (specifier : Specifier) (spec : Spec) (at : Standing) → AreAllWhole specs Whole path spec → Among specs at
      → Among specs (behind_children specs behind path spec.body.children (from_children specs behind path specifier spec at))
  statements_among path specifier spec at whole h =
      children_among path spec.body.children (from_children specs behind path specifier spec at) whole.children
      (sets_among path spec.body.variant_names (from_sets specs behind path specifier spec at) whole.variants
      (subst (λ t. AreAmong t specs) (sym (properties_specs spec.body.properties (from_properties specs behind path specifier spec at))) h))

  -- all that is whole is there
  child_there : (path : List Element) (o : Option Spec) → IsChildWhole specs Whole path o → is_some o ≡ true
  child_there path None whole = absurd whole
  child_there path (Some spec) whole = refl

  children_there : (path : List Element) (names : List (List ℕ)) → AreChildrenWhole specs Whole path names → AreAll (λ name. is_some (spec_below specs path (Prim name)) ≡ true) names
  children_there path [] whole = tt
  children_there path (name ∷ names) whole = (child_there (path ++ Prim name ∷ []) (spec_below specs path (Prim name)) whole.0, children_there path names whole.1)

  variant_there : (path : List Element) (o : Option Spec) → IsVariantWhole specs Whole path o → is_some o ≡ true
  variant_there path None whole = absurd whole
  variant_there path (Some spec) whole = refl

  variants_there : (path : List Element) (set : List ℕ) (names : List (List ℕ)) → AreAll (λ name. IsVariantWhole specs Whole (path ++ Selection set name ∷ []) (spec_below specs path (Selection set name))) names
      → AreAll (λ name. is_some (spec_below specs path (Selection set name)) ≡ true) names
  variants_there path set [] whole = tt
  variants_there path set (name ∷ names) whole = (variant_there (path ++ Selection set name ∷ []) (spec_below specs path (Selection set name)) whole.0, variants_there path set names whole.1)

  sets_there : (path : List Element) (ss : List VariantSet) → AreAll (AreVariantsWhole specs Whole path) ss → AreAll (HasVariants specs path) ss
  sets_there path [] whole = tt
  sets_there path (s ∷ ss) whole = (variants_there path s.set s.variants whole.0, sets_there path ss whole.1)

  all_there : (path : List Element) (spec : Spec) → AreAllWhole specs Whole path spec → HasAllBelow specs path spec
  all_there path spec whole = record { children = children_there path spec.body.children whole.children; variants = sets_there path spec.body.variant_names whole.variants }

bodies_among : (specs : SpecEntries) (levels : ℕ) → IsAmong specs (behind_body specs levels) (IsWhole specs levels)
bodies_among specs zero path specifier ty spec round at is also whole h = absurd whole
bodies_among specs (suc levels) path specifier ty spec round at is also whole h =
    let behind : List Element → Specifier → Spec → Standing → Standing = behind_body specs levels in
    let below : HasAllBelow specs path spec = all_there specs behind (IsWhole specs levels) (bodies_among specs levels) path spec whole in (
      statements_among specs behind (IsWhole specs levels) (bodies_among specs levels) path specifier spec (inside path specifier ty spec round at) whole h,
      ap (λ (p : Parts). p.said.path) (body_said specs levels path specifier ty spec round at below),
      owners_say specs levels path specifier ty spec round at is also below,
    )

pub specs_are_the_layers : SpecsAreTheLayers
specs_are_the_layers layer whole =
    children_among layer.specs (behind_body layer.specs (length layer.specs)) (IsWhole layer.specs (length layer.specs)) (bodies_among layer.specs (length layer.specs)) [] layer.head.root_names (behind_front layer.head) whole (λ p s h. absurd cc)

-- the root prims have specs
pub roots_there : (layer : LayerTable) → AreChildrenWhole layer.specs (IsWhole layer.specs (length layer.specs)) [] layer.head.root_names → AreAll (λ name. is_some (spec_below layer.specs [] (Prim name)) ≡ true) layer.head.root_names
roots_there layer whole =
    children_there layer.specs (behind_body layer.specs (length layer.specs)) (IsWhole layer.specs (length layer.specs)) (bodies_among layer.specs (length layer.specs)) [] layer.head.root_names whole

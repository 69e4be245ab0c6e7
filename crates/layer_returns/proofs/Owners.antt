-- What an owner says behind its statements.
use Rattle.std.proofs.Common.{◌≡◌, ◌∙◌, ℕ, true, suc, List, [], ◌∷◌, ◌++◌, append_assoc, append-nil, Option, Some, None, is_some, ap, sym, refl}
use Rattle.plain_data.specs.Ends.{last, last-push, front-push}
use Rattle.sdf_paths.specs.declared.element.Element.{Element}
use Rattle.sdf_paths.specs.declared.element.Element.TheVariants.{Prim, Selection}
use Rattle.sdf_specs.specs.Layers.{SpecEntries}
use Rattle.spec_parts.specs.declared.items.Specifier.{Specifier}
use Rattle.spec_parts.specs.declared.items.VariantSet.{VariantSet}
use Rattle.spec_parts.specs.declared.spec.Spec.{Spec}
use Rattle.spec_properties.specs.declared.property.Property.{Property}
use Rattle.usda_fields.specs.declared.owner.OwnerDraft.{OwnerDraft}
use Rattle.usda_writer.specs.Canonical.{spec_below}
use Rattle.usda_drafts.specs.Owners.{owner_of, spec_of, with_child, with_set, with_variant, and_variant}
use Rattle.usda_drafts.specs.declared.owner.Owner.{Owner}
use Rattle.layer_reads.specs.Standing.{Standing}
use Rattle.layer_reads.specs.Bodies.{inside}
use Rattle.layer_reads.specs.Properties.{with_more, marks_of}
use Rattle.value_texts.specs.Each.{AreAll}
use Rattle.layer_returns.specs.Owners.{HasVariants, HasAllBelow, OwnersSay}
use Rattle.layer_returns.specs.Trees.{behind_properties, behind_child, behind_children, behind_variant, behind_variants, in_set, behind_sets, behind_orders, from_properties, from_sets, from_children, behind_body}

-- the parts of an owner that a spec has
pub record Parts : Type 0 where
  pub said : OwnerDraft
  pub ty : Option (List ℕ)
  pub names : List (List ℕ)
  pub properties : List Property
  pub sets : List VariantSet

abbrev pub parts_of : Standing → Parts
parts_of s = record { said = s.owner.said; ty = s.owner.type_name; names = s.owner.children; properties = s.owner.properties; sets = s.owner.sets }

properties_said : (ps : List Property) (at : Standing) → parts_of (behind_properties ps at) ≡ record (parts_of at) { properties = at.owner.properties ++ ps }
properties_said [] at = ap (λ l. record (parts_of at) { properties = l }) (sym (append-nil at.owner.properties))
properties_said (p ∷ ps) at = properties_said ps (with_more p (marks_of p) at) ∙ ap (λ l. record (parts_of at) { properties = l }) (append_assoc at.owner.properties (p ∷ []) ps)

module _ (specs : SpecEntries) (behind : List Element → Specifier → Spec → Standing → Standing) where
  child_said : (name : List ℕ) (path : List Element) (o : Option Spec) (at : Standing) → is_some o ≡ true → parts_of (behind_child specs behind name path o at) ≡ record (parts_of at) { names = at.owner.children ++ name ∷ [] }
  unfolding with_child
  child_said name path None at h = absurd cc
  child_said name path (Some spec) at h = refl

  pub children_said : (path : List Element) (names : List (List ℕ)) (at : Standing) → AreAll (λ name. is_some (spec_below specs path (Prim name)) ≡ true) names
      → parts_of (behind_children specs behind path names at) ≡ record (parts_of at) { names = at.owner.children ++ names }
  children_said path [] at all = ap (λ l. record (parts_of at) { names = l }) (sym (append-nil at.owner.children))
  children_said path (name ∷ names) at all =
      children_said path names (behind_child specs behind name (path ++ Prim name ∷ []) (spec_below specs path (Prim name)) at) all.1
      ∙ ap (λ (p : Parts). record p { names = p.names ++ names }) (child_said name (path ++ Prim name ∷ []) (spec_below specs path (Prim name)) at all.0)
      ∙ ap (λ l. record (parts_of at) { names = l }) (append_assoc at.owner.children (name ∷ []) names)

  -- a set with these variants is the last
  abbrev with_last : List VariantSet → List ℕ → List (List ℕ) → List VariantSet
  with_last sets set variants = sets ++ record { set = set; variants = variants } ∷ []

  variant_said : (name : List ℕ) (path : List Element) (o : Option Spec) (at : Standing) (sets : List VariantSet) (set : List ℕ) (done : List (List ℕ)) → is_some o ≡ true → at.owner.sets ≡ with_last sets set done
      → parts_of (behind_variant specs behind name path o at) ≡ record (parts_of at) { sets = with_last sets set (done ++ name ∷ []) }
  unfolding with_variant
  variant_said name path None at sets set done h is = absurd cc
  variant_said name path (Some spec) at sets set done h is =
      ap (λ l. record (parts_of at) { sets = and_variant name (last l) l }) is
      ∙ ap (λ o. record (parts_of at) { sets = and_variant name o (with_last sets set done) }) (last-push sets (record { set = set; variants = done }))
      ∙ ap (λ l. record (parts_of at) { sets = l ++ record { set = set; variants = done ++ name ∷ [] } ∷ [] }) (front-push sets (record { set = set; variants = done }))

  variants_said : (path : List Element) (sets : List VariantSet) (set : List ℕ) (done names : List (List ℕ)) (at : Standing) → AreAll (λ name. is_some (spec_below specs path (Selection set name)) ≡ true) names
      → at.owner.sets ≡ with_last sets set done → parts_of (behind_variants specs behind path set names at) ≡ record (parts_of at) { sets = with_last sets set (done ++ names) }
  variants_said path sets set done [] at all is = ap (λ l. record (parts_of at) { sets = l }) (is ∙ ap (with_last sets set) (sym (append-nil done)))
  variants_said path sets set done (name ∷ names) at all is =
      let next : Standing = behind_variant specs behind name (path ++ Selection set name ∷ []) (spec_below specs path (Selection set name)) at in
      let said : parts_of next ≡ record (parts_of at) { sets = with_last sets set (done ++ name ∷ []) } = variant_said name (path ++ Selection set name ∷ []) (spec_below specs path (Selection set name)) at sets set done all.0 is in
      variants_said path sets set (done ++ name ∷ []) names next all.1 (ap (λ (p : Parts). p.sets) said)
      ∙ ap (λ (p : Parts). record p { sets = with_last sets set ((done ++ name ∷ []) ++ names) }) said
      ∙ ap (λ l. record (parts_of at) { sets = with_last sets set l }) (append_assoc done (name ∷ []) names)

  sets_said : (path : List Element) (ss : List VariantSet) (at : Standing) → AreAll (HasVariants specs path) ss → parts_of (behind_sets specs behind path ss at) ≡ record (parts_of at) { sets = at.owner.sets ++ ss }
  unfolding with_set
  sets_said path [] at all = ap (λ l. record (parts_of at) { sets = l }) (sym (append-nil at.owner.sets))
  sets_said path (s ∷ ss) at all =
      let begun : Standing = in_set specs behind s.set at in
      let said : parts_of (behind_variants specs behind path s.set s.variants begun) ≡ record (parts_of at) { sets = at.owner.sets ++ s ∷ [] } = variants_said path at.owner.sets s.set [] s.variants begun all.0 refl in
      sets_said path ss (behind_variants specs behind path s.set s.variants begun) all.1
      ∙ ap (λ (p : Parts). record p { sets = p.sets ++ ss }) said
      ∙ ap (λ l. record (parts_of at) { sets = l }) (append_assoc at.owner.sets (s ∷ []) ss)

-- the spec of these parts
abbrev pub spec_by : Parts → Spec
spec_by p = record p.said.spec { body = record p.said.spec.body { type_name = p.ty; children = p.names; properties = p.properties; variant_names = p.sets } }

pub body_said : (specs : SpecEntries) (levels : ℕ) (path : List Element) (specifier : Specifier) (ty : Option (List ℕ)) (spec : Spec) (round : Owner) (at : Standing) → HasAllBelow specs path spec
    → parts_of (behind_body specs (suc levels) path specifier spec (inside path specifier ty spec round at))
    ≡ record { said = behind_orders path specifier spec; ty = ty; names = spec.body.children; properties = spec.body.properties; sets = spec.body.variant_names }
unfolding owner_of
body_said specs levels path specifier ty spec round at below =
    let behind : List Element → Specifier → Spec → Standing → Standing = behind_body specs levels in
    let begun : Standing = inside path specifier ty spec round at in
    children_said specs behind path spec.body.children (from_children specs behind path specifier spec begun) below.children
    ∙ ap (λ (p : Parts). record p { names = p.names ++ spec.body.children }) (sets_said specs behind path spec.body.variant_names (from_sets specs behind path specifier spec begun) below.variants)
    ∙ ap (λ (p : Parts). record p { names = p.names ++ spec.body.children; sets = p.sets ++ spec.body.variant_names }) (properties_said spec.body.properties (from_properties specs behind path specifier spec begun))

pub owners_say : OwnersSay
unfolding spec_of
owners_say specs levels path specifier ty spec round at is also below =
    ap spec_by (body_said specs levels path specifier ty spec round at below)
    ∙ ap (λ s. spec_by (record { said = behind_orders path s spec; ty = ty; names = spec.body.children; properties = spec.body.properties; sets = spec.body.variant_names })) is
    ∙ ap (λ t. spec_by (record { said = behind_orders path spec.body.specifier spec; ty = t; names = spec.body.children; properties = spec.body.properties; sets = spec.body.variant_names })) also

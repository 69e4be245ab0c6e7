-- The specs at the paths that are reached.
use Rattle.std.proofs.Common.{◌≡◌, ◌∙◌, ◌⊎◌, inl, inr, ℕ, zero, suc, Bool, true, false, List, [], ◌∷◌, ◌++◌, length, Option, Some, None, is_some, ap, sym, refl, subst, cond}
use Rattle.std.specs.Ordering.{is_eq, match_ordering}
use Rattle.std.specs.declared.cmp.Ordering.{Ordering}
use Rattle.std.specs.declared.cmp.Ordering.TheVariants.{Less, Equal, Greater}
use Rattle.sdf_paths.specs.Order.{path_cmp}
use Rattle.sdf_paths.specs.declared.element.Element.{Element}
use Rattle.sdf_paths.specs.declared.element.Element.TheVariants.{Prim, Selection}
use Rattle.sdf_specs.specs.Layers.{SpecEntries, spec_at}
use Rattle.sdf_specs.proofs.PathLemmas.{finds_itself}
use Rattle.spec_parts.specs.declared.items.Specifier.{Specifier}
use Rattle.spec_parts.specs.declared.items.Specifier.TheVariants.{Over}
use Rattle.spec_parts.specs.declared.items.VariantSet.{VariantSet}
use Rattle.spec_parts.specs.declared.spec.Spec.{Spec}
use Rattle.spec_tables.specs.Tables.{at_key, with_key}
use Rattle.usda_writer.specs.Canonical.{spec_below}
use Rattle.usda_drafts.specs.Closed.{with_spec_at}
use Rattle.usda_drafts.specs.Owners.{spec_of, with_child, with_set, with_variant}
use Rattle.layer_reads.specs.Standing.{Standing}
use Rattle.layer_reads.specs.Bodies.{inside}
use Rattle.layer_reads.specs.Properties.{with_more, marks_of}
use Rattle.spec_properties.specs.declared.property.Property.{Property}
use Rattle.usda_fields.specs.declared.owner.OwnerDraft.{OwnerDraft}
use Rattle.usda_drafts.specs.declared.owner.Owner.{Owner}
use Rattle.layer_returns.specs.Layers.{behind_front, behind_layer, layer_at}
use Rattle.layer_returns.specs.Reached.{IsFrom, IsFromChildren, IsFromVariants, IsFromSets, IsReached, ReachedSpecsAreRead}
use Rattle.layer_returns.specs.Trees.{behind_properties, behind_child, behind_children, behind_variant, behind_variants, in_set, behind_sets, from_properties, from_sets, from_children, inside_prim, inside_variant, behind_body}
use Rattle.layer_returns.proofs.Whole.{properties_specs, specs_are_the_layers}

-- something stands at the path
abbrev IsThere : List Element → SpecEntries → Type 0
IsThere p t = is_some (spec_at p t) ≡ true

module _ (p q : List Element) (s : Spec) where
  stays : (t : List (List Element × Spec)) → is_some (at_key path_cmp p t) ≡ true → is_some (at_key path_cmp p (with_key path_cmp q s t)) ≡ true
  stays [] h = absurd cc
  stays (e ∷ es) h = by (path_cmp q e.0) h (stays es)
    where
      other : (b : Bool) → is_some (at_key path_cmp p (e ∷ es)) ≡ true → is_some (cond b (Some s) (at_key path_cmp p (e ∷ es))) ≡ true
      other true h = refl
      other false h = h

      over : (b : Bool) → is_some (cond b (Some e.1) (at_key path_cmp p es)) ≡ true → is_some (cond b (Some s) (at_key path_cmp p es)) ≡ true
      over true h = refl
      over false h = h

      behind : (b : Bool) → is_some (cond b (Some e.1) (at_key path_cmp p es)) ≡ true → (is_some (at_key path_cmp p es) ≡ true → is_some (at_key path_cmp p (with_key path_cmp q s es)) ≡ true)
          → is_some (cond b (Some e.1) (at_key path_cmp p (with_key path_cmp q s es))) ≡ true
      behind true h more = refl
      behind false h more = more h

      by : (o : Ordering) → is_some (at_key path_cmp p (e ∷ es)) ≡ true → (is_some (at_key path_cmp p es) ≡ true → is_some (at_key path_cmp p (with_key path_cmp q s es)) ≡ true)
          → is_some (at_key path_cmp p (match_ordering o ((q, s) ∷ e ∷ es) ((e.0, s) ∷ es) (e ∷ with_key path_cmp q s es))) ≡ true
      by Less h more = other (is_eq (path_cmp p q)) h
      by Equal h more = over (is_eq (path_cmp p e.0)) h
      by Greater h more = behind (is_eq (path_cmp p e.0)) h more

module _ (q : List Element) (s : Spec) where
  comes : (t : List (List Element × Spec)) → is_some (at_key path_cmp q (with_key path_cmp q s t)) ≡ true
  comes [] = ap (λ b. is_some (cond b (Some s) None)) (finds_itself q)
  comes (e ∷ es) = by (path_cmp q e.0) refl (comes es)
    where
      behind : (b : Bool) → is_some (at_key path_cmp q (with_key path_cmp q s es)) ≡ true → is_some (cond b (Some e.1) (at_key path_cmp q (with_key path_cmp q s es))) ≡ true
      behind true more = refl
      behind false more = more

      by : (o : Ordering) → path_cmp q e.0 ≡ o → is_some (at_key path_cmp q (with_key path_cmp q s es)) ≡ true
          → is_some (at_key path_cmp q (match_ordering o ((q, s) ∷ e ∷ es) ((e.0, s) ∷ es) (e ∷ with_key path_cmp q s es))) ≡ true
      by Less h more = ap (λ b. is_some (cond b (Some s) (at_key path_cmp q (e ∷ es)))) (finds_itself q)
      by Equal h more = ap (λ o. is_some (cond (is_eq o) (Some s) (at_key path_cmp q es))) h
      by Greater h more = behind (is_eq (path_cmp q e.0)) more

there_stays : (p q : List Element) (s : Spec) (t : SpecEntries) → IsThere p t → IsThere p (with_spec_at q s t)
unfolding with_spec_at
there_stays p q s t h = stays p q s t h

there_now : (q : List Element) (s : Spec) (t : SpecEntries) → IsThere q (with_spec_at q s t)
unfolding with_spec_at
there_now q s t = comes q s t

-- ---- what stands there stays through all that follows, and what is reached comes

module _ (p : List Element) (specs : SpecEntries) (behind : List Element → Specifier → Spec → Standing → Standing) (Below : List Element → Spec → List Element → Type 0)
    (keeps : (path : List Element) (specifier : Specifier) (spec : Spec) (at : Standing) → IsThere p at.specs → IsThere p (behind path specifier spec at).specs)
    (at_path : (path : List Element) (specifier : Specifier) (ty : Option (List ℕ)) (spec : Spec) (round : Owner) (at : Standing) → (behind path specifier spec (inside path specifier ty spec round at)).owner.said.path ≡ path)
    (reaches : (path : List Element) (specifier : Specifier) (spec : Spec) (at : Standing) → Below path spec p → IsThere p (behind path specifier spec at).specs) where
  child_keeps : (name : List ℕ) (path : List Element) (o : Option Spec) (at : Standing) → IsThere p at.specs → IsThere p (behind_child specs behind name path o at).specs
  child_keeps name path None at h = h
  child_keeps name path (Some spec) at h =
      let done : Standing = behind path spec.body.specifier spec (inside_prim specs behind name path spec at) in
      there_stays p done.owner.said.path (spec_of done.owner) done.specs (keeps path spec.body.specifier spec (inside_prim specs behind name path spec at) h)

  children_keep : (path : List Element) (names : List (List ℕ)) (at : Standing) → IsThere p at.specs → IsThere p (behind_children specs behind path names at).specs
  children_keep path [] at h = h
  children_keep path (name ∷ names) at h =
      children_keep path names (behind_child specs behind name (path ++ Prim name ∷ []) (spec_below specs path (Prim name)) at) (child_keeps name (path ++ Prim name ∷ []) (spec_below specs path (Prim name)) at h)

  variant_keeps : (name : List ℕ) (path : List Element) (o : Option Spec) (at : Standing) → IsThere p at.specs → IsThere p (behind_variant specs behind name path o at).specs
  variant_keeps name path None at h = h
  variant_keeps name path (Some spec) at h =
      let done : Standing = behind path Over spec (inside_variant specs behind name path spec at) in
      there_stays p done.owner.said.path (spec_of done.owner) done.specs (keeps path Over spec (inside_variant specs behind name path spec at) h)

  variants_keep : (path : List Element) (set : List ℕ) (names : List (List ℕ)) (at : Standing) → IsThere p at.specs → IsThere p (behind_variants specs behind path set names at).specs
  variants_keep path set [] at h = h
  variants_keep path set (name ∷ names) at h =
      variants_keep path set names (behind_variant specs behind name (path ++ Selection set name ∷ []) (spec_below specs path (Selection set name)) at)
      (variant_keeps name (path ++ Selection set name ∷ []) (spec_below specs path (Selection set name)) at h)

  sets_keep : (path : List Element) (ss : List VariantSet) (at : Standing) → IsThere p at.specs → IsThere p (behind_sets specs behind path ss at).specs
  sets_keep path [] at h = h
  sets_keep path (s ∷ ss) at h = sets_keep path ss (behind_variants specs behind path s.set s.variants (in_set specs behind s.set at)) (variants_keep path s.set s.variants (in_set specs behind s.set at) h)

  statements_keep : (path : List Element) (specifier : Specifier) (spec : Spec) (at : Standing) → IsThere p at.specs
      → IsThere p (behind_children specs behind path spec.body.children (from_children specs behind path specifier spec at)).specs
  statements_keep path specifier spec at h =
      children_keep path spec.body.children (from_children specs behind path specifier spec at)
      (sets_keep path spec.body.variant_names (from_sets specs behind path specifier spec at) (subst (IsThere p) (sym (properties_specs spec.body.properties (from_properties specs behind path specifier spec at))) h))

  child_comes : (name : List ℕ) (path : List Element) (o : Option Spec) (at : Standing) → IsFrom specs Below path o p → IsThere p (behind_child specs behind name path o at).specs
  child_comes name path None at from = absurd from
  child_comes name path (Some spec) at from = by from
    where
      begun : Standing
      begun = inside_prim specs behind name path spec at

      done : Standing
      done = behind path spec.body.specifier spec begun

      by : (p ≡ path) ⊎ Below path spec p → IsThere p (with_spec_at done.owner.said.path (spec_of done.owner) done.specs)
      by (inl same) =
          subst (λ q. IsThere p (with_spec_at q (spec_of done.owner) done.specs)) (same ∙ sym (at_path path spec.body.specifier spec.body.type_name spec (with_child name at.owner) at)) (there_now p (spec_of done.owner) done.specs)
      by (inr below) = there_stays p done.owner.said.path (spec_of done.owner) done.specs (reaches path spec.body.specifier spec begun below)

  children_come : (path : List Element) (names : List (List ℕ)) (at : Standing) → IsFromChildren specs Below path names p → IsThere p (behind_children specs behind path names at).specs
  children_come path [] at from = absurd from
  children_come path (name ∷ names) at (inl from) =
      children_keep path names (behind_child specs behind name (path ++ Prim name ∷ []) (spec_below specs path (Prim name)) at) (child_comes name (path ++ Prim name ∷ []) (spec_below specs path (Prim name)) at from)
  children_come path (name ∷ names) at (inr from) = children_come path names (behind_child specs behind name (path ++ Prim name ∷ []) (spec_below specs path (Prim name)) at) from

  variant_comes : (name : List ℕ) (path : List Element) (o : Option Spec) (at : Standing) → IsFrom specs Below path o p → IsThere p (behind_variant specs behind name path o at).specs
  variant_comes name path None at from = absurd from
  variant_comes name path (Some spec) at from = by from
    where
      begun : Standing
      begun = inside_variant specs behind name path spec at

      done : Standing
      done = behind path Over spec begun

      by : (p ≡ path) ⊎ Below path spec p → IsThere p (with_spec_at done.owner.said.path (spec_of done.owner) done.specs)
      by (inl same) = subst (λ q. IsThere p (with_spec_at q (spec_of done.owner) done.specs)) (same ∙ sym (at_path path Over None spec (with_variant name at.owner) at)) (there_now p (spec_of done.owner) done.specs)
      by (inr below) = there_stays p done.owner.said.path (spec_of done.owner) done.specs (reaches path Over spec begun below)

  variants_come : (path : List Element) (set : List ℕ) (names : List (List ℕ)) (at : Standing) → IsFromVariants specs Below path set names p → IsThere p (behind_variants specs behind path set names at).specs
  variants_come path set [] at from = absurd from
  variants_come path set (name ∷ names) at (inl from) =
      variants_keep path set names (behind_variant specs behind name (path ++ Selection set name ∷ []) (spec_below specs path (Selection set name)) at)
      (variant_comes name (path ++ Selection set name ∷ []) (spec_below specs path (Selection set name)) at from)
  variants_come path set (name ∷ names) at (inr from) = variants_come path set names (behind_variant specs behind name (path ++ Selection set name ∷ []) (spec_below specs path (Selection set name)) at) from

  sets_come : (path : List Element) (ss : List VariantSet) (at : Standing) → IsFromSets specs Below path ss p → IsThere p (behind_sets specs behind path ss at).specs
  sets_come path [] at from = absurd from
  sets_come path (s ∷ ss) at (inl from) =
      sets_keep path ss (behind_variants specs behind path s.set s.variants (in_set specs behind s.set at)) (variants_come path s.set s.variants (in_set specs behind s.set at) from)
  sets_come path (s ∷ ss) at (inr from) = sets_come path ss (behind_variants specs behind path s.set s.variants (in_set specs behind s.set at)) from

  statements_come : (path : List Element) (specifier : Specifier) (spec : Spec) (at : Standing) → IsFromSets specs Below path spec.body.variant_names p ⊎ IsFromChildren specs Below path spec.body.children p
      → IsThere p (behind_children specs behind path spec.body.children (from_children specs behind path specifier spec at)).specs
  statements_come path specifier spec at (inl from) = children_keep path spec.body.children (from_children specs behind path specifier spec at) (sets_come path spec.body.variant_names (from_sets specs behind path specifier spec at) from)
  statements_come path specifier spec at (inr from) = children_come path spec.body.children (from_children specs behind path specifier spec at) from

-- ---- the path of an owner is as it was

module _ (specs : SpecEntries) (behind : List Element → Specifier → Spec → Standing → Standing) where
  pub child_path : (name : List ℕ) (path : List Element) (o : Option Spec) (at : Standing) → (behind_child specs behind name path o at).owner.said ≡ at.owner.said
  unfolding with_child
  child_path name path None at = refl
  child_path name path (Some spec) at = refl

  children_path : (path : List Element) (names : List (List ℕ)) (at : Standing) → (behind_children specs behind path names at).owner.said ≡ at.owner.said
  children_path path [] at = refl
  children_path path (name ∷ names) at =
      children_path path names (behind_child specs behind name (path ++ Prim name ∷ []) (spec_below specs path (Prim name)) at) ∙ child_path name (path ++ Prim name ∷ []) (spec_below specs path (Prim name)) at

  pub variant_path : (name : List ℕ) (path : List Element) (o : Option Spec) (at : Standing) → (behind_variant specs behind name path o at).owner.said ≡ at.owner.said
  unfolding with_variant
  variant_path name path None at = refl
  variant_path name path (Some spec) at = refl

  pub variants_path : (path : List Element) (set : List ℕ) (names : List (List ℕ)) (at : Standing) → (behind_variants specs behind path set names at).owner.said ≡ at.owner.said
  variants_path path set [] at = refl
  variants_path path set (name ∷ names) at =
      variants_path path set names (behind_variant specs behind name (path ++ Selection set name ∷ []) (spec_below specs path (Selection set name)) at)
      ∙ variant_path name (path ++ Selection set name ∷ []) (spec_below specs path (Selection set name)) at

  pub sets_path : (path : List Element) (ss : List VariantSet) (at : Standing) → (behind_sets specs behind path ss at).owner.said ≡ at.owner.said
  unfolding with_set
  sets_path path [] at = refl
  sets_path path (s ∷ ss) at = sets_path path ss (behind_variants specs behind path s.set s.variants (in_set specs behind s.set at)) ∙ variants_path path s.set s.variants (in_set specs behind s.set at)

pub properties_path : (ps : List Property) (at : Standing) → (behind_properties ps at).owner.said ≡ at.owner.said
properties_path [] at = refl
properties_path (p ∷ ps) at = properties_path ps (with_more p (marks_of p) at)

pub body_path : (specs : SpecEntries) (levels : ℕ) (path : List Element) (specifier : Specifier) (ty : Option (List ℕ)) (spec : Spec) (round : Owner) (at : Standing)
    → (behind_body specs levels path specifier spec (inside path specifier ty spec round at)).owner.said.path ≡ path
body_path specs zero path specifier ty spec round at = refl
body_path specs (suc levels) path specifier ty spec round at =
    let behind : List Element → Specifier → Spec → Standing → Standing = behind_body specs levels in
    let begun : Standing = inside path specifier ty spec round at in
    ap (λ (s : OwnerDraft). s.path)
    (children_path specs behind path spec.body.children (from_children specs behind path specifier spec begun) ∙ sets_path specs behind path spec.body.variant_names (from_sets specs behind path specifier spec begun)
    ∙ properties_path spec.body.properties (from_properties specs behind path specifier spec begun))

-- ---- bodies

abbrev Keeps : List Element → SpecEntries → ℕ → Type 0
Keeps p specs levels = (path : List Element) (specifier : Specifier) (spec : Spec) (at : Standing) → IsThere p at.specs → IsThere p (behind_body specs levels path specifier spec at).specs

abbrev Reaches : List Element → SpecEntries → ℕ → Type 0
Reaches p specs levels = (path : List Element) (specifier : Specifier) (spec : Spec) (at : Standing) → IsReached specs levels path spec p → IsThere p (behind_body specs levels path specifier spec at).specs

bodies : (p : List Element) (specs : SpecEntries) (levels : ℕ) → Keeps p specs levels × Reaches p specs levels
bodies p specs zero = (λ path specifier spec at h. h, λ path specifier spec at h. absurd h)
bodies p specs (suc levels) =
    let below = bodies p specs levels in (
      λ path specifier spec at h. statements_keep p specs (behind_body specs levels) (IsReached specs levels) below.0 (body_path specs levels) below.1 path specifier spec at h,
      λ path specifier spec at h. statements_come p specs (behind_body specs levels) (IsReached specs levels) below.0 (body_path specs levels) below.1 path specifier spec at h,
    )

pub reached_specs_are_read : ReachedSpecsAreRead
reached_specs_are_read layer p whole from = by (spec_at p (layer_at (behind_layer layer)).specs) refl there
  where
    there : IsThere p (layer_at (behind_layer layer)).specs
    there =
        let b = bodies p layer.specs (length layer.specs) in
        children_come p layer.specs (behind_body layer.specs (length layer.specs)) (IsReached layer.specs (length layer.specs)) b.0 (body_path layer.specs (length layer.specs)) b.1 [] layer.head.root_names (behind_front layer.head) from

    by : (o : Option Spec) → spec_at p (layer_at (behind_layer layer)).specs ≡ o → is_some o ≡ true → spec_at p (layer_at (behind_layer layer)).specs ≡ spec_at p layer.specs
    by None e h = absurd cc
    by (Some x) e h = e ∙ sym (specs_are_the_layers layer whole p x e)

-- Where nothing stands yet, nothing stands behind prims and variants elsewhere.
use Rattle.std.proofs.Common.{◌≡◌, ◌∙◌, ℕ, zero, suc, List, [], ◌∷◌, ◌++◌, append-nil, Option, Some, None, sym, refl, subst}
use Rattle.sdf_paths.specs.declared.element.Element.{Element}
use Rattle.sdf_paths.specs.declared.element.Element.TheVariants.{Prim, Selection}
use Rattle.sdf_specs.specs.Layers.{SpecEntries, spec_at}
use Rattle.spec_parts.specs.declared.items.Specifier.{Specifier}
use Rattle.spec_parts.specs.declared.items.Specifier.TheVariants.{Over}
use Rattle.spec_parts.specs.declared.items.VariantSet.{VariantSet}
use Rattle.spec_parts.specs.declared.spec.Spec.{Spec}
use Rattle.usda_writer.specs.Canonical.{spec_below}
use Rattle.usda_drafts.specs.Closed.{with_spec_at}
use Rattle.usda_drafts.specs.Owners.{spec_of, with_child, with_variant}
use Rattle.usda_drafts.specs.declared.owner.Owner.{Owner}
use Rattle.layer_reads.specs.Standing.{Standing}
use Rattle.layer_reads.specs.Bodies.{inside}
use Rattle.layer_returns.specs.Trees.{behind_child, behind_children, behind_variant, behind_variants, in_set, behind_sets, from_properties, from_sets, from_children, inside_prim, inside_variant, behind_body}
use Rattle.proper_layers.proofs.Paths.{IsOutside, outside_below}
use Rattle.layer_returns.proofs.Reached.{body_path}
use Rattle.layer_returns.proofs.Whole.{one_more, properties_specs}

-- nothing stands at the path
abbrev pub IsBare : List Element → SpecEntries → Type 0
IsBare p t = spec_at p t ≡ None

bare_stays : (p q : List Element) (s : Spec) (t : SpecEntries) → IsBare p t → (p ≡ q → ⊥) → IsBare p (with_spec_at q s t)
unfolding with_spec_at
bare_stays p q s t none other = by (spec_at p (with_spec_at q s t)) refl
  where
    by : (o : Option Spec) → spec_at p (with_spec_at q s t) ≡ o → IsBare p (with_spec_at q s t)
    by None h = h
    by (Some x) h = absurd (one_more p q s (λ y. ⊥) other t (λ y found. let bad : Some y ≡ None = sym found ∙ none in cc) x h)

module _ (p : List Element) (specs : SpecEntries) (behind : List Element → Specifier → Spec → Standing → Standing)
    (keeps : (path : List Element) (specifier : Specifier) (spec : Spec) (at : Standing) → IsOutside path p → IsBare p at.specs → IsBare p (behind path specifier spec at).specs)
    (at_path : (path : List Element) (specifier : Specifier) (ty : Option (List ℕ)) (spec : Spec) (round : Owner) (at : Standing) → (behind path specifier spec (inside path specifier ty spec round at)).owner.said.path ≡ path) where
  not_here : (path q : List Element) → IsOutside path p → q ≡ path → p ≡ q → ⊥
  not_here path q out same one = out [] (one ∙ same ∙ sym (append-nil path))

  pub child_bare : (name : List ℕ) (path : List Element) (o : Option Spec) (at : Standing) → IsOutside path p → IsBare p at.specs → IsBare p (behind_child specs behind name path o at).specs
  child_bare name path None at out h = h
  child_bare name path (Some spec) at out h =
      let begun : Standing = inside_prim specs behind name path spec at in
      let done : Standing = behind path spec.body.specifier spec begun in
      bare_stays p done.owner.said.path (spec_of done.owner) done.specs (keeps path spec.body.specifier spec begun out h)
      (not_here path done.owner.said.path out (at_path path spec.body.specifier spec.body.type_name spec (with_child name at.owner) at))

  children_bare : (path : List Element) (names : List (List ℕ)) (at : Standing) → ((name : List ℕ) → IsOutside (path ++ Prim name ∷ []) p) → IsBare p at.specs → IsBare p (behind_children specs behind path names at).specs
  children_bare path [] at out h = h
  children_bare path (name ∷ names) at out h =
      children_bare path names (behind_child specs behind name (path ++ Prim name ∷ []) (spec_below specs path (Prim name)) at) out
      (child_bare name (path ++ Prim name ∷ []) (spec_below specs path (Prim name)) at (out name) h)

  pub variant_bare : (name : List ℕ) (path : List Element) (o : Option Spec) (at : Standing) → IsOutside path p → IsBare p at.specs → IsBare p (behind_variant specs behind name path o at).specs
  variant_bare name path None at out h = h
  variant_bare name path (Some spec) at out h =
      let begun : Standing = inside_variant specs behind name path spec at in
      let done : Standing = behind path Over spec begun in
      bare_stays p done.owner.said.path (spec_of done.owner) done.specs (keeps path Over spec begun out h) (not_here path done.owner.said.path out (at_path path Over None spec (with_variant name at.owner) at))

  pub variants_bare : (path : List Element) (set : List ℕ) (names : List (List ℕ)) (at : Standing) → ((name : List ℕ) → IsOutside (path ++ Selection set name ∷ []) p) → IsBare p at.specs
      → IsBare p (behind_variants specs behind path set names at).specs
  variants_bare path set [] at out h = h
  variants_bare path set (name ∷ names) at out h =
      variants_bare path set names (behind_variant specs behind name (path ++ Selection set name ∷ []) (spec_below specs path (Selection set name)) at) out
      (variant_bare name (path ++ Selection set name ∷ []) (spec_below specs path (Selection set name)) at (out name) h)

  pub sets_bare : (path : List Element) (ss : List VariantSet) (at : Standing) → ((set name : List ℕ) → IsOutside (path ++ Selection set name ∷ []) p) → IsBare p at.specs → IsBare p (behind_sets specs behind path ss at).specs
  sets_bare path [] at out h = h
  sets_bare path (s ∷ ss) at out h =
      sets_bare path ss (behind_variants specs behind path s.set s.variants (in_set specs behind s.set at)) out (variants_bare path s.set s.variants (in_set specs behind s.set at) (out s.set) h)

  statements_bare : (path : List Element) (specifier : Specifier) (spec : Spec) (at : Standing) → IsOutside path p → IsBare p at.specs
      → IsBare p (behind_children specs behind path spec.body.children (from_children specs behind path specifier spec at)).specs
  statements_bare path specifier spec at out h =
      children_bare path spec.body.children (from_children specs behind path specifier spec at) (λ name. outside_below path (Prim name) p out)
      (sets_bare path spec.body.variant_names (from_sets specs behind path specifier spec at) (λ set name. outside_below path (Selection set name) p out)
      (subst (IsBare p) (sym (properties_specs spec.body.properties (from_properties specs behind path specifier spec at))) h))

pub bodies_bare : (p : List Element) (specs : SpecEntries) (levels : ℕ) (path : List Element) (specifier : Specifier) (spec : Spec) (at : Standing) → IsOutside path p → IsBare p at.specs
    → IsBare p (behind_body specs levels path specifier spec at).specs
bodies_bare p specs zero path specifier spec at out h = h
bodies_bare p specs (suc levels) path specifier spec at out h = statements_bare p specs (behind_body specs levels) (bodies_bare p specs levels) (body_path specs levels) path specifier spec at out h

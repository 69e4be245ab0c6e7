-- The statements of a prim or a variant, with all that stands below it.
use Rattle.std.proofs.Common.{◌≡◌, ◌∙◌, ℕ, zero, suc, List, [], ◌∷◌, ◌++◌, Option, Some, None, refl}
use Rattle.std.specs.Prelude.{codes}
use Rattle.std.specs.List.{flat_map}
use Rattle.sdf_paths.specs.declared.element.Element.{Element}
use Rattle.sdf_paths.specs.declared.element.Element.TheVariants.{Prim, Selection}
use Rattle.sdf_specs.specs.Layers.{SpecEntries}
use Rattle.spec_parts.specs.declared.items.Specifier.{Specifier}
use Rattle.spec_parts.specs.declared.items.Specifier.TheVariants.{Over}
use Rattle.spec_parts.specs.declared.items.VariantSet.{VariantSet}
use Rattle.spec_parts.specs.declared.spec.Spec.{Spec}
use Rattle.spec_properties.specs.declared.property.Property.{Property}
use Rattle.usda_fields.specs.declared.owner.OrderWord.TheVariants.{NameChildren, PropertyNames}
use Rattle.usda_grammar.specs.declared.symbols.Symbol.TheVariants as symbol
use Rattle.usda_writer.specs.Canonical.{spec_below}
use Rattle.usda_drafts.specs.declared.draft.Draft.{Draft}
use Rattle.value_texts.specs.Cuts.{Said}
use Rattle.layer_texts.specs.LayerWords.{order_words, child_words, child_words_below, children_words, variant_words, variant_words_below, set_words, statement_words, body_words}
use Rattle.layer_texts.specs.PropertyWords.{property_words}
use Rattle.layer_reads.specs.Items.{AreItems}
use Rattle.layer_reads.specs.Kept.{has_items}
use Rattle.layer_reads.specs.Specs.{behind_metadata}
use Rattle.layer_reads.specs.Standing.{Standing, saying, IsAt}
use Rattle.layer_reads.proofs.Items.{no_items, items_both}
use Rattle.layer_reads.specs.Bodies.{Rests, with_order}
use Rattle.layer_returns.specs.Trees.{behind_properties, ArePropertiesKept, behind_child, IsChildKept, behind_children, AreChildrenKept, behind_variant, IsVariantKept, behind_variants, AreVariantsKept, in_set, behind_sets, AreSetsKept, from_properties, from_sets, from_children, behind_statements, AreStatementsKept, behind_body, IsBodyKept, AreBodiesRead, AreRootsRead, inside_prim, inside_variant}
use Rattle.layer_reads.proofs.Bodies.{body_orders}
use Rattle.layer_reads.proofs.Prims.{child_read, root_read}
use Rattle.layer_reads.proofs.Relationships.{property_read}
use Rattle.layer_reads.proofs.Variants.{variant_read, set_read}
use Rattle.layer_reads.specs.Properties.{with_more, marks_of}

properties_items : (ps : List Property) (at : Standing) → ArePropertiesKept ps at → AreItems symbol.PrimBody (flat_map property_words ps) (Rests at) (Rests (behind_properties ps at))
properties_items [] at kept = no_items symbol.PrimBody (Rests at) (Rests at) (λ d h. h)
properties_items (p ∷ ps) at kept =
    items_both symbol.PrimBody (property_words p) (flat_map property_words ps) (Rests at) (Rests (with_more p (marks_of p) at)) (Rests (behind_properties ps (with_more p (marks_of p) at))) (property_read p at kept.0 kept.1 kept.2)
    (properties_items ps (with_more p (marks_of p) at) kept.3)

properties_outer : (ps : List Property) (at : Standing) → (behind_properties ps at).outer ≡ at.outer
properties_outer [] at = refl
properties_outer (p ∷ ps) at = properties_outer ps (with_more p (marks_of p) at)

module _ (specs : SpecEntries) (behind : List Element → Specifier → Spec → Standing → Standing) where
  -- ---- what stands round is as it was

  child_outer : (name : List ℕ) (path : List Element) (o : Option Spec) (at : Standing) → (behind_child specs behind name path o at).outer ≡ at.outer
  child_outer name path None at = refl
  child_outer name path (Some spec) at = refl

  children_outer : (path : List Element) (names : List (List ℕ)) (at : Standing) → (behind_children specs behind path names at).outer ≡ at.outer
  children_outer path [] at = refl
  children_outer path (name ∷ names) at =
      children_outer path names (behind_child specs behind name (path ++ Prim name ∷ []) (spec_below specs path (Prim name)) at) ∙ child_outer name (path ++ Prim name ∷ []) (spec_below specs path (Prim name)) at

  variant_outer : (name : List ℕ) (path : List Element) (o : Option Spec) (at : Standing) → (behind_variant specs behind name path o at).outer ≡ at.outer
  variant_outer name path None at = refl
  variant_outer name path (Some spec) at = refl

  variants_outer : (path : List Element) (set : List ℕ) (names : List (List ℕ)) (at : Standing) → (behind_variants specs behind path set names at).outer ≡ at.outer
  variants_outer path set [] at = refl
  variants_outer path set (name ∷ names) at =
      variants_outer path set names (behind_variant specs behind name (path ++ Selection set name ∷ []) (spec_below specs path (Selection set name)) at) ∙ variant_outer name (path ++ Selection set name ∷ []) (spec_below specs path (Selection set name)) at

  sets_outer : (path : List Element) (ss : List VariantSet) (at : Standing) → (behind_sets specs behind path ss at).outer ≡ at.outer
  sets_outer path [] at = refl
  sets_outer path (s ∷ ss) at = sets_outer path ss (behind_variants specs behind path s.set s.variants (in_set specs behind s.set at)) ∙ variants_outer path s.set s.variants (in_set specs behind s.set at)

  pub statements_outer : (path : List Element) (specifier : Specifier) (spec : Spec) (at : Standing) → (behind_statements specs behind path specifier spec at).outer ≡ at.outer
  statements_outer path specifier spec at =
      children_outer path spec.body.children (from_children specs behind path specifier spec at) ∙ sets_outer path spec.body.variant_names (from_sets specs behind path specifier spec at)
      ∙ properties_outer spec.body.properties (from_properties specs behind path specifier spec at)

module _ (specs : SpecEntries) (words : List Element → Spec → List Said) (behind : List Element → Specifier → Spec → Standing → Standing) (Kept : List Element → Specifier → Spec → Standing → Type 0)
    (outer : (path : List Element) (specifier : Specifier) (spec : Spec) (at : Standing) → (behind path specifier spec at).outer ≡ at.outer)
    (read : (path : List Element) (specifier : Specifier) (spec : Spec) (at : Standing) → Kept path specifier spec at → AreItems symbol.PrimBody (words path spec) (Rests (saying (behind_metadata path specifier spec) at)) (Rests (behind path specifier spec at))) where
  -- ---- children

  child_items : (name : List ℕ) (path : List Element) (o : Option Spec) (at : Standing) → IsChildKept specs behind Kept name path o at → AreItems symbol.PrimBody (child_words specs words name o path) (Rests at) (Rests (behind_child specs behind name path o at))
  child_items name path None at kept = no_items symbol.PrimBody (Rests at) (Rests at) (λ d h. h)
  child_items name path (Some spec) at kept =
      let begun : Standing = inside_prim specs behind name path spec at in
      child_read name path spec at (behind path spec.body.specifier spec begun) (words path spec) kept.0 kept.1 (outer path spec.body.specifier spec begun) (read path spec.body.specifier spec begun kept.2)

  children_items : (path : List Element) (names : List (List ℕ)) (at : Standing) → AreChildrenKept specs behind Kept path names at → AreItems symbol.PrimBody (children_words specs words path names) (Rests at) (Rests (behind_children specs behind path names at))
  children_items path [] at kept = no_items symbol.PrimBody (Rests at) (Rests at) (λ d h. h)
  children_items path (name ∷ names) at kept =
      let next : Standing = behind_child specs behind name (path ++ Prim name ∷ []) (spec_below specs path (Prim name)) at in
      items_both symbol.PrimBody (child_words_below specs words path name) (children_words specs words path names) (Rests at) (Rests next) (Rests (behind_children specs behind path names next))
      (child_items name (path ++ Prim name ∷ []) (spec_below specs path (Prim name)) at kept.0) (children_items path names next kept.1)

  -- the root prims
  root_items : (name : List ℕ) (path : List Element) (o : Option Spec) (at : Standing) → IsChildKept specs behind Kept name path o at → AreItems symbol.RootStatements (child_words specs words name o path) (IsAt at) (IsAt (behind_child specs behind name path o at))
  root_items name path None at kept = no_items symbol.RootStatements (IsAt at) (IsAt at) (λ d h. h)
  root_items name path (Some spec) at kept =
      let begun : Standing = inside_prim specs behind name path spec at in
      root_read name path spec at (behind path spec.body.specifier spec begun) (words path spec) kept.0 kept.1 (outer path spec.body.specifier spec begun) (read path spec.body.specifier spec begun kept.2)

  pub roots_items : (path : List Element) (names : List (List ℕ)) (at : Standing) → AreChildrenKept specs behind Kept path names at → AreItems symbol.RootStatements (children_words specs words path names) (IsAt at) (IsAt (behind_children specs behind path names at))
  roots_items path [] at kept = no_items symbol.RootStatements (IsAt at) (IsAt at) (λ d h. h)
  roots_items path (name ∷ names) at kept =
      let next : Standing = behind_child specs behind name (path ++ Prim name ∷ []) (spec_below specs path (Prim name)) at in
      items_both symbol.RootStatements (child_words_below specs words path name) (children_words specs words path names) (IsAt at) (IsAt next) (IsAt (behind_children specs behind path names next))
      (root_items name (path ++ Prim name ∷ []) (spec_below specs path (Prim name)) at kept.0) (roots_items path names next kept.1)

  -- ---- variants

  variant_items : (name : List ℕ) (path : List Element) (o : Option Spec) (at : Standing) → IsVariantKept specs behind Kept name path o at → AreItems symbol.VariantList (variant_words specs words name o path) (IsAt at) (IsAt (behind_variant specs behind name path o at))
  variant_items name path None at kept = no_items symbol.VariantList (IsAt at) (IsAt at) (λ d h. h)
  variant_items name path (Some spec) at kept =
      let begun : Standing = inside_variant specs behind name path spec at in
      variant_read name path spec at (behind path Over spec begun) (words path spec) kept.0 kept.1 (outer path Over spec begun) (read path Over spec begun kept.2)

  variants_items : (path : List Element) (set : List ℕ) (names : List (List ℕ)) (at : Standing) → AreVariantsKept specs behind Kept path set names at
      → AreItems symbol.VariantList (flat_map (variant_words_below specs words path set) names) (IsAt at) (IsAt (behind_variants specs behind path set names at))
  variants_items path set [] at kept = no_items symbol.VariantList (IsAt at) (IsAt at) (λ d h. h)
  variants_items path set (name ∷ names) at kept =
      let next : Standing = behind_variant specs behind name (path ++ Selection set name ∷ []) (spec_below specs path (Selection set name)) at in
      items_both symbol.VariantList (variant_words_below specs words path set name) (flat_map (variant_words_below specs words path set) names) (IsAt at) (IsAt next) (IsAt (behind_variants specs behind path set names next))
      (variant_items name (path ++ Selection set name ∷ []) (spec_below specs path (Selection set name)) at kept.0) (variants_items path set names next kept.1)

  sets_items : (path : List Element) (ss : List VariantSet) (at : Standing) → AreSetsKept specs behind Kept path ss at → AreItems symbol.PrimBody (flat_map (set_words specs words path) ss) (Rests at) (Rests (behind_sets specs behind path ss at))
  sets_items path [] at kept = no_items symbol.PrimBody (Rests at) (Rests at) (λ d h. h)
  sets_items path (s ∷ ss) at kept =
      let next : Standing = behind_variants specs behind path s.set s.variants (in_set specs behind s.set at) in
      items_both symbol.PrimBody (set_words specs words path s) (flat_map (set_words specs words path) ss) (Rests at) (Rests next) (Rests (behind_sets specs behind path ss next))
      (set_read s.set at next (flat_map (variant_words_below specs words path s.set) s.variants) kept.0 kept.1 kept.2 (variants_items path s.set s.variants (in_set specs behind s.set at) kept.3)) (sets_items path ss next kept.4)

  -- ---- the whole body

  pub statements_items : (path : List Element) (specifier : Specifier) (spec : Spec) (at : Standing) → AreStatementsKept specs behind Kept path specifier spec at
      → AreItems symbol.PrimBody (statement_words specs words path spec) (Rests (saying (behind_metadata path specifier spec) at)) (Rests (behind_statements specs behind path specifier spec at))
  statements_items path specifier spec at kept =
      let s0 : Draft → Type 0 = Rests (saying (behind_metadata path specifier spec) at) in
      let s1 : Draft → Type 0 = Rests (saying (with_order NameChildren spec.body.child_order (has_items spec.body.child_order) (behind_metadata path specifier spec)) at) in
      let s2 : Draft → Type 0 = Rests (from_properties specs behind path specifier spec at) in
      let s3 : Draft → Type 0 = Rests (from_sets specs behind path specifier spec at) in
      let s4 : Draft → Type 0 = Rests (from_children specs behind path specifier spec at) in
      let s5 : Draft → Type 0 = Rests (behind_statements specs behind path specifier spec at) in
      let w1 : List Said = order_words (codes "nameChildren") spec.body.child_order in
      let w2 : List Said = order_words (codes "properties") spec.body.property_order in
      let w3 : List Said = flat_map property_words spec.body.properties in
      let w4 : List Said = flat_map (set_words specs words path) spec.body.variant_names in
      let w5 : List Said = children_words specs words path spec.body.children in
      items_both symbol.PrimBody (w1 ++ w2 ++ w3 ++ w4) w5 s0 s4 s5
      (items_both symbol.PrimBody (w1 ++ w2 ++ w3) w4 s0 s3 s4
      (items_both symbol.PrimBody (w1 ++ w2) w3 s0 s2 s3
      (items_both symbol.PrimBody w1 w2 s0 s1 s2 (body_orders NameChildren spec.body.child_order (behind_metadata path specifier spec) at kept.child_order)
      (body_orders PropertyNames spec.body.property_order (with_order NameChildren spec.body.child_order (has_items spec.body.child_order) (behind_metadata path specifier spec)) at kept.property_order))
      (properties_items spec.body.properties (from_properties specs behind path specifier spec at) kept.properties)) (sets_items path spec.body.variant_names (from_sets specs behind path specifier spec at) kept.sets))
      (children_items path spec.body.children (from_children specs behind path specifier spec at) kept.children)

body_outer : (specs : SpecEntries) (levels : ℕ) (path : List Element) (specifier : Specifier) (spec : Spec) (at : Standing) → (behind_body specs levels path specifier spec at).outer ≡ at.outer
body_outer specs zero path specifier spec at = refl
body_outer specs (suc levels) path specifier spec at =
    statements_outer specs (behind_body specs levels) path specifier spec at

pub body_read : AreBodiesRead
unfolding body_words
body_read specs zero path specifier spec at kept = no_items symbol.PrimBody (Rests (saying (behind_metadata path specifier spec) at)) (Rests (saying (behind_metadata path specifier spec) at)) (λ d h. h)
body_read specs (suc levels) path specifier spec at kept =
    statements_items specs (body_words specs levels) (behind_body specs levels) (IsBodyKept specs levels) (body_outer specs levels) (body_read specs levels) path specifier spec at kept

pub roots_read : AreRootsRead
roots_read specs levels path names at kept =
    roots_items specs (body_words specs levels) (behind_body specs levels) (IsBodyKept specs levels) (body_outer specs levels) (body_read specs levels) path names at kept

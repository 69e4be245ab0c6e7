-- The statements of a prim or a variant, with all that stands below it.
use Rattle.std.specs.Prelude.{◌≡◌, ℕ, zero, suc, false, true, List, [], ◌∷◌, ◌++◌, Option, Some, None}
use Rattle.std.specs.Str.{is_utf8}
use Rattle.sdf_paths.specs.Paths.{plain}
use Rattle.sdf_paths.specs.declared.element.Element.{Element}
use Rattle.sdf_paths.specs.declared.element.Element.TheVariants.{Prim, Selection}
use Rattle.sdf_specs.specs.Layers.{SpecEntries}
use Rattle.spec_parts.specs.declared.items.Specifier.{Specifier}
use Rattle.spec_parts.specs.declared.items.Specifier.TheVariants.{Over}
use Rattle.spec_parts.specs.declared.items.VariantSet.{VariantSet}
use Rattle.spec_parts.specs.declared.spec.Spec.{Spec}
use Rattle.spec_properties.specs.Properties.{property_name, property_at}
use Rattle.spec_properties.specs.declared.property.Property.{Property}
use Rattle.usd_names.specs.Names.{is_identifier}
use Rattle.usda_fields.specs.declared.owner.OrderWord.TheVariants.{NameChildren, PropertyNames}
use Rattle.usda_fields.specs.declared.owner.OwnerDraft.{OwnerDraft}
use Rattle.usda_grammar.specs.declared.symbols.Symbol.TheVariants as symbol
use Rattle.usda_statements.specs.PropertyDrafts.{is_named}
use Rattle.usda_writer.specs.Canonical.{spec_below}
use Rattle.usda_drafts.specs.Owners.{with_child, with_set, with_variant, has_set}
use Rattle.layer_texts.specs.LayerWords.{body_words, children_words}
use Rattle.layer_reads.specs.Items.{AreItems}
use Rattle.layer_reads.specs.Kept.{has_items}
use Rattle.layer_reads.specs.Specs.{IsSpecKept, behind_metadata}
use Rattle.layer_reads.specs.Standing.{Standing, saying, IsAt}
use Rattle.layer_reads.specs.Bodies.{Rests, IsPrimPlace, IsVariantPlace, with_order, inside, closed}
use Rattle.layer_reads.specs.Properties.{with_more, marks_of, IsPropertyKept}
use Rattle.value_texts.specs.Each.{AreAll}

-- what an owner says behind its orders
abbrev pub behind_orders : List Element → Specifier → Spec → OwnerDraft
behind_orders path specifier spec =
    with_order PropertyNames spec.body.property_order (has_items spec.body.property_order) (with_order NameChildren spec.body.child_order (has_items spec.body.child_order) (behind_metadata path specifier spec))

-- where a draft stands behind properties
abbrev pub behind_properties : List Property → Standing → Standing
behind_properties [] at = at
behind_properties (p ∷ ps) at = behind_properties ps (with_more p (marks_of p) at)

-- the properties may stand there: each has a name of its own
abbrev pub ArePropertiesKept : List Property → Standing → Type 0
ArePropertiesKept [] at = Unit {0}
ArePropertiesKept (p ∷ ps) at =
    (is_named (property_name p) ≡ true) × (property_at (property_name p) at.owner.properties ≡ None) × IsPropertyKept at.owner.said.base p × ArePropertiesKept ps (with_more p (marks_of p) at)

-- `behind` is where a draft stands behind the statements of a prim or a variant further down
module _ (specs : SpecEntries) (behind : List Element → Specifier → Spec → Standing → Standing) where
  -- inside a prim of this path, and behind it
  abbrev pub inside_prim : List ℕ → List Element → Spec → Standing → Standing
  inside_prim name path spec at = inside path spec.body.specifier spec.body.type_name spec (with_child name at.owner) at

  -- behind a child and its body; a name without a spec is no prim
  abbrev pub behind_child : List ℕ → List Element → Option Spec → Standing → Standing
  behind_child name path None at = at
  behind_child name path (Some spec) at = closed (with_child name at.owner) at (behind path spec.body.specifier spec (inside_prim name path spec at))

  -- behind the children of these names, one after the other
  abbrev pub behind_children : List Element → List (List ℕ) → Standing → Standing
  behind_children path [] at = at
  behind_children path (name ∷ names) at = behind_children path names (behind_child name (path ++ Prim name ∷ []) (spec_below specs path (Prim name)) at)

  -- the same of the variants of a set, which are `over` and have no type
  abbrev pub inside_variant : List ℕ → List Element → Spec → Standing → Standing
  inside_variant name path spec at = inside path Over None spec (with_variant name at.owner) at

  -- behind a variant and its body; a name without a spec is no variant
  abbrev pub behind_variant : List ℕ → List Element → Option Spec → Standing → Standing
  behind_variant name path None at = at
  behind_variant name path (Some spec) at = closed (with_variant name at.owner) at (behind path Over spec (inside_variant name path spec at))

  -- behind these variants of a set, one after the other
  abbrev pub behind_variants : List Element → List ℕ → List (List ℕ) → Standing → Standing
  behind_variants path set [] at = at
  behind_variants path set (name ∷ names) at = behind_variants path set names (behind_variant name (path ++ Selection set name ∷ []) (spec_below specs path (Selection set name)) at)

  -- a variant set has begun
  abbrev pub in_set : List ℕ → Standing → Standing
  in_set set at = record at { owner = with_set set at.owner }

  -- behind these variant sets, one after the other
  abbrev pub behind_sets : List Element → List VariantSet → Standing → Standing
  behind_sets path [] at = at
  behind_sets path (s ∷ ss) at = behind_sets path ss (behind_variants path s.set s.variants (in_set s.set at))

  -- the parts of a body, one behind the other
  abbrev pub from_properties : List Element → Specifier → Spec → Standing → Standing
  from_properties path specifier spec at = saying (behind_orders path specifier spec) at

  -- behind the properties, where the variant sets begin
  abbrev pub from_sets : List Element → Specifier → Spec → Standing → Standing
  from_sets path specifier spec at = behind_properties spec.body.properties (from_properties path specifier spec at)

  -- behind the variant sets, where the children begin
  abbrev pub from_children : List Element → Specifier → Spec → Standing → Standing
  from_children path specifier spec at = behind_sets path spec.body.variant_names (from_sets path specifier spec at)

  -- behind the children, and so behind the whole body
  abbrev pub behind_statements : List Element → Specifier → Spec → Standing → Standing
  behind_statements path specifier spec at = behind_children path spec.body.children (from_children path specifier spec at)

  -- `Kept` tells of statements further down whether they may stand there
  module _ (Kept : List Element → Specifier → Spec → Standing → Type 0) where
    -- a child has a place of its own, and its metadata and its body come back; of a name without a spec nothing is asked
    abbrev pub IsChildKept : List ℕ → List Element → Option Spec → Standing → Type 0
    IsChildKept name path None at = Unit {0}
    IsChildKept name path (Some spec) at = IsPrimPlace name path at × IsSpecKept (plain path) spec × Kept path spec.body.specifier spec (inside_prim name path spec at)

    -- the children of these names may stand there, one after the other
    abbrev pub AreChildrenKept : List Element → List (List ℕ) → Standing → Type 0
    AreChildrenKept path [] at = Unit {0}
    AreChildrenKept path (name ∷ names) at =
        IsChildKept name (path ++ Prim name ∷ []) (spec_below specs path (Prim name)) at × AreChildrenKept path names (behind_child name (path ++ Prim name ∷ []) (spec_below specs path (Prim name)) at)

    -- a variant has a place of its own, and its metadata and its body come back; of a name without a spec nothing is asked
    abbrev pub IsVariantKept : List ℕ → List Element → Option Spec → Standing → Type 0
    IsVariantKept name path None at = Unit {0}
    IsVariantKept name path (Some spec) at = IsVariantPlace name path at × IsSpecKept (plain path) spec × Kept path Over spec (inside_variant name path spec at)

    -- these variants of a set may stand there, one after the other
    abbrev pub AreVariantsKept : List Element → List ℕ → List (List ℕ) → Standing → Type 0
    AreVariantsKept path set [] at = Unit {0}
    AreVariantsKept path set (name ∷ names) at =
        IsVariantKept name (path ++ Selection set name ∷ []) (spec_below specs path (Selection set name)) at
        × AreVariantsKept path set names (behind_variant name (path ++ Selection set name ∷ []) (spec_below specs path (Selection set name)) at)

    -- these variant sets may stand there: each has a name that is an identifier and that no set before it has
    abbrev pub AreSetsKept : List Element → List VariantSet → Standing → Type 0
    AreSetsKept path [] at = Unit {0}
    AreSetsKept path (s ∷ ss) at =
        (is_utf8 s.set ≡ true) × (is_identifier s.set ≡ true) × (has_set s.set at.owner ≡ false) × AreVariantsKept path s.set s.variants (in_set s.set at) × AreSetsKept path ss (behind_variants path s.set s.variants (in_set s.set at))

    -- orders, properties, variant sets and children that may stand there in this order
    pub record AreStatementsKept (path : List Element) (specifier : Specifier) (spec : Spec) (at : Standing) : Type 0 where
      pub child_order : AreAll (λ t. is_utf8 t ≡ true) spec.body.child_order
      pub property_order : AreAll (λ t. is_utf8 t ≡ true) spec.body.property_order
      pub properties : ArePropertiesKept spec.body.properties (from_properties path specifier spec at)
      pub sets : AreSetsKept path spec.body.variant_names (from_sets path specifier spec at)
      pub children : AreChildrenKept path spec.body.children (from_children path specifier spec at)

-- where a draft stands behind a body of at most so many levels
abbrev pub behind_body : SpecEntries → ℕ → List Element → Specifier → Spec → Standing → Standing
behind_body specs zero path specifier spec at = saying (behind_metadata path specifier spec) at
behind_body specs (suc levels) path specifier spec at = behind_statements specs (behind_body specs levels) path specifier spec at

-- the body may stand there: each part of it comes back, and has a place of its own
abbrev pub IsBodyKept : SpecEntries → ℕ → List Element → Specifier → Spec → Standing → Type 0
IsBodyKept specs zero path specifier spec at = Unit {0}
IsBodyKept specs (suc levels) path specifier spec at = AreStatementsKept specs (behind_body specs levels) (IsBodyKept specs levels) path specifier spec at

-- The words of a body lead from inside a prim or a variant of which the metadata was read to the end of the body.
abbrev pub AreBodiesRead : Type 0
AreBodiesRead =
    (specs : SpecEntries) (levels : ℕ) (path : List Element) (specifier : Specifier) (spec : Spec) (at : Standing) → IsBodyKept specs levels path specifier spec at
    → AreItems symbol.PrimBody (body_words specs levels path spec) (Rests (saying (behind_metadata path specifier spec) at)) (Rests (behind_body specs levels path specifier spec at))

-- The words of root prims, each with all that stands below it, lead from the statements of a layer to what stands behind them.
abbrev pub AreRootsRead : Type 0
AreRootsRead =
    (specs : SpecEntries) (levels : ℕ) (path : List Element) (names : List (List ℕ)) (at : Standing) → AreChildrenKept specs (behind_body specs levels) (IsBodyKept specs levels) path names at
    → AreItems symbol.RootStatements (children_words specs (body_words specs levels) path names) (IsAt at) (IsAt (behind_children specs (behind_body specs levels) path names at))

-- bodies and root prims come back with all that stands below them
pub record AreTreesRead : Type 0 where
  pub bodies : AreBodiesRead
  pub roots : AreRootsRead

-- The specs of the prims and variants that are read.
use Rattle.std.specs.Prelude.{◌≡◌, ℕ, zero, suc, List, [], ◌∷◌, ◌++◌, length, Option, Some, None}
use Rattle.sdf_paths.specs.declared.element.Element.{Element}
use Rattle.sdf_paths.specs.declared.element.Element.TheVariants.{Prim, Selection}
use Rattle.sdf_specs.specs.Layers.{LayerTable, SpecEntries, spec_at}
use Rattle.spec_parts.specs.declared.items.Specifier.TheVariants.{Over}
use Rattle.spec_parts.specs.declared.items.VariantSet.{VariantSet}
use Rattle.spec_parts.specs.declared.spec.Spec.{Spec}
use Rattle.usda_writer.specs.Canonical.{spec_below}
use Rattle.value_texts.specs.Each.{AreAll}
use Rattle.layer_returns.specs.Layers.{layer_at, behind_layer}

-- `Whole` tells of a prim or a variant further down whether all that it names has specs
module _ (specs : SpecEntries) (Whole : List Element → Spec → Type 0) where
  -- a child has a spec, and so has all that it names
  abbrev pub IsChildWhole : List Element → Option Spec → Type 0
  IsChildWhole path None = ⊥
  IsChildWhole path (Some spec) = Whole path spec

  -- a variant is `over` and has no type
  abbrev pub IsVariantWhole : List Element → Option Spec → Type 0
  IsVariantWhole path None = ⊥
  IsVariantWhole path (Some spec) = (spec.body.specifier ≡ Over) × (spec.body.type_name ≡ None) × Whole path spec

  -- each child of these names is whole
  abbrev pub AreChildrenWhole : List Element → List (List ℕ) → Type 0
  AreChildrenWhole path names = AreAll (λ name. IsChildWhole (path ++ Prim name ∷ []) (spec_below specs path (Prim name))) names

  -- each variant of the set is whole
  abbrev pub AreVariantsWhole : List Element → VariantSet → Type 0
  AreVariantsWhole path s = AreAll (λ name. IsVariantWhole (path ++ Selection s.set name ∷ []) (spec_below specs path (Selection s.set name))) s.variants

  -- all children and all variants of a spec are whole
  pub record AreAllWhole (path : List Element) (spec : Spec) : Type 0 where
    pub children : AreChildrenWhole path spec.body.children
    pub variants : AreAll (AreVariantsWhole path) spec.body.variant_names

-- all that a prim or a variant names has specs, and so on down, in at most so many levels
abbrev pub IsWhole : SpecEntries → ℕ → List Element → Spec → Type 0
IsWhole specs zero path spec = ⊥
IsWhole specs (suc levels) path spec = AreAllWhole specs (IsWhole specs levels) path spec

-- the specs of one table are among those of another
abbrev pub AreAmong : SpecEntries → SpecEntries → Type 0
AreAmong some all = (path : List Element) (spec : Spec) → spec_at path some ≡ Some spec → spec_at path all ≡ Some spec

-- Where all prims and variants that a layer names have specs, each spec that is read from its text is the layer's at its path.
abbrev pub SpecsAreTheLayers : Type 0
SpecsAreTheLayers = (layer : LayerTable) → AreChildrenWhole layer.specs (IsWhole layer.specs (length layer.specs)) [] layer.head.root_names → AreAmong (layer_at (behind_layer layer)).specs layer.specs

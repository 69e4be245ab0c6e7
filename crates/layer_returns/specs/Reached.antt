-- The prims and variants that are reached from the names of a layer.
use Rattle.std.specs.Prelude.{◌≡◌, ◌⊎◌, ℕ, zero, suc, List, [], ◌∷◌, ◌++◌, length, Option, Some, None}
use Rattle.sdf_paths.specs.declared.element.Element.{Element}
use Rattle.sdf_paths.specs.declared.element.Element.TheVariants.{Prim, Selection}
use Rattle.sdf_specs.specs.Layers.{LayerTable, SpecEntries, spec_at}
use Rattle.spec_parts.specs.declared.items.VariantSet.{VariantSet}
use Rattle.spec_parts.specs.declared.spec.Spec.{Spec}
use Rattle.usda_writer.specs.Canonical.{spec_below}
use Rattle.layer_returns.specs.Layers.{layer_at, behind_layer}
use Rattle.layer_returns.specs.Whole.{AreChildrenWhole, IsWhole}

-- `Below` tells whether a path is reached from a prim or a variant further down
module _ (specs : SpecEntries) (Below : List Element → Spec → List Element → Type 0) where
  -- a path is that of a prim or a variant which has a spec, or is reached from it
  abbrev pub IsFrom : List Element → Option Spec → List Element → Type 0
  IsFrom path None p = ⊥
  IsFrom path (Some spec) p = (p ≡ path) ⊎ Below path spec p

  -- a path is reached from one of the children of these names
  abbrev pub IsFromChildren : List Element → List (List ℕ) → List Element → Type 0
  IsFromChildren path [] p = ⊥
  IsFromChildren path (name ∷ names) p = IsFrom (path ++ Prim name ∷ []) (spec_below specs path (Prim name)) p ⊎ IsFromChildren path names p

  -- a path is reached from one of these variants of a set
  abbrev pub IsFromVariants : List Element → List ℕ → List (List ℕ) → List Element → Type 0
  IsFromVariants path set [] p = ⊥
  IsFromVariants path set (name ∷ names) p = IsFrom (path ++ Selection set name ∷ []) (spec_below specs path (Selection set name)) p ⊎ IsFromVariants path set names p

  -- a path is reached from a variant of one of these sets
  abbrev pub IsFromSets : List Element → List VariantSet → List Element → Type 0
  IsFromSets path [] p = ⊥
  IsFromSets path (s ∷ ss) p = IsFromVariants path s.set s.variants p ⊎ IsFromSets path ss p

-- a path is reached from what a prim or a variant names, in at most so many levels
abbrev pub IsReached : SpecEntries → ℕ → List Element → Spec → List Element → Type 0
IsReached specs zero path spec p = ⊥
IsReached specs (suc levels) path spec p = IsFromSets specs (IsReached specs levels) path spec.body.variant_names p ⊎ IsFromChildren specs (IsReached specs levels) path spec.body.children p

-- Where all prims and variants that a layer names have specs, the spec at each path that is reached from its root prims is read, and it is
-- the layer's.
abbrev pub ReachedSpecsAreRead : Type 0
ReachedSpecsAreRead =
    (layer : LayerTable) (p : List Element) → AreChildrenWhole layer.specs (IsWhole layer.specs (length layer.specs)) [] layer.head.root_names
    → IsFromChildren layer.specs (IsReached layer.specs (length layer.specs)) [] layer.head.root_names p → spec_at p (layer_at (behind_layer layer)).specs ≡ spec_at p layer.specs

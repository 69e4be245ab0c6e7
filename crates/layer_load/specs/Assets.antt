-- The assets that a layer names, in the order in which its canonical text has them.
use Rattle.std.specs.Prelude.{ℕ, zero, suc, List, [], ◌∷◌, ◌++◌, length, map, Option, Some, None}
use Rattle.std.specs.List.{flat_map}
use Rattle.list_ops.specs.declared.op.ListOp.{ListOp}
use Rattle.sdf_paths.specs.declared.element.Element.{Element}
use Rattle.sdf_paths.specs.declared.element.Element.TheVariants.{Prim, Selection}
use Rattle.sdf_specs.specs.Layers.{LayerTable, SpecEntries}
use Rattle.spec_parts.specs.declared.items.RefItem.{RefItem}
use Rattle.spec_parts.specs.declared.items.SubLayer.{SubLayer}
use Rattle.spec_parts.specs.declared.items.VariantSet.{VariantSet}
use Rattle.spec_parts.specs.declared.spec.ArcPart.{ArcPart}
use Rattle.spec_parts.specs.declared.spec.Spec.{Spec}
use Rattle.composition.specs.Texts.{Text}
use Rattle.sdf_specs.specs.Found.{spec_below}

-- the asset of an item; an item of the layer stack itself has none
abbrev pub given : Option Text → List Text
given None = []
given (Some asset) = asset ∷ []

-- the assets of a list, in its order
abbrev pub assets_of_items : List RefItem → List Text
assets_of_items items = flat_map (λ item. given item.asset) items

-- the assets of an explicit list, where there is one
abbrev pub explicit_assets : Option (List RefItem) → List Text
explicit_assets None = []
explicit_assets (Some items) = assets_of_items items

-- the assets of an opinion on a list, one line after the other
abbrev pub assets_of_list : ListOp RefItem → List Text
assets_of_list op =
    explicit_assets op.explicit
    ++ assets_of_items op.deleted
    ++ assets_of_items op.added
    ++ assets_of_items op.prepended
    ++ assets_of_items op.appended
    ++ assets_of_items op.ordered

-- references stand before payloads
abbrev pub assets_of_arcs : ArcPart → List Text
assets_of_arcs arcs = assets_of_list arcs.references ++ assets_of_list arcs.payloads

module _ (specs : SpecEntries) (within : List Element → Spec → List Text) where
  -- a prim or a variant: its own arcs, and what stands within it
  abbrev pub assets_of_spec : List Element → Option Spec → List Text
  assets_of_spec path None = []
  assets_of_spec path (Some spec) = assets_of_arcs spec.arcs ++ within path spec

  -- the assets of the prim or variant of one element below a path
  abbrev pub assets_below : List Element → Element → List Text
  assets_below path e = assets_of_spec (path ++ e ∷ []) (spec_below specs path e)

  -- the assets of a child
  abbrev pub assets_of_prim : List Element → Text → List Text
  assets_of_prim path name = assets_below path (Prim name)

  -- the assets of children, one child after the other
  abbrev pub assets_of_prims : List Element → List Text → List Text
  assets_of_prims path names = flat_map (assets_of_prim path) names

  -- the assets of a variant
  abbrev pub assets_of_variant : List Element → Text → Text → List Text
  assets_of_variant path set variant = assets_below path (Selection set variant)

  -- the assets of a variant set, variant by variant
  abbrev pub assets_of_set : List Element → VariantSet → List Text
  assets_of_set path s = flat_map (assets_of_variant path s.set) s.variants

  -- what stands between the braces of a prim or a variant: variant sets before children
  abbrev pub assets_between : List Element → Spec → List Text
  assets_between path spec = flat_map (assets_of_set path) spec.body.variant_names ++ assets_of_prims path spec.body.children

-- what stands within a prim or a variant for so many levels
unfoldable pub assets_within : SpecEntries → ℕ → List Element → Spec → List Text
assets_within specs zero path spec = []
assets_within specs (suc levels) path spec = assets_between specs (assets_within specs levels) path spec

-- sublayers first, and then prim by prim; no prims nest deeper than the layer has specs
unfoldable pub assets_of_layer : LayerTable → List Text
assets_of_layer layer =
    map (λ (s : SubLayer). s.asset) layer.head.sublayers
    ++ assets_of_prims layer.specs (assets_within layer.specs (length layer.specs)) [] layer.head.root_names

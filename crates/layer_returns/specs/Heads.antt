-- The head of a layer whose text is read.
use Rattle.std.specs.Prelude.{◌≡◌, true, codes, None, is_some, []}
use Rattle.sdf_paths.specs.Order.{text_cmp}
use Rattle.sdf_paths.specs.declared.element.Element.TheVariants.{Prim}
use Rattle.sdf_specs.specs.Layers.{LayerTable}
use Rattle.spec_tables.specs.Tables.{at_key}
use Rattle.usda_writer.specs.Canonical.{spec_below}
use Rattle.value_texts.specs.Each.{AreAll}
use Rattle.layer_returns.specs.Layers.{layer_at, behind_layer}

-- The head comes back: its sublayers, its default prim, which is not among its keys, its keys, and its root prims, which have specs, with
-- their order.
abbrev pub HeadsComeBack : Type 0
HeadsComeBack =
    (layer : LayerTable) → AreAll (λ name. is_some (spec_below layer.specs [] (Prim name)) ≡ true) layer.head.root_names → at_key text_cmp (codes "defaultPrim") layer.head.meta ≡ None
    → (layer_at (behind_layer layer)).head ≡ layer.head

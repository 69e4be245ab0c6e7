-- What the canonical text of a layer says to the reader of texts.
use Rattle.std.specs.Prelude.{◌≡◌, true, None}
use Rattle.sdf_specs.specs.Layers.{LayerTable}
use Rattle.usda_reader.specs.Checks.{first_check}
use Rattle.usda_reader.specs.Texts.{IsText}
use Rattle.usda_writer.specs.Canonical.{canonical}
use Rattle.layer_texts.specs.Writable.{is_writable_layer}
use Rattle.layer_returns.specs.Layers.{IsLayerKept}
use Rattle.layer_returns.specs.Theorem.{IsTree}

-- The canonical text of such a layer is a text of the format that says the layer, where its bytes pass the checks before the first word:
-- its size, and that it is UTF-8. A reader that reads what a text says gives the layer back.
abbrev pub TextsSayTheirLayers : Type 0
TextsSayTheirLayers = (layer : LayerTable) → is_writable_layer layer ≡ true → IsLayerKept layer → IsTree layer → first_check (canonical layer) ≡ None → IsText (canonical layer) layer

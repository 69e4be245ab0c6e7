-- What holds of proper layers and their texts.
use Rattle.std.specs.Prelude.{◌≡◌}
use Rattle.sdf_specs.specs.Layers.{LayerTable}
use Rattle.usda_reader.specs.Texts.{IsText}
use Rattle.usda_writer.specs.Canonical.{canonical}
use Rattle.proper_layers.specs.Proper.{IsProper}

-- the canonical text of a proper layer says the layer
abbrev pub ProperLayersReturn : Type 0
ProperLayersReturn = (layer : LayerTable) → IsProper layer → IsText (canonical layer) layer

-- two proper layers with one canonical text are the same layer
abbrev pub ProperTextsDiffer : Type 0
ProperTextsDiffer = (a b : LayerTable) → IsProper a → IsProper b → canonical a ≡ canonical b → a ≡ b

-- A layer whose text passes, and one that can be written and has a text that is not UTF-8.
use Rattle.std.specs.Prelude.{◌≡◌, pos, true, false, [], ◌∷◌}
use Rattle.std.specs.Str.{is_utf8}
use Rattle.spec_parts.specs.Blank.{blank_head}
use Rattle.sdf_specs.specs.Layers.{LayerTable}
use Rattle.usda_writer.specs.Canonical.{canonical}
use Rattle.usda_writer.specs.Examples.{forms}
use Rattle.layer_texts.specs.Writable.{is_writable_layer}
use Rattle.text_checks.specs.Utf8.{is_utf8_layer}

-- its sublayer has a byte as its name that no UTF-8 has
abbrev pub other_bytes : LayerTable
other_bytes = record { head = record blank_head { sublayers = record { asset = 255 ∷ []; offset = record { offset = pos 0; scale = pos 1 } } ∷ [] }; specs = [] }

-- the forms are UTF-8; the other layer can be written, and its text is not UTF-8
pub record AreTold : Type 0 where
  pub forms_utf8 : is_utf8_layer forms ≡ true
  pub other_written : is_writable_layer other_bytes ≡ true
  pub other_layer : is_utf8_layer other_bytes ≡ false
  pub other_text : is_utf8 (canonical other_bytes) ≡ false

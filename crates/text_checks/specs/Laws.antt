-- What holds of the bytes of canonical texts.
use Rattle.std.specs.Prelude.{◌≡◌, ◌≤◌, true, length, None}
use Rattle.std.specs.Str.{is_utf8}
use Rattle.sdf_specs.specs.Layers.{LayerTable}
use Rattle.usda_reader.specs.Checks.{first_check}
use Rattle.usda_writer.specs.Canonical.{canonical}
use Rattle.layer_texts.specs.Writable.{is_writable_layer}
use Rattle.text_checks.specs.Utf8.{is_utf8_layer}

-- the text of a layer that can be written is UTF-8, where its assets and paths are
abbrev pub AreTextsUtf8 : Type 0
AreTextsUtf8 = (layer : LayerTable) → is_writable_layer layer ≡ true → is_utf8_layer layer ≡ true → is_utf8 (canonical layer) ≡ true

-- a canonical text that is UTF-8 passes all checks before the first word, unless it is too long: its first line is that of a layer
abbrev pub DoUtf8TextsPass : Type 0
DoUtf8TextsPass = (layer : LayerTable) → is_utf8 (canonical layer) ≡ true → length (canonical layer) ≤ 67108864 → first_check (canonical layer) ≡ None

-- and so does the text of a layer that can be written
abbrev pub DoTextsPass : Type 0
DoTextsPass = (layer : LayerTable) → is_writable_layer layer ≡ true → is_utf8_layer layer ≡ true → length (canonical layer) ≤ 67108864 → first_check (canonical layer) ≡ None

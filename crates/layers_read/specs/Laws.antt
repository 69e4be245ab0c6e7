-- What a text says of the layer, of its prims and variants, and of their properties, is proper, and so is the whole layer.
use Rattle.std.specs.Prelude.{◌≡◌, ◌≤◌, ℕ, true, List, length}
use Rattle.std.specs.Str.{is_utf8}
use Rattle.sdf_specs.specs.Layers.{LayerTable}
use Rattle.usda_drafts.specs.Acts.{act}
use Rattle.usda_drafts.specs.Drafts.{blank, layer_of}
use Rattle.usda_drafts.specs.declared.draft.Draft.{Draft}
use Rattle.usda_productions.specs.Rules.{layer_forms}
use Rattle.usda_productions.specs.Texts.{MakeBy}
use Rattle.usda_reader.specs.Texts.{IsText}
use Rattle.usda_words.specs.Words.{words_of, word_kind}
use Rattle.usda_writer.specs.Canonical.{canonical}
use Rattle.proper_layers.specs.Proper.{IsProper}
use Rattle.properties_read.specs.Drafts.{IsProperEntry}
use Rattle.value_returns.specs.Fields.{AreProperFields, IsProperHead}
use Rattle.value_texts.specs.Each.{AreAll}

-- the fields of the layer of a draft are proper, and those of each of its prims and variants
pub record IsAllSaid (d : Draft) : Type 0 where
  pub head : IsProperHead (layer_of d).head
  pub specs : AreAll (λ e. AreProperFields e.1) (layer_of d).specs

-- Of each text that is UTF-8: what its words say of the layer, of each prim and of each variant is proper.
abbrev pub SaidIsRead : Type 0
SaidIsRead = (bytes : List ℕ) (d : Draft) → is_utf8 bytes ≡ true → MakeBy word_kind act layer_forms blank (words_of bytes) d → IsAllSaid d

-- Of each text that is UTF-8: each property that its words make is proper, and stands once.
abbrev pub SaidPropertiesAreProper : Type 0
SaidPropertiesAreProper = (bytes : List ℕ) (d : Draft) → is_utf8 bytes ≡ true → MakeBy word_kind act layer_forms blank (words_of bytes) d → AreAll IsProperEntry (layer_of d).specs

-- Each layer that a text says is proper, where its canonical text has at most 64 MiB.
abbrev pub LayersAreRead : Type 0
LayersAreRead = (bytes : List ℕ) (layer : LayerTable) → IsText bytes layer → length (canonical layer) ≤ 67108864 → IsProper layer

-- What holds of the canonical texts of layers.
use Rattle.std.specs.Prelude.{◌≡◌, ℕ, true, List, map}
use Rattle.std.specs.List.{list_all}
use Rattle.std.specs.Str.{is_utf8}
use Rattle.usd_names.specs.Names.{is_identifier, is_variant}
use Rattle.list_ops.specs.declared.op.ListOp.{ListOp}
use Rattle.sdf_paths.specs.Paths.{IsPath}
use Rattle.sdf_paths.specs.declared.element.Element.{Element}
use Rattle.sdf_values.specs.Print.{quoted}
use Rattle.sdf_values.specs.Scales.{Offset, IsOffset}
use Rattle.spec_properties.specs.Entries.{MetaEntries, SelectionEntries}
use Rattle.spec_properties.specs.declared.property.Property.{Property}
use Rattle.spec_parts.specs.declared.items.RefItem.{RefItem}
use Rattle.spec_parts.specs.declared.items.SubLayer.{SubLayer}
use Rattle.spec_parts.specs.declared.spec.Head.{Head}
use Rattle.spec_parts.specs.declared.spec.Spec.{Spec}
use Rattle.sdf_specs.specs.Layers.{LayerTable, SpecEntries}
use Rattle.usda_words.specs.Words.{words_of}
use Rattle.usda_writer.specs.Texts.{metadata_block, path_text, reference_text, sublayer_text}
use Rattle.usda_writer.specs.Fields.{list_lines, meta_lines, selection_lines, spec_lines, sublayer_lines}
use Rattle.usda_writer.specs.Properties.{property_lines}
use Rattle.usda_writer.specs.Canonical.{order_line, prim_head, variant_head, set_head, body_text, layer_front, canonical}
use Rattle.value_texts.specs.Cuts.{Said}
use Rattle.value_texts.specs.Follows.{anything, may_follow}
use Rattle.value_texts.specs.Words.{told_of, as_word}
use Rattle.layer_texts.specs.Spelled.{IsSpelled, AreLines}
use Rattle.layer_texts.specs.ListWords.{word, string_words, path_words, reference_words, sublayer_words}
use Rattle.layer_texts.specs.FieldWords.{block_words, list_words, meta_words, selection_words, spec_words, sublayers_words}
use Rattle.layer_texts.specs.PropertyWords.{property_words}
use Rattle.layer_texts.specs.LayerWords.{order_words, prim_head_words, variant_head_words, set_head_words, body_words, front_words, layer_words}
use Rattle.layer_texts.specs.Writable.{is_word, is_writable_target, is_writable_offset, is_writable_reference, is_writable_sublayer, is_writable_list, is_writable_meta, are_writable_selections, is_writable_property, is_writable_spec, is_writable_head, are_writable_specs, is_writable_layer}

-- the items of lists, and lists of a name by their edits
pub record AreListsSpelled : Type 0 where
  pub reference : (r : RefItem) → is_writable_reference r ≡ true → IsSpelled may_follow (reference_text r) (reference_words r)
  pub sublayer : (s : SubLayer) → is_writable_sublayer s ≡ true → IsSpelled may_follow (sublayer_text s) (sublayer_words s)
  pub strings : (level : ℕ) (name : List ℕ) → is_word name ≡ true → (op : ListOp (List ℕ)) → is_writable_list is_utf8 op ≡ true → AreLines (list_lines level name quoted op) (list_words (word name) string_words op)
  pub paths : (level : ℕ) (name : List ℕ) → is_word name ≡ true → (op : ListOp (List Element)) → is_writable_list is_writable_target op ≡ true
      → AreLines (list_lines level name path_text op) (list_words (word name) path_words op)
  pub references : (level : ℕ) (name : List ℕ) → is_word name ≡ true → (op : ListOp RefItem) → is_writable_list is_writable_reference op ≡ true
      → AreLines (list_lines level name reference_text op) (list_words (word name) reference_words op)
  pub sublayers : (level : ℕ) (sublayers : List SubLayer) → list_all is_writable_sublayer sublayers ≡ true → AreLines (sublayer_lines level sublayers) (sublayers_words sublayers)

-- metadata, and a block of it between brackets
pub record IsMetadataSpelled : Type 0 where
  pub entries : (level : ℕ) (meta : MetaEntries) → is_writable_meta meta ≡ true → AreLines (meta_lines level meta) (meta_words meta)
  pub selections : (level : ℕ) (selections : SelectionEntries) → are_writable_selections selections ≡ true → AreLines (selection_lines level selections) (selection_words selections)
  pub spec : (level : ℕ) (spec : Spec) → is_writable_spec spec ≡ true → AreLines (spec_lines level spec) (spec_words spec)
  pub block : (level : ℕ) (text : List ℕ) (said : List Said) → AreLines text said → IsSpelled may_follow (metadata_block level text) (block_words said)

-- the canonical lines of a property that can be written are its words
abbrev pub ArePropertiesSpelled : Type 0
ArePropertiesSpelled = (level : ℕ) (p : Property) → is_writable_property p ≡ true → IsSpelled anything (property_lines level p) (property_words p)

-- prims, variant sets and variants, and what stands between their braces
pub record ArePrimsSpelled : Type 0 where
  pub order : (level : ℕ) (name : List ℕ) → is_word name ≡ true → (names : List (List ℕ)) → list_all is_utf8 names ≡ true → IsSpelled anything (order_line level name names) (order_words name names)
  pub prim : (level : ℕ) (name : List ℕ) (spec : Spec) → is_identifier name ≡ true → is_writable_spec spec ≡ true → IsSpelled anything (prim_head level name spec) (prim_head_words name spec)
  pub variant : (level : ℕ) (name : List ℕ) (spec : Spec) → is_variant name ≡ true → is_writable_spec spec ≡ true → IsSpelled anything (variant_head level name spec) (variant_head_words name spec)
  pub set : (level : ℕ) (set : List ℕ) → is_identifier set ≡ true → IsSpelled anything (set_head level set) (set_head_words set)
  pub body : (specs : SpecEntries) → are_writable_specs specs ≡ true → (levels level : ℕ) (path : List Element) (spec : Spec) → is_writable_spec spec ≡ true
      → IsSpelled anything (body_text specs levels level path spec) (body_words specs levels path spec)
  pub front : (head : Head) → is_writable_head head ≡ true → IsSpelled anything (layer_front head) (front_words head)

-- the canonical text of a layer that can be written is the layer's words
abbrev pub AreLayersSpelled : Type 0
AreLayersSpelled = (layer : LayerTable) → is_writable_layer layer ≡ true → map told_of (words_of (canonical layer)) ≡ map as_word (layer_words layer)

-- what the types of layers hold anyway can be written
pub record ArePartsWritable : Type 0 where
  pub path : (path : List Element) → IsPath path → is_writable_target path ≡ true
  pub offset : (o : Offset) → IsOffset o → is_writable_offset o ≡ true

-- A whole layer, from the first word of its canonical text to the last.
use Rattle.std.specs.Prelude.{◌≡◌, true, false, List, [], map, length, codes, Option, None, Ok}
use Rattle.std.specs.Str.{is_utf8}
use Rattle.sdf_specs.specs.Layers.{LayerTable}
use Rattle.spec_parts.specs.declared.items.Specifier.TheVariants.{Over}
use Rattle.spec_parts.specs.declared.spec.Head.{Head}
use Rattle.usda_fields.specs.Owners.{owner_at, with_meta}
use Rattle.usda_fields.specs.declared.owner.OrderWord.TheVariants.{NameChildren}
use Rattle.usda_grammar.specs.Table as grammar
use Rattle.usda_machine.specs.Reading.{run}
use Rattle.usda_words.specs.Words.{Word, words_of, word_kind}
use Rattle.usda_writer.specs.Canonical.{canonical, with_default_prim}
use Rattle.usda_drafts.specs.Acts.{act}
use Rattle.usda_drafts.specs.Drafts.{blank, head_from, layer_of}
use Rattle.usda_drafts.specs.Owners.{owner_of}
use Rattle.usda_drafts.specs.declared.draft.Draft.{Draft}
use Rattle.usda_drafts.specs.declared.fault.Refused.{Refused}
use Rattle.value_texts.specs.Words.{told_of, as_word}
use Rattle.value_texts.specs.Each.{AreAll}
use Rattle.layer_texts.specs.LayerWords.{layer_words}
use Rattle.layer_texts.specs.Writable.{is_writable_layer}
use Rattle.layer_reads.specs.Keys.{is_plain_head_key}
use Rattle.layer_reads.specs.Kept.{has_items}
use Rattle.layer_reads.specs.Meta.{IsMetaKept}
use Rattle.layer_reads.specs.Standing.{Standing, saying, IsAt}
use Rattle.layer_reads.specs.Sublayers.{IsSublayerKept, with_sublayers}
use Rattle.layer_reads.specs.Bodies.{with_order}
use Rattle.layer_returns.specs.Trees.{behind_children, AreChildrenKept, behind_body, IsBodyKept}

-- where a draft stands of which nothing is read
abbrev pub at_start : Standing
at_start = record { specs = []; owner = owner_of [] Over None; outer = []; sublayers = []; has_sublayers = false }

-- behind the metadata of the layer, the default prim among its keys, and behind the order of its root prims
abbrev pub behind_head : Head → Standing
behind_head head = with_sublayers head.sublayers (has_items head.sublayers) (saying (with_meta (with_default_prim head.default_prim head.meta) (owner_at [] Over)) at_start)

abbrev pub behind_front : Head → Standing
behind_front head = saying (with_order NameChildren head.root_order (has_items head.root_order) (with_meta (with_default_prim head.default_prim head.meta) (owner_at [] Over))) (behind_head head)

-- a head that comes back
pub record IsHeadKept (head : Head) : Type 0 where
  pub meta : IsMetaKept is_plain_head_key [] (with_default_prim head.default_prim head.meta)
  pub sublayers : AreAll IsSublayerKept head.sublayers
  pub order : AreAll (λ t. is_utf8 t ≡ true) head.root_order

-- behind the whole layer
abbrev pub behind_layer : LayerTable → Standing
behind_layer layer = behind_children layer.specs (behind_body layer.specs (length layer.specs)) [] layer.head.root_names (behind_front layer.head)

-- a layer each part of which comes back and has a place of its own
pub record IsLayerKept (layer : LayerTable) : Type 0 where
  pub head : IsHeadKept layer.head
  pub prims : AreChildrenKept layer.specs (behind_body layer.specs (length layer.specs)) (IsBodyKept layer.specs (length layer.specs)) [] layer.head.root_names (behind_front layer.head)

-- Words that say a layer are read to their end, whatever the refusals are, and the draft stands where the layer says.
abbrev pub AreLayersTaken : Type 0
AreLayersTaken =
    (layer : LayerTable) → IsLayerKept layer → (ws : List Word) → map told_of ws ≡ map as_word (layer_words layer) → (refused_as : Option Word → Refused)
    → (d : Draft) × IsAt (behind_layer layer) d × (run word_kind act refused_as grammar.layer blank ws ≡ Ok d)

-- the layer that stands there; the default prim is taken from among its keys
abbrev pub layer_at : Standing → LayerTable
layer_at s = record { head = head_from (codes "defaultPrim") s.owner s.sublayers; specs = s.specs }

-- The canonical text of a layer that can be written is read to its end, and the layer that is read is the one that stands there.
abbrev pub AreTextsTaken : Type 0
AreTextsTaken =
    (layer : LayerTable) → is_writable_layer layer ≡ true → IsLayerKept layer → (refused_as : Option Word → Refused)
    → (d : Draft) × (run word_kind act refused_as grammar.layer blank (words_of (canonical layer)) ≡ Ok d) × (layer_of d ≡ layer_at (behind_layer layer))

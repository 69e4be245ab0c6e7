-- A layer comes back from its canonical text.
use Rattle.std.specs.Prelude.{◌≡◌, true, codes, length, [], List, Option, Some, None, Ok}
use Rattle.sdf_paths.specs.Order.{text_cmp}
use Rattle.sdf_paths.specs.declared.element.Element.{Element}
use Rattle.sdf_specs.specs.Layers.{LayerTable, AreSpecs, spec_at}
use Rattle.spec_parts.specs.declared.spec.Spec.{Spec}
use Rattle.spec_tables.specs.Tables.{at_key}
use Rattle.usda_grammar.specs.Table as grammar
use Rattle.usda_machine.specs.Reading.{run}
use Rattle.usda_words.specs.Words.{Word, words_of, word_kind}
use Rattle.usda_writer.specs.Canonical.{canonical}
use Rattle.usda_drafts.specs.Acts.{act}
use Rattle.usda_drafts.specs.Drafts.{blank, layer_of}
use Rattle.usda_drafts.specs.declared.draft.Draft.{Draft}
use Rattle.usda_drafts.specs.declared.fault.Refused.{Refused}
use Rattle.layer_texts.specs.Writable.{is_writable_layer}
use Rattle.layer_returns.specs.Layers.{IsLayerKept}
use Rattle.layer_returns.specs.Reached.{IsFromChildren, IsReached}
use Rattle.layer_returns.specs.Whole.{AreChildrenWhole, IsWhole}

-- A layer whose specs are those of the prims and variants that are named from its root prims on, in the order of their paths; the default
-- prim is not among its keys.
pub record IsTree (layer : LayerTable) : Type 0 where
  pub ordered : AreSpecs layer.specs
  pub whole : AreChildrenWhole layer.specs (IsWhole layer.specs (length layer.specs)) [] layer.head.root_names
  pub reached : (p : List Element) (spec : Spec) → spec_at p layer.specs ≡ Some spec → IsFromChildren layer.specs (IsReached layer.specs (length layer.specs)) [] layer.head.root_names p
  pub default_prim : at_key text_cmp (codes "defaultPrim") layer.head.meta ≡ None

-- The canonical text of such a layer, which can be written and whose parts come back, is read to its end, and what is read is the layer.
abbrev pub LayersComeBack : Type 0
LayersComeBack =
    (layer : LayerTable) → is_writable_layer layer ≡ true → IsLayerKept layer → IsTree layer → (refused_as : Option Word → Refused)
    → (d : Draft) × (run word_kind act refused_as grammar.layer blank (words_of (canonical layer)) ≡ Ok d) × (layer_of d ≡ layer)

-- Lines of lists and sublayers.
use Rattle.std.specs.Prelude.{ℕ, if◌then◌else◌, List, [], codes, Option, Some, None}
use Rattle.edit_batches.specs.declared.op.Op.TheVariants as op
use Rattle.edit_batches.specs.declared.op.FieldList.{FieldList}
use Rattle.edit_batches.specs.declared.op.FieldList.TheVariants as list
use Rattle.edit_batches.specs.declared.written.WrittenSubLayer.{WrittenSubLayer}
use Rattle.list_ops.specs.ListEdits.{firsts}
use Rattle.sdf_paths.specs.declared.element.Element.{Element}
use Rattle.usda_fields.specs.Fields.{path_field, reference_field, text_field}
use Rattle.usda_lists.specs.Edits.{edit_of}
use Rattle.usda_lists.specs.References.{same_text, same_path}
use Rattle.usda_lists.specs.declared.edit.ListEdit.{ListEdit}
use Rattle.usda_lists.specs.declared.edit.ListEdit.TheVariants.{Explicit}
use Rattle.script_words.specs.Answers.{◌>>=◌}
use Rattle.script_words.specs.Lists.{list_in, texts_of, paths_of, targets_of, references_of, sublayers_of}
use Rattle.script_words.specs.Repeats.{same_reference}
use Rattle.script_words.specs.declared.items.ListItems.TheVariants.{Texts, Paths, Targets, References, SubLayers}
use Rattle.script_words.specs.declared.place.ListPlace.TheVariants as place
use Rattle.script_words.specs.Words.{name_at, layer_at, behind_word}
use Rattle.script_lines.specs.MetaLines.{is_path_field, is_reference_field, is_text_field}
use Rattle.script_lines.specs.Places.{target_at, prim_base}
use Rattle.script_lines.specs.declared.line.Line.{Line}
use Rattle.script_lines.specs.declared.line.Line.TheVariants.{Change}

-- ---- lists of fields, of which repeats after the first are dropped

-- the classes of `inherits` or `specializes`, each once
unfoldable pub paths_list : List ℕ → List Element → List ℕ → Option FieldList
paths_list word base bytes = list_in base place.Start (Paths []) bytes >>= λ l. paths_of l >>= λ items. Some (list.Paths (path_field word) (firsts same_path items))

-- the items of `references` or `payload`, each once; two are one where asset, path and offset are
unfoldable pub references_list : List ℕ → List Element → List ℕ → Option FieldList
references_list word base bytes =
    list_in base place.Start (References []) bytes >>= λ l. references_of l >>= λ items. Some (list.References (reference_field word) (firsts same_reference items))

-- the names of `variantSets`, `apiSchemas` or `clipSets`, each once
unfoldable pub texts_list : List ℕ → List Element → List ℕ → Option FieldList
texts_list word base bytes = list_in base place.Start (Texts []) bytes >>= λ l. texts_of l >>= λ items. Some (list.Texts (text_field word) (firsts same_text items))

-- targets and connections, without selections
unfoldable pub targets_in : List Element → List ℕ → Option (List (List Element))
targets_in base bytes = list_in base place.Start (Targets []) bytes >>= λ l. targets_of l >>= λ items. Some (firsts same_path items)

-- the list of the field that this word names; a path that does not begin with `/` is taken from this prim
unfoldable pub field_list : List ℕ → List Element → List ℕ → Option FieldList
field_list word base bytes =
    if is_path_field word then paths_list word base bytes
    else if is_reference_field word then references_list word base bytes
    else if is_text_field word then texts_list word base bytes
    else if same_text word (codes "targets") then (targets_in base bytes >>= λ items. Some (list.Targets items))
    else if same_text word (codes "connect") then (targets_in base bytes >>= λ items. Some (list.Connections items))
    else None

-- ---- edits

-- a word that is no edit word gives no edit
abbrev pub if_edit : ListEdit → List ℕ → Option (ListEdit × List ℕ)
if_edit Explicit rest = None
if_edit edit rest = Some (edit, rest)

-- an edit word
unfoldable pub edit_word_at : List ℕ → Option (ListEdit × List ℕ)
edit_word_at bytes = name_at bytes >>= λ n. if_edit (edit_of n.0) n.1

-- an edit word or none, and then `=`
unfoldable pub edit_at : List ℕ → Option (ListEdit × List ℕ)
edit_at bytes = elim (behind_word (codes "=") bytes) [
  | Some rest ↦ Some (Explicit, rest)
  | None ↦ edit_word_at bytes >>= λ e. behind_word (codes "=") e.1 >>= λ rest. Some (e.0, rest)
]

-- `list`: a layer, a path, a field, an edit word or none, `=` and a list
unfoldable pub list_line : List ℕ → Option Line
list_line bytes =
    target_at bytes >>= λ t. name_at t.2 >>= λ field. edit_at field.1 >>= λ e. field_list field.0 (prim_base t.1) e.1 >>= λ items.
    Some (Change (op.SetList t.0 t.1 e.0 items))

-- ---- sublayers

-- sublayers in brackets, in which repeats stay
unfoldable pub sublayers_in : List ℕ → Option (List WrittenSubLayer)
sublayers_in bytes = list_in [] place.Bracket (SubLayers []) bytes >>= λ l. sublayers_of l

-- `sublayers`: a layer, `=` and sublayers in brackets
unfoldable pub sublayers_line : List ℕ → Option Line
sublayers_line bytes =
    layer_at bytes >>= λ l. behind_word (codes "=") l.1 >>= λ rest. sublayers_in rest >>= λ sublayers. Some (Change (op.SetSublayers l.0 sublayers))

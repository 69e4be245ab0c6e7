-- The words of metadata: keys and their values, and lists by their edits.
use Rattle.std.specs.Prelude.{ℕ, if◌then◌else◌, List, [], ◌∷◌, ◌++◌, codes, map, Option, Some, None}
use Rattle.std.specs.List.{flat_map}
use Rattle.list_ops.specs.declared.op.ListOp.{ListOp}
use Rattle.sdf_values.specs.declared.value.Value.{Value}
use Rattle.sdf_values.specs.declared.value.Value.TheVariants as value
use Rattle.spec_properties.specs.Entries.{MetaEntries, SelectionEntries}
use Rattle.spec_parts.specs.declared.items.SubLayer.{SubLayer}
use Rattle.spec_parts.specs.declared.spec.Spec.{Spec}
use Rattle.usda_writer.specs.Fields.{is_comment, selection_item}
use Rattle.value_texts.specs.Cuts.{Said}
use Rattle.value_texts.specs.ValueWords.{name_said, open_paren, close_paren, equals, words_of_value}
use Rattle.layer_texts.specs.ListWords.{word, string_words, path_words, bracketed_words, explicit_words, reference_words, sublayer_words}

-- one edit of a list; an empty one has no words
abbrev pub edit_words : {T : Type 0} → List Said → List Said → (T → List Said) → List T → List Said
edit_words edit name g [] = []
edit_words edit name g (x ∷ xs) = edit ++ name ++ (equals ∷ []) ++ bracketed_words g (x ∷ xs)

-- an explicit list of this name, which is said also where it is empty
abbrev pub explicit_line_words : {T : Type 0} → List Said → (T → List Said) → Option (List T) → List Said
explicit_line_words name g None = []
explicit_line_words name g (Some xs) = name ++ (equals ∷ []) ++ explicit_words g xs

-- the edits of a list, one after the other
abbrev pub edits_words : {T : Type 0} → List Said → (T → List Said) → ListOp T → List Said
edits_words name g op =
    edit_words (word (codes "delete")) name g op.deleted
    ++ edit_words (word (codes "add")) name g op.added
    ++ edit_words (word (codes "prepend")) name g op.prepended
    ++ edit_words (word (codes "append")) name g op.appended
    ++ edit_words (word (codes "reorder")) name g op.ordered

-- a list of this name
abbrev pub list_words : {T : Type 0} → List Said → (T → List Said) → ListOp T → List Said
list_words name g op = explicit_line_words name g op.explicit ++ edits_words name g op

-- the comment is its string alone
abbrev pub comment_words : List ℕ × Value → List Said
comment_words entry = if is_comment entry.0 then words_of_value entry.1 else []

-- the other keys, each with its value
abbrev pub key_words : List ℕ × Value → List Said
key_words entry = if is_comment entry.0 then [] else (name_said entry.0 ∷ equals ∷ words_of_value entry.1)

-- the comment first, and then the other keys in their order
abbrev pub meta_words : MetaEntries → List Said
meta_words meta = flat_map comment_words meta ++ flat_map key_words meta

-- the variants that are selected, as a dictionary of strings
abbrev pub selection_words : SelectionEntries → List Said
selection_words [] = []
selection_words (s ∷ ss) = name_said (codes "variants") ∷ equals ∷ words_of_value (value.Dict (map selection_item (s ∷ ss)))

-- the metadata of a prim or a variant
unfoldable pub spec_words : Spec → List Said
spec_words spec =
    meta_words spec.body.meta
    ++ list_words (word (codes "apiSchemas")) string_words spec.body.api_schemas
    ++ list_words (word (codes "clipSets")) string_words spec.body.clip_sets
    ++ list_words (word (codes "inherits")) path_words spec.arcs.inherits
    ++ list_words (word (codes "variantSets")) string_words spec.arcs.variant_sets
    ++ selection_words spec.arcs.selections
    ++ list_words (word (codes "references")) reference_words spec.arcs.references
    ++ list_words (word (codes "payload")) reference_words spec.arcs.payloads
    ++ list_words (word (codes "specializes")) path_words spec.arcs.specializes

-- sublayers, which have no edits
abbrev pub sublayers_words : List SubLayer → List Said
sublayers_words sublayers = edit_words [] (word (codes "subLayers")) sublayer_words sublayers

-- metadata between brackets, where there is any
abbrev pub block_words : List Said → List Said
block_words [] = []
block_words (w ∷ ws) = open_paren ∷ (w ∷ ws) ++ close_paren ∷ []

-- Lines of metadata: keys and their values, and lists by their edits.
use Rattle.std.specs.Prelude.{ℕ, Bool, false, ◌==◌, if◌then◌else◌, List, [], ◌∷◌, ◌++◌, codes, map, Option, Some, None}
use Rattle.std.specs.Cmp.Lexicographic.{pointwise}
use Rattle.std.specs.List.{flat_map}
use Rattle.list_ops.specs.declared.op.ListOp.{ListOp}
use Rattle.sdf_values.specs.Print.{blanks, print, quoted}
use Rattle.sdf_values.specs.declared.value.DictItem.{DictItem}
use Rattle.sdf_values.specs.declared.value.DictType.TheVariants.{Plain}
use Rattle.sdf_values.specs.declared.value.Value.{Value}
use Rattle.sdf_values.specs.declared.value.Value.TheVariants as value
use Rattle.sdf_values.specs.declared.type_name.ElementType.TheVariants as element
use Rattle.spec_properties.specs.Entries.{MetaEntries, SelectionEntries}
use Rattle.spec_parts.specs.declared.items.SubLayer.{SubLayer}
use Rattle.spec_parts.specs.declared.spec.Spec.{Spec}
use Rattle.sdf_paths.specs.Paths.{path_text}
use Rattle.usda_writer.specs.Texts.{Text, bracketed, explicit_list, reference_text, sublayer_text}

-- a line at a level
abbrev pub line : ℕ → Text → Text
line level text = blanks level ++ text ++ codes "\n"

-- the line of one edit of a list; an empty one has none
abbrev pub edit_line : {T : Type 0} → ℕ → Text → Text → (T → Text) → List T → Text
edit_line level word name f [] = []
edit_line level word name f (x ∷ xs) = line level (word ++ name ++ codes " = " ++ bracketed f (x ∷ xs))

-- the line of an explicit list
abbrev pub explicit_line : {T : Type 0} → ℕ → Text → (T → Text) → Option (List T) → Text
explicit_line level name f None = []
explicit_line level name f (Some xs) = line level (name ++ codes " = " ++ explicit_list f xs)

-- the lines of the edits of a list, one each
abbrev pub edit_lines : {T : Type 0} → ℕ → Text → (T → Text) → ListOp T → Text
edit_lines level name f op =
    edit_line level (codes "delete ") name f op.deleted
    ++ edit_line level (codes "add ") name f op.added
    ++ edit_line level (codes "prepend ") name f op.prepended
    ++ edit_line level (codes "append ") name f op.appended
    ++ edit_line level (codes "reorder ") name f op.ordered

-- the lines of a list
abbrev pub list_lines : {T : Type 0} → ℕ → Text → (T → Text) → ListOp T → Text
list_lines level name f op = explicit_line level name f op.explicit ++ edit_lines level name f op

-- the key is `comment`, whose string stands alone
abbrev pub is_comment : Text → Bool
is_comment key = pointwise ◌==◌ key (codes "comment")

-- the comment stands alone, as a string
abbrev pub comment_line : ℕ → Text × Value → Text
comment_line level entry = if is_comment entry.0 then line level (print entry.1 level) else []

-- the other keys, each with its value
abbrev pub key_line : ℕ → Text × Value → Text
key_line level entry = if is_comment entry.0 then [] else line level (entry.0 ++ codes " = " ++ print entry.1 level)

-- the comment first, and then the other keys in their order
abbrev pub meta_lines : ℕ → MetaEntries → Text
meta_lines level meta = flat_map (comment_line level) meta ++ flat_map (key_line level) meta

-- a variant that is selected, as a dictionary's entry of type `string`
abbrev pub selection_item : Text × Text → DictItem
selection_item s = record { key = s.0; ty = Plain (record { element = element.String; array = false }); value = value.Text s.1 }

-- the selected variants behind the word `variants`; none have no line
abbrev pub selection_lines : ℕ → SelectionEntries → Text
selection_lines level [] = []
selection_lines level (s ∷ ss) = line level (codes "variants = " ++ print (value.Dict (map selection_item (s ∷ ss))) level)

-- the metadata of a prim or a variant
unfoldable pub spec_lines : ℕ → Spec → Text
spec_lines level spec =
    meta_lines level spec.body.meta
    ++ list_lines level (codes "apiSchemas") quoted spec.body.api_schemas
    ++ list_lines level (codes "clipSets") quoted spec.body.clip_sets
    ++ list_lines level (codes "inherits") path_text spec.arcs.inherits
    ++ list_lines level (codes "variantSets") quoted spec.arcs.variant_sets
    ++ selection_lines level spec.arcs.selections
    ++ list_lines level (codes "references") reference_text spec.arcs.references
    ++ list_lines level (codes "payload") reference_text spec.arcs.payloads
    ++ list_lines level (codes "specializes") path_text spec.arcs.specializes

-- sublayers, which have no edits; none have no line
abbrev pub sublayer_lines : ℕ → List SubLayer → Text
sublayer_lines level sublayers = edit_line level [] (codes "subLayers") sublayer_text sublayers

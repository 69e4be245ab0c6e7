-- The lines of metadata.
use Rattle.std.proofs.Common.{◌≡◌, ℕ, Bool, true, false, List, [], ◌∷◌, ◌++◌, map, Option, Some, None, refl}
use Rattle.std.specs.Prelude.{codes, if◌then◌else◌}
use Rattle.std.specs.List.{list_all}
use Rattle.std.specs.Str.{is_utf8}
use Rattle.std.proofs.lemmas.Bool.{and_parts}
use Rattle.list_ops.specs.declared.op.ListOp.{ListOp}
use Rattle.sdf_values.specs.Print.{print, quoted}
use Rattle.sdf_values.specs.declared.value.Value.{Value}
use Rattle.sdf_values.specs.declared.value.Value.TheVariants as value
use Rattle.spec_properties.specs.Entries.{MetaEntries, SelectionEntries}
use Rattle.sdf_paths.specs.declared.element.Element.{Element}
use Rattle.spec_parts.specs.declared.items.RefItem.{RefItem}
use Rattle.spec_parts.specs.declared.items.SubLayer.{SubLayer}
use Rattle.spec_parts.specs.declared.spec.Spec.{Spec}
use Rattle.usda_writer.specs.Texts.{path_text, reference_text, sublayer_text}
use Rattle.usda_writer.specs.Fields.{line, edit_line, explicit_line, edit_lines, list_lines, is_comment, comment_line, key_line, meta_lines, selection_item, selection_lines, spec_lines, sublayer_lines}
use Rattle.value_texts.specs.Cuts.{Said}
use Rattle.value_texts.specs.Follows.{anything, may_follow}
use Rattle.value_texts.specs.ValueWords.{name_said, equals, words_of_value}
use Rattle.layer_texts.specs.Spelled.{IsSpelled, AreLines}
use Rattle.layer_texts.specs.ListWords.{word, string_words, path_words, bracketed_words, explicit_words, reference_words, sublayer_words}
use Rattle.layer_texts.specs.FieldWords.{edit_words, explicit_line_words, edits_words, list_words, comment_words, key_words, meta_words, selection_words, spec_words, sublayers_words}
use Rattle.layer_texts.specs.Writable.{none_or, is_word, is_writable_target, is_writable_reference, is_writable_sublayer, are_writable_edits, is_writable_list, is_writable_entry, is_writable_meta, are_writable_selections, is_writable_spec}
use Rattle.layer_texts.proofs.Keywords.{word_spelled, delete_word, add_word, prepend_word, append_word, reorder_word, apiSchemas_word, clipSets_word, inherits_word, variantSets_word, variants_word, references_word, payload_word, specializes_word, subLayers_word}
use Rattle.layer_texts.proofs.Lines.{one_line, no_lines, more_lines, all_lines, some_middle}
use Rattle.layer_texts.proofs.Lists.{string_spelled, path_spelled, reference_spelled, sublayer_spelled, bracketed_spelled, explicit_spelled}
use Rattle.layer_texts.proofs.Marks.{space, equals_space}
use Rattle.layer_texts.proofs.Metadata.{selections_writable}
use Rattle.layer_texts.proofs.Spelled.{joined, then_more, nothing, weaker}
use Rattle.layer_texts.proofs.Values.{value_spelled, value_has_words}

-- the word of an edit and a blank
pub edit_spelled : (t : List ℕ) → is_word t ≡ true → IsSpelled anything (t ++ codes " ") (word t)
edit_spelled t h = joined (word_spelled t h) space (λ rest k. refl)

-- lists of a name and of items that are spelled before commas and brackets
module _ {T : Type 0} (name : List ℕ) (named : List Said) (name_spelled : IsSpelled may_follow name named)
    (f : T → List ℕ) (g : T → List Said) (w : T → Bool) (each : (x : T) → w x ≡ true → IsSpelled may_follow (f x) (g x)) where
  pub edit_line_spelled : (level : ℕ) (edit : List ℕ) (said : List Said) → IsSpelled anything edit said → (xs : List T) → list_all w xs ≡ true → AreLines (edit_line level edit name f xs) (edit_words said named g xs)
  edit_line_spelled level edit said p [] h = no_lines
  edit_line_spelled level edit said p (x ∷ xs) h =
      one_line level _ (some_middle (said ++ named) equals [] (bracketed_words g (x ∷ xs)))
      (weaker (then_more (joined (then_more p name_spelled) equals_space (λ rest k. refl)) (bracketed_spelled f g w each (x ∷ xs) h)))

  explicit_line_spelled : (level : ℕ) (xs : Option (List T)) → none_or (list_all w) xs ≡ true → AreLines (explicit_line level name f xs) (explicit_line_words named g xs)
  explicit_line_spelled level None h = no_lines
  explicit_line_spelled level (Some xs) h =
      one_line level _ (some_middle named equals [] (explicit_words g xs)) (then_more (joined name_spelled equals_space (λ rest k. refl)) (explicit_spelled f g w each xs h))

  pub edit_lines_spelled : (level : ℕ) (op : ListOp T) → are_writable_edits w op ≡ true → AreLines (edit_lines level name f op) (edits_words named g op)
  edit_lines_spelled level op h =
      let deleted = and_parts _ _ h in let added = and_parts _ _ deleted.1 in let prepended = and_parts _ _ added.1 in let appended = and_parts _ _ prepended.1 in
      more_lines (more_lines (more_lines (more_lines
      (edit_line_spelled level (codes "delete ") (word (codes "delete")) (edit_spelled (codes "delete") delete_word) op.deleted deleted.0)
      (edit_line_spelled level (codes "add ") (word (codes "add")) (edit_spelled (codes "add") add_word) op.added added.0))
      (edit_line_spelled level (codes "prepend ") (word (codes "prepend")) (edit_spelled (codes "prepend") prepend_word) op.prepended prepended.0))
      (edit_line_spelled level (codes "append ") (word (codes "append")) (edit_spelled (codes "append") append_word) op.appended appended.0))
      (edit_line_spelled level (codes "reorder ") (word (codes "reorder")) (edit_spelled (codes "reorder") reorder_word) op.ordered appended.1)

  pub list_lines_spelled : (level : ℕ) (op : ListOp T) → is_writable_list w op ≡ true → AreLines (list_lines level name f op) (list_words named g op)
  list_lines_spelled level op h = let p = and_parts _ _ h in more_lines (explicit_line_spelled level op.explicit p.0) (edit_lines_spelled level op p.1)

-- a key's lines, whether it is the comment or not
comment_said : (level : ℕ) (entry : List ℕ × Value) → is_writable_entry entry ≡ true → AreLines (comment_line level entry) (comment_words entry)
comment_said level entry h = test (is_comment entry.0)
  where
    test : (b : Bool) → AreLines (if b then line level (print entry.1 level) else []) (if b then words_of_value entry.1 else [])
    test true = one_line level (print entry.1 level) (value_has_words entry.1) (value_spelled entry.1 (and_parts _ _ h).1 level)
    test false = no_lines

key_said : (level : ℕ) (entry : List ℕ × Value) → is_writable_entry entry ≡ true → AreLines (key_line level entry) (key_words entry)
key_said level entry h = test (is_comment entry.0)
  where
    test : (b : Bool) → AreLines (if b then [] else line level (entry.0 ++ codes " = " ++ print entry.1 level)) (if b then [] else (name_said entry.0 ∷ equals ∷ words_of_value entry.1))
    test true = no_lines
    test false =
        let p = and_parts _ _ h in
        one_line level (entry.0 ++ codes " = " ++ print entry.1 level) refl (then_more (joined (word_spelled entry.0 p.0) equals_space (λ rest k. refl)) (value_spelled entry.1 p.1 level))

pub meta_spelled : (level : ℕ) (meta : MetaEntries) → is_writable_meta meta ≡ true → AreLines (meta_lines level meta) (meta_words meta)
meta_spelled level meta h =
    more_lines (all_lines (comment_line level) comment_words is_writable_entry (comment_said level) meta h) (all_lines (key_line level) key_words is_writable_entry (key_said level) meta h)

variants_start : IsSpelled anything (codes "variants = ") (name_said (codes "variants") ∷ equals ∷ [])
variants_start = joined (word_spelled (codes "variants") variants_word) equals_space (λ rest k. refl)

pub selections_spelled : (level : ℕ) (selections : SelectionEntries) → are_writable_selections selections ≡ true → AreLines (selection_lines level selections) (selection_words selections)
selections_spelled level [] h = no_lines
selections_spelled level (s ∷ ss) h = one_line level _ refl (then_more variants_start (value_spelled (value.Dict (map selection_item (s ∷ ss))) (selections_writable (s ∷ ss) h) level))

-- lists of this name
pub strings_spelled : (level : ℕ) (name : List ℕ) → is_word name ≡ true → (op : ListOp (List ℕ)) → is_writable_list is_utf8 op ≡ true → AreLines (list_lines level name quoted op) (list_words (word name) string_words op)
strings_spelled level name n op h = list_lines_spelled name (word name) (word_spelled name n) quoted string_words is_utf8 (λ t u. string_spelled t) level op h

pub paths_spelled : (level : ℕ) (name : List ℕ) → is_word name ≡ true → (op : ListOp (List Element)) → is_writable_list is_writable_target op ≡ true → AreLines (list_lines level name path_text op) (list_words (word name) path_words op)
paths_spelled level name n op h = list_lines_spelled name (word name) (word_spelled name n) path_text path_words is_writable_target (λ p u. weaker (path_spelled p u)) level op h

pub references_spelled : (level : ℕ) (name : List ℕ) → is_word name ≡ true → (op : ListOp RefItem) → is_writable_list is_writable_reference op ≡ true → AreLines (list_lines level name reference_text op) (list_words (word name) reference_words op)
references_spelled level name n op h = list_lines_spelled name (word name) (word_spelled name n) reference_text reference_words is_writable_reference reference_spelled level op h

-- the metadata of a prim or a variant
pub spec_spelled : (level : ℕ) (spec : Spec) → is_writable_spec spec ≡ true → AreLines (spec_lines level spec) (spec_words spec)
unfolding spec_lines spec_words is_writable_spec
spec_spelled level spec h =
    let parts = and_parts _ _ h in
    let inherits = and_parts _ _ parts.0 in let specializes = and_parts _ _ inherits.1 in let references = and_parts _ _ specializes.1 in let payloads = and_parts _ _ references.1 in let sets = and_parts _ _ payloads.1 in
    let typed = and_parts _ _ parts.1 in let meta = and_parts _ _ typed.1 in let schemas = and_parts _ _ meta.1 in let clips = and_parts _ _ schemas.1 in
    more_lines (more_lines (more_lines (more_lines (more_lines (more_lines (more_lines (more_lines
    (meta_spelled level spec.body.meta meta.0)
    (strings_spelled level (codes "apiSchemas") apiSchemas_word spec.body.api_schemas schemas.0))
    (strings_spelled level (codes "clipSets") clipSets_word spec.body.clip_sets clips.0))
    (paths_spelled level (codes "inherits") inherits_word spec.arcs.inherits inherits.0))
    (strings_spelled level (codes "variantSets") variantSets_word spec.arcs.variant_sets sets.0))
    (selections_spelled level spec.arcs.selections sets.1))
    (references_spelled level (codes "references") references_word spec.arcs.references references.0))
    (references_spelled level (codes "payload") payload_word spec.arcs.payloads payloads.0))
    (paths_spelled level (codes "specializes") specializes_word spec.arcs.specializes specializes.0)

pub sublayers_spelled : (level : ℕ) (sublayers : List SubLayer) → list_all is_writable_sublayer sublayers ≡ true → AreLines (sublayer_lines level sublayers) (sublayers_words sublayers)
sublayers_spelled level sublayers h =
    edit_line_spelled (codes "subLayers") (word (codes "subLayers")) (word_spelled (codes "subLayers") subLayers_word) sublayer_text sublayer_words is_writable_sublayer sublayer_spelled level [] [] (nothing anything) sublayers h

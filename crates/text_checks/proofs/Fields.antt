-- The lines of metadata.
use Rattle.std.proofs.Common.{◌≡◌, ◌∙◌, ℕ, ◌&&◌, Bool, true, List, [], ◌∷◌, map, Option, Some, None, refl}
use Rattle.std.specs.Prelude.{codes}
use Rattle.std.specs.BTreeMap.{insert_entry}
use Rattle.std.specs.List.{list_all}
use Rattle.std.specs.Ordering.{match_ordering}
use Rattle.std.specs.Str.{is_utf8}
use Rattle.std.specs.declared.cmp.Ordering.{Ordering}
use Rattle.std.specs.declared.cmp.Ordering.TheVariants.{Less, Equal, Greater}
use Rattle.std.proofs.lemmas.Bool.{and_parts, and_from}
use Rattle.usd_names.specs.Names.{is_name}
use Rattle.sdf_paths.specs.Order.{text_cmp}
use Rattle.sdf_values.specs.Print.{print, quoted}
use Rattle.sdf_values.specs.Proper.{all_true}
use Rattle.sdf_values.specs.declared.value.Value.{Value}
use Rattle.sdf_values.specs.declared.value.Value.TheVariants as value
use Rattle.spec_properties.specs.Entries.{MetaEntries, SelectionEntries}
use Rattle.spec_parts.specs.declared.items.SubLayer.{SubLayer}
use Rattle.spec_parts.specs.declared.spec.Spec.{Spec}
use Rattle.usda_writer.specs.Canonical.{with_default_prim}
use Rattle.usda_writer.specs.Texts.{path_text, reference_text, sublayer_text}
use Rattle.usda_writer.specs.Fields.{is_comment, comment_line, key_line, meta_lines, selection_item, selection_lines, spec_lines, sublayer_lines}
use Rattle.value_texts.specs.Writable.{is_writable}
use Rattle.sdf_values.proofs.Values as fold
use Rattle.layer_texts.specs.Writable.{none_or, is_word, is_writable_target, is_writable_reference, is_writable_list, is_writable_entry, is_writable_meta, are_writable_selections, are_writable_arcs, is_writable_body, is_writable_spec}
use Rattle.layer_texts.proofs.Metadata.{selections_writable}
use Rattle.text_checks.specs.Utf8.{is_utf8_value, is_utf8_entry, utf8_step, utf8_item, is_utf8_path, is_utf8_reference, is_utf8_sublayer, is_utf8_meta, is_utf8_spec}
use Rattle.text_checks.proofs.Bytes.{IsValid, tested, two, nothing, ascii, either, all}
use Rattle.text_checks.proofs.Lists.{line_valid, list_valid, edit_line_valid, path_valid, reference_valid, sublayer_valid}
use Rattle.text_checks.proofs.Strings.{string_valid}
use Rattle.text_checks.proofs.Values.{value_valid}

pub word_valid : (t : List ℕ) → is_word t ≡ true → IsValid t
unfolding is_word
word_valid t h = tested t (and_parts (is_utf8 t) (is_name t) h).0

-- ---- keys with their values

-- an entry, of which both tests hold
abbrev is_good : List ℕ × Value → Bool
is_good e = is_writable_entry e && is_utf8_value e.1

entries_good : (meta : MetaEntries) → is_writable_meta meta ≡ true → is_utf8_meta meta ≡ true → list_all is_good meta ≡ true
entries_good [] w u = refl
entries_good (e ∷ es) w u =
    let p = and_parts (is_writable_entry e) (is_writable_meta es) w in
    let q = and_parts (is_utf8_value e.1) (is_utf8_meta es) u in
    and_from (is_good e) (list_all is_good es) (and_from (is_writable_entry e) (is_utf8_value e.1) p.0 q.0) (entries_good es p.1 q.1)

entry_value : (e : List ℕ × Value) → is_good e ≡ true → (level : ℕ) → IsValid (print e.1 level)
entry_value e h level =
    let p = and_parts (is_writable_entry e) (is_utf8_value e.1) h in
    value_valid e.1 (and_parts (is_word e.0) (is_writable e.1) p.0).1 p.1 level

comment_valid : (level : ℕ) (e : List ℕ × Value) → is_good e ≡ true → IsValid (comment_line level e)
comment_valid level e h = either (is_comment e.0) (line_valid level (entry_value e h level)) nothing

key_valid : (level : ℕ) (e : List ℕ × Value) → is_good e ≡ true → IsValid (key_line level e)
key_valid level e h =
    let p = and_parts (is_writable_entry e) (is_utf8_value e.1) h in
    let q = and_parts (is_word e.0) (is_writable e.1) p.0 in
    either (is_comment e.0) nothing (line_valid level (two (two (word_valid e.0 q.0) (ascii (codes " = ") refl)) (entry_value e h level)))

pub meta_valid : (level : ℕ) (meta : MetaEntries) → is_writable_meta meta ≡ true → is_utf8_meta meta ≡ true → IsValid (meta_lines level meta)
meta_valid level meta w u =
    let good = entries_good meta w u in
    two (all (comment_line level) is_good (comment_valid level) meta good) (all (key_line level) is_good (key_valid level) meta good)

-- with an entry more
inserted : (cmp : List ℕ → List ℕ → Ordering) (k : List ℕ) (v : Value) → is_utf8_value v ≡ true → (es : MetaEntries) → is_utf8_meta es ≡ true → is_utf8_meta (insert_entry cmp es k v) ≡ true
inserted cmp k v u [] h = and_from (is_utf8_value v) true u refl
inserted cmp k v u (e ∷ es) h =
    let p = and_parts (is_utf8_value e.1) (is_utf8_meta es) h in
    cases (cmp k e.0) (and_from (is_utf8_value v) (is_utf8_meta (e ∷ es)) u h) (and_from (is_utf8_value v) (is_utf8_meta es) u p.1)
    (and_from (is_utf8_value e.1) (is_utf8_meta (insert_entry cmp es k v)) p.0 (inserted cmp k v u es p.1))
  where
    cases : (o : Ordering) → is_utf8_meta ((k, v) ∷ e ∷ es) ≡ true → is_utf8_meta ((e.0, v) ∷ es) ≡ true → is_utf8_meta (e ∷ insert_entry cmp es k v) ≡ true
        → is_utf8_meta (match_ordering o ((k, v) ∷ e ∷ es) ((e.0, v) ∷ es) (e ∷ insert_entry cmp es k v)) ≡ true
    cases Less a b c = a
    cases Equal a b c = b
    cases Greater a b c = c

-- the default prim is a text
pub default_utf8 : (name : Option (List ℕ)) (meta : MetaEntries) → is_utf8_meta meta ≡ true → is_utf8_meta (with_default_prim name meta) ≡ true
default_utf8 None meta h = h
default_utf8 (Some name) meta h = inserted text_cmp (codes "defaultPrim") (value.Text name) (fold.of_text Bool Bool utf8_step utf8_item name) meta h

-- the variants that are selected are texts
items_utf8 : (ss : SelectionEntries) → all_true (map is_utf8_entry (map selection_item ss)) ≡ true
items_utf8 [] = refl
items_utf8 (s ∷ ss) =
    and_from (is_utf8_entry (selection_item s)) (all_true (map is_utf8_entry (map selection_item ss)))
    (fold.of_item Bool Bool utf8_step utf8_item (selection_item s) ∙ fold.of_text Bool Bool utf8_step utf8_item s.1) (items_utf8 ss)

selections_valid : (level : ℕ) (ss : SelectionEntries) → are_writable_selections ss ≡ true → IsValid (selection_lines level ss)
selections_valid level [] h = nothing
selections_valid level (s ∷ ss) h =
    let items = map selection_item (s ∷ ss) in
    line_valid level (two (ascii (codes "variants = ") refl)
    (value_valid (value.Dict items) (selections_writable (s ∷ ss) h) (fold.of_dict Bool Bool utf8_step utf8_item items ∙ items_utf8 (s ∷ ss)) level))

-- ---- the metadata of a prim or a variant, and sublayers

pub spec_valid : (level : ℕ) (spec : Spec) → is_writable_spec spec ≡ true → is_utf8_spec spec ≡ true → IsValid (spec_lines level spec)
unfolding spec_lines is_writable_spec is_utf8_spec
spec_valid level spec h u =
    let parts = and_parts (are_writable_arcs spec.arcs) (is_writable_body spec.body) h in
    let inherits = and_parts (is_writable_list is_writable_target spec.arcs.inherits) _ parts.0 in let specializes = and_parts (is_writable_list is_writable_target spec.arcs.specializes) _ inherits.1 in
    let references = and_parts (is_writable_list is_writable_reference spec.arcs.references) _ specializes.1 in let payloads = and_parts (is_writable_list is_writable_reference spec.arcs.payloads) _ references.1 in
    let sets = and_parts (is_writable_list is_utf8 spec.arcs.variant_sets) _ payloads.1 in
    let typed = and_parts (none_or is_word spec.body.type_name) _ parts.1 in let meta = and_parts (is_writable_meta spec.body.meta) _ typed.1 in
    let schemas = and_parts (is_writable_list is_utf8 spec.body.api_schemas) _ meta.1 in let clips = and_parts (is_writable_list is_utf8 spec.body.clip_sets) _ schemas.1 in
    let utf8 = and_parts _ _ u in let utf8_meta = and_parts _ _ utf8.1 in
    let utf8_inherits = and_parts _ _ utf8.0 in let utf8_specializes = and_parts _ _ utf8_inherits.1 in let utf8_references = and_parts _ _ utf8_specializes.1 in
    two (two (two (two (two (two (two (two
    (meta_valid level spec.body.meta meta.0 utf8_meta.0)
    (list_valid quoted is_utf8 string_valid level (ascii (codes "apiSchemas") refl) spec.body.api_schemas schemas.0))
    (list_valid quoted is_utf8 string_valid level (ascii (codes "clipSets") refl) spec.body.clip_sets clips.0))
    (list_valid path_text is_utf8_path path_valid level (ascii (codes "inherits") refl) spec.arcs.inherits utf8_inherits.0))
    (list_valid quoted is_utf8 string_valid level (ascii (codes "variantSets") refl) spec.arcs.variant_sets sets.0))
    (selections_valid level spec.arcs.selections sets.1))
    (list_valid reference_text is_utf8_reference reference_valid level (ascii (codes "references") refl) spec.arcs.references utf8_references.0))
    (list_valid reference_text is_utf8_reference reference_valid level (ascii (codes "payload") refl) spec.arcs.payloads utf8_references.1))
    (list_valid path_text is_utf8_path path_valid level (ascii (codes "specializes") refl) spec.arcs.specializes utf8_specializes.0)

pub sublayers_valid : (level : ℕ) (sublayers : List SubLayer) → list_all is_utf8_sublayer sublayers ≡ true → IsValid (sublayer_lines level sublayers)
sublayers_valid level sublayers h = edit_line_valid sublayer_text is_utf8_sublayer sublayer_valid level nothing (ascii (codes "subLayers") refl) sublayers h

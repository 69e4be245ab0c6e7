-- Metadata that is made of the parts of a layer can be written.
use Rattle.std.proofs.Common.{◌≡◌, ◌∙◌, ℕ, Bool, true, List, [], ◌∷◌, map, Option, Some, None, refl}
use Rattle.std.specs.Prelude.{codes}
use Rattle.std.specs.BTreeMap.{insert_entry}
use Rattle.std.specs.Ordering.{match_ordering}
use Rattle.std.specs.Str.{chars, is_utf8}
use Rattle.std.specs.declared.cmp.Ordering.{Ordering}
use Rattle.std.specs.declared.cmp.Ordering.TheVariants.{Less, Equal, Greater}
use Rattle.std.proofs.lemmas.Bool.{and_parts, and_from}
use Rattle.unicode_ident.proofs.Computing.{unicode_ident}
use Rattle.usd_names.specs.Names.{is_start}
use Rattle.sdf_paths.specs.Order.{text_cmp}
use Rattle.sdf_values.specs.Proper.{all_true}
use Rattle.sdf_values.specs.declared.value.Value.{Value}
use Rattle.sdf_values.specs.declared.value.Value.TheVariants as value
use Rattle.spec_properties.specs.Entries.{MetaEntries, SelectionEntries}
use Rattle.usda_writer.specs.Canonical.{with_default_prim}
use Rattle.usda_writer.specs.Fields.{selection_item}
use Rattle.value_texts.specs.Writable.{is_writable, is_writable_item, writable_step, writable_item}
use Rattle.sdf_values.proofs.Values as fold
use Rattle.layer_texts.specs.Writable.{none_or, is_word, is_writable_entry, is_writable_meta, is_writable_selection, are_writable_selections}

text_writable : (t : List ℕ) → is_utf8 t ≡ true → is_writable (value.Text t) ≡ true
text_writable t h = fold.of_text Bool Bool writable_step writable_item t ∙ h

-- with an entry more
inserted : (cmp : List ℕ → List ℕ → Ordering) (k : List ℕ) (v : Value) → is_writable_entry (k, v) ≡ true → (es : MetaEntries) → is_writable_meta es ≡ true → is_writable_meta (insert_entry cmp es k v) ≡ true
inserted cmp k v w [] h = and_from (is_writable_entry (k, v)) true w refl
inserted cmp k v w (e ∷ es) h =
    let p = and_parts (is_writable_entry e) (is_writable_meta es) h in
    let key = and_parts (is_word e.0) (is_writable e.1) p.0 in
    let given = and_parts (is_word k) (is_writable v) w in
    cases (cmp k e.0) (and_from (is_writable_entry (k, v)) (is_writable_meta (e ∷ es)) w h)
    (and_from (is_writable_entry (e.0, v)) (is_writable_meta es) (and_from (is_word e.0) (is_writable v) key.0 given.1) p.1)
    (and_from (is_writable_entry e) (is_writable_meta (insert_entry cmp es k v)) p.0 (inserted cmp k v w es p.1))
  where
    cases : (o : Ordering) → is_writable_meta ((k, v) ∷ e ∷ es) ≡ true → is_writable_meta ((e.0, v) ∷ es) ≡ true → is_writable_meta (e ∷ insert_entry cmp es k v) ≡ true
        → is_writable_meta (match_ordering o ((k, v) ∷ e ∷ es) ((e.0, v) ∷ es) (e ∷ insert_entry cmp es k v)) ≡ true
    cases Less a b c = a
    cases Equal a b c = b
    cases Greater a b c = c

pub default_word : is_word (codes "defaultPrim") ≡ true
unfolding is_word is_utf8 chars is_start unicode_ident lib.Utf8.encode
default_word = refl

-- the metadata of a layer with its default prim
pub default_writable : (name : Option (List ℕ)) (meta : MetaEntries) → none_or is_utf8 name ≡ true → is_writable_meta meta ≡ true → is_writable_meta (with_default_prim name meta) ≡ true
default_writable None meta h w = w
default_writable (Some name) meta h w =
    inserted text_cmp (codes "defaultPrim") (value.Text name) (and_from (is_word (codes "defaultPrim")) (is_writable (value.Text name)) default_word (text_writable name h)) meta w

-- the dictionary of the variants that are selected
items_writable : (ss : SelectionEntries) → are_writable_selections ss ≡ true → all_true (map is_writable_item (map selection_item ss)) ≡ true
items_writable [] h = refl
items_writable (s ∷ ss) h =
    let p = and_parts (is_writable_selection s) (are_writable_selections ss) h in
    let q = and_parts (is_utf8 s.0) (is_utf8 s.1) p.0 in
    and_from (is_writable_item (selection_item s)) (all_true (map is_writable_item (map selection_item ss)))
    (fold.of_item Bool Bool writable_step writable_item (selection_item s) ∙ and_from (is_utf8 s.0) (is_writable (value.Text s.1)) q.0 (text_writable s.1 q.1))
    (items_writable ss p.1)

pub selections_writable : (ss : SelectionEntries) → are_writable_selections ss ≡ true → is_writable (value.Dict (map selection_item ss)) ≡ true
selections_writable ss h = fold.of_dict Bool Bool writable_step writable_item (map selection_item ss) ∙ items_writable ss h

-- What tokens make of the list of a field.
use Rattle.std.proofs.Common.{◌≡◌, ◌≤◌, ℕ, suc, Bool, true, false, List, Option, Some, None, Result, Ok, Err, refl, subst}
use Rattle.std.specs.Option.{option_map}
use Rattle.std.specs.Prelude.{if◌then◌else◌}
use Rattle.std.specs.Str.{is_utf8}
use Rattle.std.proofs.lemmas.Str.{IsUtf8-from_is_utf8}
use Rattle.list_ops.specs.declared.op.ListOp.{ListOp}
use Rattle.sdf_paths.specs.Paths.{IsPath}
use Rattle.sdf_paths.specs.declared.element.Element.{Element}
use Rattle.sdf_values.specs.declared.refusal.RefusalKind.{RefusalKind}
use Rattle.spec_parts.specs.declared.items.RefItem.{RefItem}
use Rattle.usda_fields.specs.Fields.{paths_at, with_paths, items_at, with_items, texts_at, with_texts, given_at, open_field, field_act, push_path, path_act, text_act, lone_path_act, amend_items}
use Rattle.usda_fields.specs.Names.{if_utf8, text_of}
use Rattle.usda_fields.specs.declared.field.PathField.{PathField}
use Rattle.usda_fields.specs.declared.field.ReferenceField.{ReferenceField}
use Rattle.usda_fields.specs.declared.field.TextField.{TextField}
use Rattle.usda_fields.specs.declared.field.ListField.{ListField}
use Rattle.usda_fields.specs.declared.field.ListField.TheVariants as list
use Rattle.usda_fields.specs.declared.owner.OwnerDraft.{OwnerDraft}
use Rattle.usda_grammar.specs.declared.kinds.Keyword.{Keyword}
use Rattle.usda_lexer.specs.Meanings.{path_text, string_text, string_bytes_of}
use Rattle.usda_lists.specs.Acts.{and_then}
use Rattle.usda_lists.specs.Edits.{give}
use Rattle.usda_lists.specs.Lists.{amend_last, amend_list, close_list, push_item}
use Rattle.usda_lists.specs.Paths.{path_from}
use Rattle.usda_lists.specs.References.{asset_item, path_item, with_path, with_number_of, same_text, same_path, same_item}
use Rattle.usda_lists.specs.declared.edit.GivenLists.{GivenLists}
use Rattle.usda_lists.specs.declared.edit.ListEdit.{ListEdit}
use Rattle.value_returns.specs.Fields.{IsText, IsProperReference}
use Rattle.path_returns.proofs.Meant.{path_means_one}
use Rattle.fields_read.specs.Laws.{ReadListsAreProper, reading}
use Rattle.fields_read.specs.Sound.{IsSaid, IsSoundSaid}
use Rattle.fields_read.proofs.Items.{Keeps}
use Rattle.fields_read.proofs.Places.{marked, marks_so, base_paths, paths_as_before, said_paths, path_place, base_items, items_as_before, said_items, item_place, texts_as_before, said_texts, text_place}
use Rattle.fields_read.proofs.Reading.{Reads, opens, unbounded, pushes, amends, ends_alone}
use Rattle.fields_read.proofs.References.{asset_item_proper, path_item_proper, path_keeps, number_keeps}

-- ---- texts

-- a string token that is a text is UTF-8
pub text_such : (token text : List ℕ) → text_of token ≡ Ok text → IsText text
unfolding string_text
text_such token text h = by (is_utf8 (string_bytes_of token)) refl h
  where
    by : (b : Bool) → is_utf8 (string_bytes_of token) ≡ b → if_utf8 (if b then Some (string_bytes_of token) else None) ≡ Ok text → IsText text
    by true e g = (let so : string_bytes_of token ≡ text = cc in subst IsText so e)
    by false e g = absurd cc

-- ---- open lists, by what their items are

module _ (is_name : Keyword → Bool) where
  -- a list of paths that is open
  abbrev PathReads : PathField → ListEdit → Option ℕ → OwnerDraft → Type 0
  PathReads f edit most d = Reads is_name same_path IsPath (paths_at f) (with_paths f) (λ d. given_at (list.Paths f) d.given) edit most d

  of_paths : (f : PathField) (edit : ListEdit) (most : Option ℕ) (d : OwnerDraft) → PathReads f edit most d → IsSoundSaid is_name (reading (list.Paths f) edit most) d
  of_paths f edit most d r = record { given = r.given; items = r.items; closed = r.closed }

  to_paths : (f : PathField) (edit : ListEdit) (most : Option ℕ) (d : OwnerDraft) → IsSoundSaid is_name (reading (list.Paths f) edit most) d → PathReads f edit most d
  to_paths f edit most d r = record { given = r.given; items = r.items; closed = r.closed }

  -- a list of references or payloads that is open
  abbrev ItemReads : ReferenceField → ListEdit → Option ℕ → OwnerDraft → Type 0
  ItemReads f edit most d = Reads is_name same_item IsProperReference (items_at f) (with_items f) (λ d. given_at (list.References f) d.given) edit most d

  of_items : (f : ReferenceField) (edit : ListEdit) (most : Option ℕ) (d : OwnerDraft) → ItemReads f edit most d → IsSoundSaid is_name (reading (list.References f) edit most) d
  of_items f edit most d r = record { given = r.given; items = r.items; closed = r.closed }

  to_items : (f : ReferenceField) (edit : ListEdit) (most : Option ℕ) (d : OwnerDraft) → IsSoundSaid is_name (reading (list.References f) edit most) d → ItemReads f edit most d
  to_items f edit most d r = record { given = r.given; items = r.items; closed = r.closed }

  -- a list of texts that is open
  abbrev TextReads : TextField → ListEdit → Option ℕ → OwnerDraft → Type 0
  TextReads f edit most d = Reads is_name same_text IsText (texts_at f) (with_texts f) (λ d. given_at (list.Texts f) d.given) edit most d

  of_texts : (f : TextField) (edit : ListEdit) (most : Option ℕ) (d : OwnerDraft) → TextReads f edit most d → IsSoundSaid is_name (reading (list.Texts f) edit most) d
  of_texts f edit most d r = record { given = r.given; items = r.items; closed = r.closed }

  to_texts : (f : TextField) (edit : ListEdit) (most : Option ℕ) (d : OwnerDraft) → IsSoundSaid is_name (reading (list.Texts f) edit most) d → TextReads f edit most d
  to_texts f edit most d r = record { given = r.given; items = r.items; closed = r.closed }

  -- ---- the word of a field

  -- the owner in which a list is open
  abbrev IsOpened : ListField → ListEdit → GivenLists → OwnerDraft → Type 0
  IsOpened field edit given d = IsSoundSaid is_name (reading field edit (Some 0)) (open_field field edit (marked field given d))

  opened_paths : (f : PathField) (edit : ListEdit) (given : GivenLists) (d : OwnerDraft) → IsSaid is_name d → give edit (given_at (list.Paths f) d.given) ≡ Ok given → IsOpened (list.Paths f) edit given d
  opened_paths f edit given d said h =
      of_paths f edit (Some 0) (open_field (list.Paths f) edit (marked (list.Paths f) given d))
      (opens is_name same_path IsPath (paths_at f) (with_paths f) (λ d. given_at (list.Paths f) d.given) (path_place is_name f) edit given d (marked (list.Paths f) given d) h
      (marks_so (list.Paths f) given d) (paths_as_before f given d) said (λ op sound. said_paths is_name f given op d said sound))

  opened_items : (f : ReferenceField) (edit : ListEdit) (given : GivenLists) (d : OwnerDraft) → IsSaid is_name d → give edit (given_at (list.References f) d.given) ≡ Ok given → IsOpened (list.References f) edit given d
  opened_items f edit given d said h =
      of_items f edit (Some 0) (open_field (list.References f) edit (marked (list.References f) given d))
      (opens is_name same_item IsProperReference (items_at f) (with_items f) (λ d. given_at (list.References f) d.given) (item_place is_name f) edit given d (marked (list.References f) given d) h
      (marks_so (list.References f) given d) (items_as_before f given d) said (λ op sound. said_items is_name f given op d said sound))

  opened_texts : (f : TextField) (edit : ListEdit) (given : GivenLists) (d : OwnerDraft) → IsSaid is_name d → give edit (given_at (list.Texts f) d.given) ≡ Ok given → IsOpened (list.Texts f) edit given d
  opened_texts f edit given d said h =
      of_texts f edit (Some 0) (open_field (list.Texts f) edit (marked (list.Texts f) given d))
      (opens is_name same_text IsText (texts_at f) (with_texts f) (λ d. given_at (list.Texts f) d.given) (text_place is_name f) edit given d (marked (list.Texts f) given d) h
      (marks_so (list.Texts f) given d) (texts_as_before f given d) said (λ op sound. said_texts is_name f given op d said sound))

  opened : (field : ListField) (edit : ListEdit) (given : GivenLists) (d : OwnerDraft) → IsSaid is_name d → give edit (given_at field d.given) ≡ Ok given → IsOpened field edit given d
  opened (list.Paths f) edit given d said h = opened_paths f edit given d said h
  opened (list.References f) edit given d said h = opened_items f edit given d said h
  opened (list.Texts f) edit given d said h = opened_texts f edit given d said h

  field_begun : (field : ListField) (edit : ListEdit) (d next : OwnerDraft) → IsSoundSaid is_name None d → field_act field edit d ≡ Ok next → IsSoundSaid is_name (reading field edit (Some 0)) next
  field_begun field edit d next said h = by (give edit (given_at field d.given)) refl h
    where
      by : (r : Result GivenLists RefusalKind) → give edit (given_at field d.given) ≡ r → and_then r (λ g. Ok (open_field field edit (marked field g d))) ≡ Ok next
          → IsSoundSaid is_name (reading field edit (Some 0)) next
      by (Ok given) e g =
          let so : open_field field edit (marked field given d) ≡ next = cc in
          subst (IsSoundSaid is_name (reading field edit (Some 0))) so (opened field edit given d said e)
      by (Err k) e g = absurd cc

  -- ---- items

  text_pushed : (f : TextField) (edit : ListEdit) (most : Option ℕ) (token : List ℕ) (d next : OwnerDraft) → IsSoundSaid is_name (reading (list.Texts f) edit most) d → text_act f edit token d ≡ Ok next
      → IsSoundSaid is_name (reading (list.Texts f) edit (option_map suc most)) next
  text_pushed f edit most token d next r h = by (text_of token) refl h
    where
      by : (t : Result (List ℕ) RefusalKind) → text_of token ≡ t → and_then t (λ text. Ok (with_texts f (push_item edit text (texts_at f d)) d)) ≡ Ok next
          → IsSoundSaid is_name (reading (list.Texts f) edit (option_map suc most)) next
      by (Ok text) e g =
          let so : with_texts f (push_item edit text (texts_at f d)) d ≡ next = cc in
          subst (IsSoundSaid is_name (reading (list.Texts f) edit (option_map suc most))) so
          (of_texts f edit (option_map suc most) (with_texts f (push_item edit text (texts_at f d)) d)
          (pushes is_name same_text IsText (texts_at f) (with_texts f) (λ d. given_at (list.Texts f) d.given) (text_place is_name f) edit most text d (to_texts f edit most d r) (text_such token text e)))
      by (Err k) e g = absurd cc

  -- relative paths are put behind a path
  paths_base : (f : PathField) (edit : ListEdit) (most : Option ℕ) (d : OwnerDraft) → IsSoundSaid is_name (reading (list.Paths f) edit most) d → IsPath d.base
  paths_base f edit most d r = subst IsPath (base_paths f (close_list same_path edit (paths_at f d)) d) r.closed.base

  items_base : (f : ReferenceField) (edit : ListEdit) (most : Option ℕ) (d : OwnerDraft) → IsSoundSaid is_name (reading (list.References f) edit most) d → IsPath d.base
  items_base f edit most d r = subst IsPath (base_items f (close_list same_item edit (items_at f d)) d) r.closed.base

  path_pushed : (f : PathField) (edit : ListEdit) (most : Option ℕ) (token : List ℕ) (d next : OwnerDraft) → IsSoundSaid is_name (reading (list.Paths f) edit most) d → IsText (path_text token)
      → path_act f edit token d ≡ Ok next → IsSoundSaid is_name (reading (list.Paths f) edit (option_map suc most)) next
  path_pushed f edit most token d next r u h = by (path_from d.base (path_text token)) refl h
    where
      by : (p : Option (List Element)) → path_from d.base (path_text token) ≡ p → push_path f edit p d ≡ Ok next → IsSoundSaid is_name (reading (list.Paths f) edit (option_map suc most)) next
      by None e g = absurd cc
      by (Some path) e g =
          let so : with_paths f (push_item edit path (paths_at f d)) d ≡ next = cc in
          let one : IsPath path = path_means_one d.base (path_text token) path (paths_base f edit most d r) (IsUtf8-from_is_utf8 (path_text token) u) e in
          subst (IsSoundSaid is_name (reading (list.Paths f) edit (option_map suc most))) so
          (of_paths f edit (option_map suc most) (with_paths f (push_item edit path (paths_at f d)) d)
          (pushes is_name same_path IsPath (paths_at f) (with_paths f) (λ d. given_at (list.Paths f) d.given) (path_place is_name f) edit most path d (to_paths f edit most d r) one))

  -- an item of references or payloads more
  item_pushed : (f : ReferenceField) (edit : ListEdit) (most : Option ℕ) (item : RefItem) (d : OwnerDraft) → IsSoundSaid is_name (reading (list.References f) edit most) d → IsProperReference item
      → IsSoundSaid is_name (reading (list.References f) edit (option_map suc most)) (with_items f (push_item edit item (items_at f d)) d)
  item_pushed f edit most item d r proper =
      of_items f edit (option_map suc most) (with_items f (push_item edit item (items_at f d)) d)
      (pushes is_name same_item IsProperReference (items_at f) (with_items f) (λ d. given_at (list.References f) d.given) (item_place is_name f) edit most item d (to_items f edit most d r) proper)

  lone_pushed : (f : ReferenceField) (edit : ListEdit) (most : Option ℕ) (token : List ℕ) (d next : OwnerDraft) → IsSoundSaid is_name (reading (list.References f) edit most) d → IsText (path_text token)
      → lone_path_act f edit token d ≡ Ok next → IsSoundSaid is_name (reading (list.References f) edit (option_map suc most)) next
  lone_pushed f edit most token d next r u h = by (path_item d.base token) refl h
    where
      by : (i : Result RefItem RefusalKind) → path_item d.base token ≡ i → and_then i (λ item. Ok (with_items f (push_item edit item (items_at f d)) d)) ≡ Ok next
          → IsSoundSaid is_name (reading (list.References f) edit (option_map suc most)) next
      by (Ok item) e g =
          let so : with_items f (push_item edit item (items_at f d)) d ≡ next = cc in
          subst (IsSoundSaid is_name (reading (list.References f) edit (option_map suc most))) so (item_pushed f edit most item d r (path_item_proper d.base token item (items_base f edit most d r) u e))
      by (Err k) e g = absurd cc

  -- the last item of references or payloads, changed
  item_amended : (f : ReferenceField) (edit : ListEdit) (most : Option ℕ) (change : RefItem → Result RefItem RefusalKind) (d next : OwnerDraft) → Keeps IsProperReference change
      → IsSoundSaid is_name (reading (list.References f) edit most) d → amend_items f edit change d ≡ Ok next → IsSoundSaid is_name (reading (list.References f) edit most) next
  item_amended f edit most change d next keeps r h = by (amend_list edit (amend_last change) (items_at f d)) refl h
    where
      by : (o : Result (ListOp RefItem) RefusalKind) → amend_list edit (amend_last change) (items_at f d) ≡ o → and_then o (λ op. Ok (with_items f op d)) ≡ Ok next
          → IsSoundSaid is_name (reading (list.References f) edit most) next
      by (Ok op) e g =
          let so : with_items f op d ≡ next = cc in
          subst (IsSoundSaid is_name (reading (list.References f) edit most)) so
          (of_items f edit most (with_items f op d)
          (amends is_name same_item IsProperReference (items_at f) (with_items f) (λ d. given_at (list.References f) d.given) (item_place is_name f) edit most change op d keeps (to_items f edit most d r) e))
      by (Err k) e g = absurd cc

  -- ---- the end of a list, and a list without one

  bracket : (field : ListField) (edit : ListEdit) (most : Option ℕ) (d : OwnerDraft) → IsSoundSaid is_name (reading field edit most) d → IsSoundSaid is_name (reading field edit None) d
  bracket (list.Paths f) edit most d r =
      of_paths f edit None d (unbounded is_name same_path IsPath (paths_at f) (with_paths f) (λ d. given_at (list.Paths f) d.given) (path_place is_name f) edit most d (to_paths f edit most d r))
  bracket (list.References f) edit most d r =
      of_items f edit None d (unbounded is_name same_item IsProperReference (items_at f) (with_items f) (λ d. given_at (list.References f) d.given) (item_place is_name f) edit most d (to_items f edit most d r))
  bracket (list.Texts f) edit most d r =
      of_texts f edit None d (unbounded is_name same_text IsText (texts_at f) (with_texts f) (λ d. given_at (list.Texts f) d.given) (text_place is_name f) edit most d (to_texts f edit most d r))

  alone : (field : ListField) (edit : ListEdit) (most : ℕ) (d : OwnerDraft) → most ≤ 1 → IsSoundSaid is_name (reading field edit (Some most)) d → IsSoundSaid is_name None d
  alone (list.Paths f) edit most d one r =
      ends_alone is_name same_path IsPath (paths_at f) (with_paths f) (λ d. given_at (list.Paths f) d.given) (path_place is_name f) edit most d one (to_paths f edit (Some most) d r)
  alone (list.References f) edit most d one r =
      ends_alone is_name same_item IsProperReference (items_at f) (with_items f) (λ d. given_at (list.References f) d.given) (item_place is_name f) edit most d one (to_items f edit (Some most) d r)
  alone (list.Texts f) edit most d one r =
      ends_alone is_name same_text IsText (texts_at f) (with_texts f) (λ d. given_at (list.Texts f) d.given) (text_place is_name f) edit most d one (to_texts f edit (Some most) d r)

  pub lists_read : ReadListsAreProper is_name
  lists_read = record {
    begun = field_begun;
    bracketed = bracket;
    text = text_pushed;
    path = path_pushed;
    asset = λ f edit most token d r name. item_pushed f edit most (asset_item token) d r (asset_item_proper token name);
    lone_path = lone_pushed;
    item_path = λ f edit most token d next r u h. item_amended f edit most (with_path d.base token) d next (path_keeps d.base token (items_base f edit most d r) u) r h;
    item_number = λ f edit most k token d next r h. item_amended f edit most (with_number_of k token) d next (number_keeps k token) r h;
    closed = λ field edit most d r. r.closed;
    lone = alone;
  }

-- What an owner says is proper, whatever a text says of it: each act keeps it so.
use Rattle.std.specs.Prelude.{◌≡◌, ◌≤◌, ℕ, suc, Bool, true, List, Option, Some, None, Ok, codes}
use Rattle.std.specs.Option.{option_map}
use Rattle.sdf_paths.specs.Paths.{IsPath}
use Rattle.sdf_paths.specs.declared.element.Element.{Element}
use Rattle.sdf_values.specs.declared.value.Value.{Value}
use Rattle.spec_parts.specs.declared.items.Specifier.{Specifier}
use Rattle.spec_parts.specs.declared.items.SubLayer.{SubLayer}
use Rattle.spec_parts.specs.declared.spec.Spec.{Spec}
use Rattle.spec_properties.specs.Entries.{MetaEntries}
use Rattle.usda_fields.specs.Fields.{field_act, text_act, path_act, asset_act, lone_path_act, item_path_act, item_number_act, close_field}
use Rattle.usda_fields.specs.Keys as keys
use Rattle.usda_fields.specs.Keys.{key_rule, rule_shape}
use Rattle.usda_fields.specs.Owners.{owner_at, key_act, value_act, comment_act, order_act, ordered_act}
use Rattle.usda_fields.specs.Variants.{variants_act, selections_act}
use Rattle.usda_fields.specs.declared.field.ListField.{ListField}
use Rattle.usda_fields.specs.declared.field.ListField.TheVariants as list
use Rattle.usda_fields.specs.declared.field.PathField.{PathField}
use Rattle.usda_fields.specs.declared.field.ReferenceField.{ReferenceField}
use Rattle.usda_fields.specs.declared.field.TextField.{TextField}
use Rattle.usda_fields.specs.declared.keys.KeyRule.{KeyRule}
use Rattle.usda_fields.specs.declared.owner.OrderWord.{OrderWord}
use Rattle.usda_fields.specs.declared.owner.OwnerDraft.{OwnerDraft}
use Rattle.usda_grammar.specs.Words.{keyword_of}
use Rattle.usda_grammar.specs.declared.kinds.Keyword.{Keyword}
use Rattle.usda_lexer.specs.Meanings.{asset_text, path_text}
use Rattle.usda_lists.specs.Lists.{amend_last}
use Rattle.usda_lists.specs.References.{sublayer_of, sublayer_number}
use Rattle.usda_lists.specs.declared.edit.ListEdit.{ListEdit}
use Rattle.usda_lists.specs.declared.offset.OffsetKey.{OffsetKey}
use Rattle.value_texts.specs.Readable.{is_read_as, depth}
use Rattle.value_texts.specs.Writable.{is_writable}
use Rattle.value_texts.specs.Each.{AreAll}
use Rattle.layer_reads.specs.Keys.{is_plain_key, is_plain_head_key}
use Rattle.layer_texts.specs.Writable.{is_word, none_or}
use Rattle.text_checks.specs.Utf8.{is_utf8_value}
use Rattle.usda_drafts.specs.Drafts.{head_with}
use Rattle.value_returns.specs.Fields.{IsText, IsAssetName, AreProperFields, IsProperSublayer, IsProperHead}
use Rattle.value_returns.specs.FullPaths.{has_full_paths}
use Rattle.value_returns.specs.Proper.{IsProperMeta}
use Rattle.fields_read.specs.Sound.{IsSoundSaid, OpenList}

-- a list of a field, behind its edit word, with so many items at most
abbrev pub reading : ListField → ListEdit → Option ℕ → Option OpenList
reading field edit most = Some (record { field = field; edit = edit; most = most })

-- an owner of which nothing is read yet, at a path
abbrev pub OwnersBeginSound : Type 0
OwnersBeginSound = (is_name : Keyword → Bool) (path : List Element) (specifier : Specifier) → IsPath path → IsSoundSaid is_name None (owner_at path specifier)

-- ---- lists

-- How a list of a field is read. Of tokens it is asked that what stands between the delimiters of a path or an asset is UTF-8, and that
-- in an asset never three `@` stand in a row: what strings and numbers mean is asked where they are taken.
pub record ReadListsAreProper (is_name : Keyword → Bool) : Type 0 where
  -- the word of a field, behind its edit word: the list is empty
  pub begun : (field : ListField) (edit : ListEdit) (d next : OwnerDraft) → IsSoundSaid is_name None d → field_act field edit d ≡ Ok next
      → IsSoundSaid is_name (reading field edit (Some 0)) next
  -- its bracket
  pub bracketed : (field : ListField) (edit : ListEdit) (most : Option ℕ) (d : OwnerDraft) → IsSoundSaid is_name (reading field edit most) d
      → IsSoundSaid is_name (reading field edit None) d
  -- a string more
  pub text : (field : TextField) (edit : ListEdit) (most : Option ℕ) (token : List ℕ) (d next : OwnerDraft) → IsSoundSaid is_name (reading (list.Texts field) edit most) d
      → text_act field edit token d ≡ Ok next → IsSoundSaid is_name (reading (list.Texts field) edit (option_map suc most)) next
  -- a path more
  pub path : (field : PathField) (edit : ListEdit) (most : Option ℕ) (token : List ℕ) (d next : OwnerDraft) → IsSoundSaid is_name (reading (list.Paths field) edit most) d
      → IsText (path_text token) → path_act field edit token d ≡ Ok next → IsSoundSaid is_name (reading (list.Paths field) edit (option_map suc most)) next
  -- an asset more
  pub asset : (field : ReferenceField) (edit : ListEdit) (most : Option ℕ) (token : List ℕ) (d : OwnerDraft) → IsSoundSaid is_name (reading (list.References field) edit most) d
      → IsAssetName (asset_text token) → IsSoundSaid is_name (reading (list.References field) edit (option_map suc most)) (asset_act field edit token d)
  -- a path that stands alone
  pub lone_path : (field : ReferenceField) (edit : ListEdit) (most : Option ℕ) (token : List ℕ) (d next : OwnerDraft) → IsSoundSaid is_name (reading (list.References field) edit most) d
      → IsText (path_text token) → lone_path_act field edit token d ≡ Ok next → IsSoundSaid is_name (reading (list.References field) edit (option_map suc most)) next
  -- the path behind an asset
  pub item_path : (field : ReferenceField) (edit : ListEdit) (most : Option ℕ) (token : List ℕ) (d next : OwnerDraft) → IsSoundSaid is_name (reading (list.References field) edit most) d
      → IsText (path_text token) → item_path_act field edit token d ≡ Ok next → IsSoundSaid is_name (reading (list.References field) edit most) next
  -- an offset or a scale
  pub item_number : (field : ReferenceField) (edit : ListEdit) (most : Option ℕ) (key : OffsetKey) (token : List ℕ) (d next : OwnerDraft)
      → IsSoundSaid is_name (reading (list.References field) edit most) d → item_number_act field edit key token d ≡ Ok next → IsSoundSaid is_name (reading (list.References field) edit most) next
  -- the end of a list between brackets
  pub closed : (field : ListField) (edit : ListEdit) (most : Option ℕ) (d : OwnerDraft) → IsSoundSaid is_name (reading field edit most) d → IsSoundSaid is_name None (close_field field edit d)
  -- a list without brackets, as `None` or of one item, needs no end
  pub lone : (field : ListField) (edit : ListEdit) (most : ℕ) (d : OwnerDraft) → most ≤ 1 → IsSoundSaid is_name (reading field edit (Some most)) d → IsSoundSaid is_name None d

-- ---- keys

-- A key and a value that was read for it: the key is a name that may stand there, and the value can be written and is read where the
-- key's value is expected, with at most 64 levels, its paths from the root down, and its assets and paths UTF-8.
pub record IsReadFor (is_name : Keyword → Bool) (key : List ℕ) (v : Value) : Type 0 where
  pub word : is_word key ≡ true
  pub name : is_name (keyword_of key) ≡ true
  pub read : is_read_as v (rule_shape (key_rule key)) true ≡ true
  pub writable : is_writable v ≡ true
  pub deep : depth v ≤ 64
  pub full : has_full_paths v ≡ true
  pub utf8 : is_utf8_value v ≡ true

-- How metadata is read, each key with its value, and the comment, whoever says it.
pub record ReadMetadataIsProper (is_name : Keyword → Bool) : Type 0 where
  -- what is expected behind a key is what its rule says
  pub rule : (key : List ℕ) (meta : MetaEntries) (rule : KeyRule) → keys.key_act key meta ≡ Ok rule → rule ≡ key_rule key
  -- the value of a key
  pub value : (key : List ℕ) (v : Value) (meta next : MetaEntries) → IsProperMeta is_name meta → IsReadFor is_name key v → keys.value_act key v meta ≡ Ok next → IsProperMeta is_name next
  -- a string that stands alone
  pub comment : (token : List ℕ) (meta next : MetaEntries) → IsProperMeta is_name meta → keys.comment_act token meta ≡ Ok next → IsProperMeta is_name next

-- The same of the metadata of an owner.
pub record ReadKeysAreProper (is_name : Keyword → Bool) : Type 0 where
  pub rule : (key : List ℕ) (d : OwnerDraft) (rule : KeyRule) → key_act key d ≡ Ok rule → rule ≡ key_rule key
  pub value : (key : List ℕ) (v : Value) (d next : OwnerDraft) → IsSoundSaid is_name None d → IsReadFor is_name key v → value_act key v d ≡ Ok next → IsSoundSaid is_name None next
  pub comment : (token : List ℕ) (d next : OwnerDraft) → IsSoundSaid is_name None d → comment_act token d ≡ Ok next → IsSoundSaid is_name None next

-- ---- selected variants, and orders

-- How selected variants and orders are read.
pub record SelectionsAndOrdersAreRead (is_name : Keyword → Bool) : Type 0 where
  -- the word `variants`
  pub variants : (d next : OwnerDraft) → IsSoundSaid is_name None d → variants_act d ≡ Ok next → IsSoundSaid is_name None next
  -- its dictionary, which can be written
  pub selections : (v : Value) (d : OwnerDraft) → IsSoundSaid is_name None d → is_writable v ≡ true → IsSoundSaid is_name None (selections_act v d)
  -- the word of an order
  pub order : (word : OrderWord) (d next : OwnerDraft) → IsSoundSaid is_name None d → order_act word d ≡ Ok next → IsSoundSaid is_name None next
  -- a name more of an order
  pub ordered : (word : OrderWord) (token : List ℕ) (d next : OwnerDraft) → IsSoundSaid is_name None d → ordered_act word token d ≡ Ok next → IsSoundSaid is_name None next

-- ---- sublayers

-- How sublayers are read, which no owner says.
pub record SublayersAreRead : Type 0 where
  pub asset : (token : List ℕ) → IsAssetName (asset_text token) → IsProperSublayer (sublayer_of token)
  -- an offset or a scale of the last of them
  pub number : (key : OffsetKey) (token : List ℕ) (sublayers next : List SubLayer) → AreAll IsProperSublayer sublayers
      → amend_last (sublayer_number key token) sublayers ≡ Ok next → AreAll IsProperSublayer next

-- ---- what is said is proper

-- a spec of this type
abbrev pub with_type : Option (List ℕ) → Spec → Spec
with_type type_name spec = record spec { body = record spec.body { type_name = type_name } }

-- no key is a word of a field or an edit word, which are no plain keys
abbrev pub ArePlainKeys : MetaEntries → Type 0
ArePlainKeys meta = AreAll (λ e. is_plain_key (keyword_of e.0) ≡ true) meta

-- Where no list is open, what a prim or a variant says is proper, whose type is a name; and so is what the layer says.
pub record SaidIsProper : Type 0 where
  pub fields : (type_name : Option (List ℕ)) (d : OwnerDraft) → IsSoundSaid is_plain_key None d → none_or is_word type_name ≡ true → AreProperFields (with_type type_name d.spec)
  -- the same where other keys may be said, but none is: a text may say `add = 1`, whose key is an edit word
  pub plain_fields : (is_name : Keyword → Bool) (type_name : Option (List ℕ)) (d : OwnerDraft) → IsSoundSaid is_name None d → ArePlainKeys d.spec.body.meta → none_or is_word type_name ≡ true
      → AreProperFields (with_type type_name d.spec)
  pub head : (sublayers : List SubLayer) (d : OwnerDraft) → IsSoundSaid is_plain_head_key None d → AreAll IsProperSublayer sublayers
      → IsProperHead (head_with (codes "defaultPrim") d.spec.body sublayers)

-- What an owner says is proper where no list is open; and sublayers.
use Rattle.std.proofs.Common.{◌≡◌, ℕ, Bool, true, false, List, [], ◌∷◌, Option, Some, None, Ok, Err, refl}
use Rattle.std.specs.Prelude.{codes, if◌then◌else◌}
use Rattle.std.proofs.lemmas.Map.Lookups.{exact_bytes}
use Rattle.sdf_paths.specs.Order.{text_cmp}
use Rattle.sdf_paths.specs.Paths.{IsPath}
use Rattle.sdf_values.specs.declared.refusal.RefusalKind.TheVariants as refusal
use Rattle.sdf_values.specs.declared.value.Value.{Value}
use Rattle.sdf_values.specs.declared.value.Value.TheVariants as value
use Rattle.spec_parts.specs.declared.items.SubLayer.{SubLayer}
use Rattle.spec_properties.specs.Entries.{MetaEntries}
use Rattle.spec_tables.specs.Tables.{at_key}
use Rattle.usda_fields.specs.Keys.{is_default_prim, judged}
use Rattle.usda_fields.specs.declared.keys.KeyRule.TheVariants.{DefaultPrim}
use Rattle.usda_fields.specs.declared.field.PathField.TheVariants.{Inherits, Specializes}
use Rattle.usda_fields.specs.declared.field.ReferenceField.TheVariants.{References, Payload}
use Rattle.usda_fields.specs.declared.field.TextField.TheVariants.{VariantSets, ApiSchemas, ClipSets}
use Rattle.usda_fields.specs.declared.field.ListField.TheVariants as list
use Rattle.usda_fields.specs.declared.owner.OwnerDraft.{OwnerDraft}
use Rattle.usda_grammar.specs.Words.{keyword_of}
use Rattle.usda_grammar.specs.declared.kinds.Keyword.{Keyword}
use Rattle.usda_lists.specs.References.{same_text, same_path, same_item}
use Rattle.usda_writer.specs.Fields.{is_comment}
use Rattle.value_texts.specs.Writable.{is_writable}
use Rattle.value_texts.specs.Each.{AreAll}
use Rattle.layer_reads.specs.Keys.{is_plain_key, is_plain_head_key}
use Rattle.layer_texts.specs.Writable.{is_word, none_or}
use Rattle.usda_drafts.specs.Drafts.{text_of, head_with}
use Rattle.value_returns.specs.Fields.{IsText, IsPrimText, IsProperDefaultPrim, IsProperReference, IsProperSublayer, AreProperFields, IsProperHead}
use Rattle.value_returns.specs.Proper.{IsProperKey, IsProperAs, IsProperEntry, IsProperMeta}
use Rattle.value_returns.proofs.Tables.{all_without, found_such, none_left}
use Rattle.value_returns.proofs.Entries.{text_writable}
use Rattle.fields_read.specs.Laws.{ArePlainKeys, SaidIsProper, SublayersAreRead, with_type}
use Rattle.fields_read.specs.Sound.{IsSaid}
use Rattle.fields_read.proofs.Edits.{list_kept}
use Rattle.fields_read.proofs.Items.{amend_keeps}
use Rattle.fields_read.proofs.References.{sublayer_proper, sublayer_keeps}
use Rattle.shared_tables.proofs.Order.{table_without}

-- ---- prims and variants

fields_proper : (type_name : Option (List ℕ)) (d : OwnerDraft) → IsSaid is_plain_key d → none_or is_word type_name ≡ true → AreProperFields (with_type type_name d.spec)
fields_proper type_name d said typed = record {
  type_name = typed;
  keys = said.keys;
  api_schemas = list_kept same_text IsText d.given.api_schemas d.spec.body.api_schemas (said.lists (list.Texts ApiSchemas));
  clip_sets = list_kept same_text IsText d.given.clip_sets d.spec.body.clip_sets (said.lists (list.Texts ClipSets));
  inherits = list_kept same_path IsPath d.given.inherits d.spec.arcs.inherits (said.lists (list.Paths Inherits));
  variant_sets = list_kept same_text IsText d.given.variant_sets d.spec.arcs.variant_sets (said.lists (list.Texts VariantSets));
  selections = said.selections;
  references = list_kept same_item IsProperReference d.given.references d.spec.arcs.references (said.lists (list.References References));
  payloads = list_kept same_item IsProperReference d.given.payloads d.spec.arcs.payloads (said.lists (list.References Payload));
  specializes = list_kept same_path IsPath d.given.specializes d.spec.arcs.specializes (said.lists (list.Paths Specializes));
  child_order = said.child_order;
  property_order = said.property_order;
}

entry_plain : (is_name : Keyword → Bool) (b : Bool) (key : List ℕ) (v : Value) → is_plain_key (keyword_of key) ≡ true → IsProperAs b is_name key v → IsProperAs b is_plain_key key v
entry_plain is_name true key v plain p = p
entry_plain is_name false key v plain p =
    record { word = p.word; name = plain; taken = p.taken; writable = p.writable; read = p.read; deep = p.deep; full = p.full; utf8 = p.utf8 }

entries_plain : (is_name : Keyword → Bool) (meta : MetaEntries) → ArePlainKeys meta → AreAll (IsProperEntry is_name) meta → AreAll (IsProperEntry is_plain_key) meta
entries_plain is_name [] plain each = tt
entries_plain is_name (e ∷ meta) plain each = (entry_plain is_name (is_comment e.0) e.0 e.1 plain.0 each.0, entries_plain is_name meta plain.1 each.1)

plain_proper : (is_name : Keyword → Bool) (type_name : Option (List ℕ)) (d : OwnerDraft) → IsSaid is_name d → ArePlainKeys d.spec.body.meta → none_or is_word type_name ≡ true → AreProperFields (with_type type_name d.spec)
plain_proper is_name type_name d said plain typed =
    let keys : IsProperMeta is_plain_key d.spec.body.meta = record { ordered = said.keys.ordered; each = entries_plain is_name d.spec.body.meta plain said.keys.each } in
    fields_proper type_name d
    (record { base = said.base; lists = said.lists; keys = keys; selections = said.selections; child_order = said.child_order; property_order = said.property_order })
    typed

-- ---- the layer

-- the value of `defaultPrim` is the text of a prim
prim_text : (v : Value) → judged DefaultPrim v ≡ Ok v → is_writable v ≡ true → IsProperDefaultPrim (text_of (Some v))
unfolding text_of
prim_text (value.Text text) h writable = by (is_default_prim text) refl h
  where
    by : (b : Bool) → is_default_prim text ≡ b → (if b then Ok (value.Text text) else Err refusal.ValueShape) ≡ Ok (value.Text text) → IsPrimText text
    by true e g = record { utf8 = text_writable text writable; prim = e }
    by false e g = absurd cc
prim_text v h writable = absurd cc

default_proper : (meta : MetaEntries) (o : Option Value) → at_key text_cmp (codes "defaultPrim") meta ≡ o → AreAll (IsProperEntry is_plain_head_key) meta → IsProperDefaultPrim (text_of o)
unfolding text_of
default_proper meta None e each = tt
default_proper meta (Some v) e each =
    let key : IsProperKey is_plain_head_key (codes "defaultPrim") v = found_such text_cmp exact_bytes (IsProperEntry is_plain_head_key) (codes "defaultPrim") v meta each e in
    prim_text v key.taken key.writable

head_proper : (sublayers : List SubLayer) (d : OwnerDraft) → IsSaid is_plain_head_key d → AreAll IsProperSublayer sublayers → IsProperHead (head_with (codes "defaultPrim") d.spec.body sublayers)
unfolding head_with
head_proper sublayers d said all = record {
  keys = record {
    ordered = table_without text_cmp (codes "defaultPrim") d.spec.body.meta said.keys.ordered;
    each = all_without text_cmp (IsProperEntry is_plain_head_key) (codes "defaultPrim") d.spec.body.meta said.keys.each;
  };
  apart = none_left text_cmp exact_bytes (codes "defaultPrim") d.spec.body.meta said.keys.ordered;
  default_prim = default_proper d.spec.body.meta (at_key text_cmp (codes "defaultPrim") d.spec.body.meta) refl said.keys.each;
  sublayers = all;
  root_order = said.child_order;
}

pub said_proper : SaidIsProper
said_proper = record { fields = fields_proper; plain_fields = plain_proper; head = head_proper }

-- ---- sublayers

pub sublayers_read : SublayersAreRead
sublayers_read = record { asset = sublayer_proper; number = λ k token sublayers next all h. amend_keeps IsProperSublayer _ (sublayer_keeps k token) sublayers next all h }

-- Metadata of the layer, of prims and variants, and of properties; and orders of names.
use Rattle.std.specs.Prelude.{ℕ, true, List, Result, Ok, Err, if◌then◌else◌}
use Rattle.sdf_values.specs.declared.refusal.RefusalKind.{RefusalKind}
use Rattle.sdf_values.specs.declared.refusal.RefusalKind.TheVariants.{DuplicateSpec}
use Rattle.usda_fields.specs.Fields as fields
use Rattle.usda_fields.specs.Fields.{text_field, path_field, reference_field}
use Rattle.usda_fields.specs.Owners as owner
use Rattle.usda_fields.specs.Owners.{order_word}
use Rattle.usda_fields.specs.Variants as variants
use Rattle.usda_fields.specs.declared.field.ListField.{ListField}
use Rattle.usda_fields.specs.declared.field.ListField.TheVariants.{Paths, References, Texts}
use Rattle.usda_fields.specs.declared.owner.OrderWord.{OrderWord}
use Rattle.usda_fields.specs.declared.owner.OrderWord.TheVariants.{NameChildren}
use Rattle.usda_fields.specs.declared.owner.OwnerDraft.{OwnerDraft}
use Rattle.usda_grammar.specs.declared.kinds.WordKind.{WordKind}
use Rattle.usda_grammar.specs.declared.kinds.WordKind.TheVariants as token
use Rattle.usda_grammar.specs.declared.kinds.Keyword.TheVariants as word
use Rattle.usda_lists.specs.Edits.{edit_of}
use Rattle.usda_lists.specs.declared.edit.ListEdit.{ListEdit}
use Rattle.usda_lists.specs.declared.edit.ListEdit.TheVariants.{Explicit}
use Rattle.usda_fields.specs.declared.keys.KeyRule.{KeyRule}
use Rattle.usda_statements.specs.PropertyDrafts.{meta_comment_act, meta_key_act}
use Rattle.usda_statements.specs.declared.property.PropertyDraft.{PropertyDraft}
use Rattle.usda_values.specs.declared.shape.Shape.TheVariants.{Dictionary}
use Rattle.usda_words.specs.Words.{Word}
use Rattle.usda_drafts.specs.Refusals.{Acted, refused, then_with}
use Rattle.usda_drafts.specs.Prims.{specifier_act}
use Rattle.usda_drafts.specs.Values.{aimed, aimed_at_key, with_said, with_property}
use Rattle.usda_drafts.specs.declared.aim.Goal.TheVariants as goal
use Rattle.usda_drafts.specs.declared.draft.OpenList.TheVariants as open_list
use Rattle.usda_drafts.specs.declared.draft.Draft.{Draft}

-- ---- the owner

-- what the owner says behind a token, or the refusal at its byte
abbrev pub said_act : ℕ → Result OwnerDraft RefusalKind → Draft → Acted
said_act at r d = then_with at r (with_said d)

-- a string alone
unfoldable pub comment_act : Word → Draft → Acted
comment_act w d = said_act w.start (owner.comment_act w.text d.owner.said) d

-- a key of metadata, which begins here
unfoldable pub key_act : List ℕ → ℕ → Draft → Acted
key_act key at d = then_with at (owner.key_act key d.owner.said) (λ rule. aimed_at_key goal.OwnerKey key rule d)

-- the word `variants`
unfoldable pub variants_act : Word → Draft → Acted
variants_act w d = then_with w.start (variants.variants_act d.owner.said) (λ said. aimed goal.Variants Dictionary (with_said d said))

-- a list of this field is open, for this edit word
abbrev pub in_field : ListField → ListEdit → Draft → OwnerDraft → Draft
in_field field edit d said = record (with_said d said) { list = open_list.Field field; edit = edit }

-- a field whose list is edited
unfoldable pub field_act : ListField → ListEdit → ℕ → Draft → Acted
field_act field edit at d = then_with at (fields.field_act field edit d.owner.said) (in_field field edit d)

-- `variantSets`, `apiSchemas` or `clipSets`
unfoldable pub string_field_act : ListEdit → Word → Draft → Acted
string_field_act edit w d = field_act (Texts (text_field w.text)) edit w.start d

-- `inherits` or `specializes`
unfoldable pub path_field_act : ListEdit → Word → Draft → Acted
path_field_act edit w d = field_act (Paths (path_field w.text)) edit w.start d

-- `references` or `payload`
unfoldable pub reference_field_act : ListEdit → Word → Draft → Acted
reference_field_act edit w d = field_act (References (reference_field w.text)) edit w.start d

-- an edit word, behind which a field stands, or the value of a key of this name
unfoldable pub edit_act : Word → Draft → Acted
edit_act w d = Ok (record d { edit = edit_of w.text; word = w.text; word_at = w.start })

-- what stands behind an edit word
unfoldable pub edited_act : WordKind → Word → Draft → Acted
edited_act token.Equals w d = key_act d.word d.word_at d
edited_act (token.Word word.StringField) w d = string_field_act d.edit w d
edited_act (token.Word word.PathField) w d = path_field_act d.edit w d
edited_act (token.Word word.ReferenceField) w d = reference_field_act d.edit w d
edited_act k w d = Ok d

-- metadata of a prim or a variant
unfoldable pub prim_item_act : WordKind → Word → Draft → Acted
prim_item_act token.Quoted w d = comment_act w d
prim_item_act (token.Word word.Edit) w d = edit_act w d
prim_item_act (token.Word word.Reorder) w d = edit_act w d
prim_item_act (token.Word word.Variants) w d = variants_act w d
prim_item_act (token.Word word.StringField) w d = string_field_act Explicit w d
prim_item_act (token.Word word.PathField) w d = path_field_act Explicit w d
prim_item_act (token.Word word.ReferenceField) w d = reference_field_act Explicit w d
prim_item_act k w d = key_act w.text w.start d

-- ---- the layer

-- the word `subLayers`
unfoldable pub sublayers_act : ℕ → Draft → Acted
sublayers_act at d = if d.has_sublayers then Err (refused DuplicateSpec at) else Ok (record d { has_sublayers = true; list = open_list.SubLayers })

-- metadata of the layer
unfoldable pub head_item_act : WordKind → Word → Draft → Acted
head_item_act token.Quoted w d = comment_act w d
head_item_act (token.Word word.SubLayers) w d = sublayers_act w.start d
head_item_act k w d = key_act w.text w.start d

-- a root prim, or `reorder`
unfoldable pub root_act : WordKind → Word → Draft → Acted
root_act (token.Word word.Specifier) w d = specifier_act w.text d
root_act k w d = Ok d

-- ---- orders of names

-- the names of an order of this word follow
abbrev pub in_order : OrderWord → Draft → OwnerDraft → Draft
in_order word d said = record (with_said d said) { order = word }

-- an order of names; an owner has one of each word
unfoldable pub ordered_by : OrderWord → ℕ → Draft → Acted
ordered_by word at d = then_with at (owner.order_act word d.owner.said) (in_order word d)

-- `nameChildren` or `properties`
unfoldable pub order_act : Word → Draft → Acted
order_act w d = ordered_by (order_word w.text) w.start d

-- `rootPrims`: the root prims are the children of the layer
unfoldable pub root_order_act : Word → Draft → Acted
root_order_act w d = ordered_by NameChildren w.start d

-- a name, or the end of the names
unfoldable pub order_name_act : WordKind → Word → Draft → Acted
order_name_act token.Quoted w d = said_act w.start (owner.ordered_act d.order w.text d.owner.said) d
order_name_act k w d = Ok d

-- ---- the property in hand

-- what a key of the property's metadata expects
unfoldable pub property_rule : List ℕ → PropertyDraft → Result KeyRule RefusalKind
property_rule key p = meta_key_act key p

-- a key of the metadata of a property
unfoldable pub property_key_act : Word → Draft → Acted
property_key_act w d = then_with w.start (property_rule w.text d.property) (λ rule. aimed_at_key goal.PropertyKey w.text rule d)

-- metadata of a property
unfoldable pub property_item_act : WordKind → Word → Draft → Acted
property_item_act token.Quoted w d = then_with w.start (meta_comment_act w.text d.property) (with_property d)
property_item_act k w d = property_key_act w d

-- Lists of fields, of connections and targets, and of sublayers; offsets of their items.
use Rattle.std.specs.Prelude.{[], ◌∷◌, ◌++◌, Ok}
use Rattle.usda_fields.specs.Fields as fields
use Rattle.usda_fields.specs.declared.field.ListField.TheVariants.{Paths, References, Texts}
use Rattle.usda_grammar.specs.declared.kinds.WordKind.{WordKind}
use Rattle.usda_grammar.specs.declared.kinds.WordKind.TheVariants as token
use Rattle.usda_lists.specs.Lists.{amend_last}
use Rattle.usda_lists.specs.Offsets.{offset_key}
use Rattle.usda_lists.specs.References.{sublayer_of, sublayer_number}
use Rattle.usda_statements.specs.PropertyDrafts.{path_act, with_list_closed}
use Rattle.usda_words.specs.Words.{Word}
use Rattle.usda_drafts.specs.Refusals.{Acted, then_with}
use Rattle.usda_drafts.specs.Values.{with_said, with_property}
use Rattle.usda_drafts.specs.Metadata.{said_act}
use Rattle.usda_drafts.specs.declared.draft.OpenList.{OpenList}
use Rattle.usda_drafts.specs.declared.draft.OpenList.TheVariants as open_list
use Rattle.usda_drafts.specs.declared.draft.Draft.{Draft}

-- a string of a field
unfoldable pub string_act : OpenList → Word → Draft → Acted
string_act (open_list.Field (Texts field)) w d = said_act w.start (fields.text_act field d.edit w.text d.owner.said) d
string_act l w d = Ok d

-- a path of a field, or of the connections or targets of the property in hand
unfoldable pub list_path_act : OpenList → Word → Draft → Acted
list_path_act (open_list.Field (Paths field)) w d = said_act w.start (fields.path_act field d.edit w.text d.owner.said) d
list_path_act open_list.Property w d = then_with w.start (path_act d.owner.said.base w.text d.property) (with_property d)
list_path_act l w d = Ok d

-- an asset of references or payloads
unfoldable pub asset_act : OpenList → Word → Draft → Acted
asset_act (open_list.Field (References field)) w d = Ok (with_said d (fields.asset_act field d.edit w.text d.owner.said))
asset_act l w d = Ok d

-- a path of references or payloads that stands alone
unfoldable pub lone_path_act : OpenList → Word → Draft → Acted
lone_path_act (open_list.Field (References field)) w d = said_act w.start (fields.lone_path_act field d.edit w.text d.owner.said) d
lone_path_act l w d = Ok d

-- the path behind an asset
unfoldable pub item_path_act : OpenList → Word → Draft → Acted
item_path_act (open_list.Field (References field)) w d = said_act w.start (fields.item_path_act field d.edit w.text d.owner.said) d
item_path_act l w d = Ok d

-- the `]` of a list
unfoldable pub end_act : OpenList → Draft → Acted
end_act (open_list.Field field) d = Ok (with_said d (fields.close_field field d.edit d.owner.said))
end_act open_list.Property d = Ok (with_property d (with_list_closed d.property))
end_act l d = Ok d

-- a list: `None` and the other marks add nothing
unfoldable pub in_list_act : WordKind → Word → Draft → Acted
in_list_act token.Quoted w d = string_act d.list w d
in_list_act token.Path w d = list_path_act d.list w d
in_list_act token.CloseBracket w d = end_act d.list d
in_list_act k w d = Ok d

-- the same of references and payloads
unfoldable pub in_references_act : WordKind → Word → Draft → Acted
in_references_act token.Asset w d = asset_act d.list w d
in_references_act token.Path w d = lone_path_act d.list w d
in_references_act token.CloseBracket w d = end_act d.list d
in_references_act k w d = Ok d

-- a sublayer, or the end of them; repeats stay
unfoldable pub sublayer_act : WordKind → Word → Draft → Acted
sublayer_act token.Asset w d = Ok (record d { sublayers = d.sublayers ++ sublayer_of w.text ∷ [] })
sublayer_act k w d = Ok d

-- `offset` or `scale`
unfoldable pub offset_key_act : Word → Draft → Acted
offset_key_act w d = then_with w.start (offset_key w.text) (λ k. record d { offset_key = k })

-- its number, of the last item of the list that is open
unfoldable pub number_act : OpenList → Word → Draft → Acted
number_act (open_list.Field (References field)) w d = said_act w.start (fields.item_number_act field d.edit d.offset_key w.text d.owner.said) d
number_act open_list.SubLayers w d = then_with w.start (amend_last (sublayer_number d.offset_key w.text) d.sublayers) (λ sublayers. record d { sublayers = sublayers })
number_act l w d = Ok d

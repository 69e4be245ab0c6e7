-- Lists that go to the end of a line: what each token adds, and which items are kept.
use Rattle.std.specs.Prelude.{ℕ, pos, Bool, false, if◌then◌else◌, List, [], ◌∷◌, ◌++◌, Option, Some, None}
use Rattle.plain_data.specs.Ends.{last, front}
use Rattle.edit_batches.specs.declared.written.WrittenOffset.{WrittenOffset}
use Rattle.edit_batches.specs.declared.written.WrittenReference.{WrittenReference}
use Rattle.edit_batches.specs.declared.written.WrittenSubLayer.{WrittenSubLayer}
use Rattle.sdf_paths.specs.declared.element.Element.{Element}
use Rattle.sdf_values.specs.Numbers.{zero_number}
use Rattle.sdf_values.specs.declared.decimal.Num.{Num}
use Rattle.sdf_values.specs.declared.decimal.Num.TheVariants.{Finite}
use Rattle.usda_lexer.specs.Meanings.{string_text, asset_text, path_text, number_of}
use Rattle.usda_lexer.specs.Words.{Word, left}
use Rattle.usda_lexer.specs.declared.token.TokenKind.{TokenKind}
use Rattle.usda_lexer.specs.declared.token.TokenKind.TheVariants as kind
use Rattle.usda_lists.specs.Paths.{path_from, target_from}
use Rattle.usda_lists.specs.References.{asset_or_none, path_or_none}
use Rattle.usda_lists.specs.declared.offset.OffsetKey.{OffsetKey}
use Rattle.usda_lists.specs.declared.offset.OffsetKey.TheVariants as key
use Rattle.script_words.specs.Answers.{◌>>=◌, made}
use Rattle.script_words.specs.Places.{place_behind, may_end, is_in_brackets}
use Rattle.script_words.specs.Values.{of_all}
use Rattle.script_words.specs.Words.{lexer_of}
use Rattle.script_words.specs.declared.items.ListItems.{ListItems}
use Rattle.script_words.specs.declared.items.ListItems.TheVariants.{Texts, Paths, Targets, References, SubLayers}
use Rattle.script_words.specs.declared.list.ListDraft.{ListDraft}
use Rattle.script_words.specs.declared.place.ItemForm.{ItemForm}
use Rattle.script_words.specs.declared.place.ItemForm.TheVariants as form
use Rattle.script_words.specs.declared.place.ListPlace.{ListPlace}
use Rattle.script_words.specs.declared.place.ListPlace.TheVariants as place

-- ---- items

-- times as they are
abbrev pub no_offset : WrittenOffset
no_offset = record { offset = Finite zero_number; scale = Finite (record { digits = pos 1; exp = pos 0 }) }

-- an offset with its offset or its scale given
abbrev pub with_part : OffsetKey → Num → WrittenOffset → WrittenOffset
with_part key.Offset x o = record o { offset = x }
with_part key.Scale x o = record o { scale = x }

-- an item that leads to a layer; with the empty asset it leads to its own layer stack
abbrev pub asset_reference : List ℕ → WrittenReference
asset_reference text = record { asset = asset_or_none (asset_text text); path = None; offset = no_offset }

-- an item that leads to a path of its own layer stack, or to the default prim there
abbrev pub path_reference : Option (List Element) → WrittenReference
path_reference path = record { asset = None; path = path; offset = no_offset }

-- a sublayer whose times are as they are
abbrev pub sublayer_of : List ℕ → WrittenSubLayer
sublayer_of text = record { asset = asset_text text; offset = no_offset }

-- the item with the path that stands behind its asset
abbrev pub behind_asset : Option (List Element) → WrittenReference → WrittenReference
behind_asset path item = record item { path = path }

-- an item with its offset or its scale given
abbrev pub item_with_part : OffsetKey → Num → WrittenReference → WrittenReference
item_with_part k x item = record item { offset = with_part k x item.offset }

-- a sublayer with its offset or its scale given
abbrev pub sublayer_with_part : OffsetKey → Num → WrittenSubLayer → WrittenSubLayer
sublayer_with_part k x item = record item { offset = with_part k x item.offset }

-- ---- what a token adds

-- the items with the last one changed
abbrev pub amend_last : {T : Type 0} → (T → T) → List T → Option (List T)
amend_last change items = last items >>= λ item. Some (front items ++ change item ∷ [])

-- each string is one item more; any other token adds none
abbrev pub with_text : TokenKind → List ℕ → List (List ℕ) → Option (List (List ℕ))
with_text kind.String text items = string_text text >>= λ item. Some (items ++ item ∷ [])
with_text k text items = Some items

-- each path is one item more; any other token adds none
abbrev pub with_path : List Element → TokenKind → List ℕ → List (List Element) → Option (List (List Element))
with_path base kind.Path text items = path_from base (path_text text) >>= λ item. Some (items ++ item ∷ [])
with_path base k text items = Some items

-- the selections of a target are dropped
abbrev pub with_target : List Element → TokenKind → List ℕ → List (List Element) → Option (List (List Element))
with_target base kind.Path text items = target_from base (path_text text) >>= λ item. Some (items ++ item ∷ [])
with_target base k text items = Some items

-- a path stands behind the asset of its item, or alone
abbrev pub put_path : ListPlace → Option (List Element) → List WrittenReference → Option (List WrittenReference)
put_path place.Asset path items = amend_last (behind_asset path) items
put_path p path items = Some (items ++ path_reference path ∷ [])

-- a number behind `offset` or `scale` is one of the last item
abbrev pub put_number : ListPlace → Num → List WrittenReference → Option (List WrittenReference)
put_number (place.Number k) x items = amend_last (item_with_part k x) items
put_number p x items = Some items

-- an asset is one item more, a path too unless an asset stands before it, and a number belongs to the last item
abbrev pub with_reference : List Element → ListPlace → TokenKind → List ℕ → List WrittenReference → Option (List WrittenReference)
with_reference base p kind.Asset text items = Some (items ++ asset_reference text ∷ [])
with_reference base p kind.Path text items = made (path_or_none base (path_text text)) >>= λ path. put_path p path items
with_reference base p kind.Number text items = number_of text >>= λ x. put_number p x items
with_reference base p k text items = Some items

-- a number behind `offset` or `scale` is one of the last sublayer
abbrev pub put_sublayer_number : ListPlace → Num → List WrittenSubLayer → Option (List WrittenSubLayer)
put_sublayer_number (place.Number k) x items = amend_last (sublayer_with_part k x) items
put_sublayer_number p x items = Some items

-- an asset is one sublayer more, and a number belongs to the last one
abbrev pub with_sublayer : ListPlace → TokenKind → List ℕ → List WrittenSubLayer → Option (List WrittenSubLayer)
with_sublayer p kind.Asset text items = Some (items ++ sublayer_of text ∷ [])
with_sublayer p kind.Number text items = number_of text >>= λ x. put_sublayer_number p x items
with_sublayer p k text items = Some items

-- the items with what a token at a place adds; a path that does not begin with `/` is taken from this prim
abbrev pub with_token : List Element → ListPlace → TokenKind → List ℕ → ListItems → Option ListItems
with_token base p k text (Texts items) = with_text k text items >>= λ more. Some (Texts more)
with_token base p k text (Paths items) = with_path base k text items >>= λ more. Some (Paths more)
with_token base p k text (Targets items) = with_target base k text items >>= λ more. Some (Targets more)
with_token base p k text (References items) = with_reference base p k text items >>= λ more. Some (References more)
with_token base p k text (SubLayers items) = with_sublayer p k text items >>= λ more. Some (SubLayers more)

-- ---- lists

-- how the items of a list are written; targets are written as paths are
abbrev pub form_of : ListItems → ItemForm
form_of (Texts items) = form.Texts
form_of (Paths items) = form.Paths
form_of (Targets items) = form.Paths
form_of (References items) = form.References
form_of (SubLayers items) = form.SubLayers

-- a list that is being read: the place in it, whether it stands in brackets, and its items so far
abbrev pub list_draft : ListPlace → Bool → ListItems → ListDraft
list_draft p bracketed items = record { place = p; bracketed = bracketed; items = items }

-- the draft behind a token
unfoldable pub draft_behind : List Element → TokenKind → List ℕ → ListDraft → Option ListDraft
draft_behind base k text d =
    place_behind (form_of d.items) d.bracketed d.place k text >>= λ next.
    with_token base d.place k text d.items >>= λ items.
    Some (list_draft next (is_in_brackets d.bracketed next) items)

-- the items of a list that may end where it stands
abbrev pub whole_list : ListDraft → Option ListItems
whole_list d = if may_end d.bracketed d.place then Some d.items else None

-- the items of the list that these tokens complete
abbrev pub list_from : List Element → ListDraft → List Word → Option ListItems
list_from base d [] = whole_list d
list_from base d (w ∷ ws) = draft_behind base w.kind w.text d >>= λ next. list_from base next ws

-- the items of the list of all tokens of these bytes
unfoldable pub list_in : List Element → ListPlace → ListItems → List ℕ → Option ListItems
list_in base p items bytes = lexer_of bytes >>= λ t. of_all (list_from base (list_draft p false items)) (left t)

-- the items of a list of texts
abbrev pub texts_of : ListItems → Option (List (List ℕ))
texts_of (Texts items) = Some items
texts_of items = None

-- the items of a list of paths
abbrev pub paths_of : ListItems → Option (List (List Element))
paths_of (Paths items) = Some items
paths_of items = None

-- the items of a list of targets
abbrev pub targets_of : ListItems → Option (List (List Element))
targets_of (Targets items) = Some items
targets_of items = None

-- the items of a list of references
abbrev pub references_of : ListItems → Option (List WrittenReference)
references_of (References items) = Some items
references_of items = None

-- the items of a list of sublayers
abbrev pub sublayers_of : ListItems → Option (List WrittenSubLayer)
sublayers_of (SubLayers items) = Some items
sublayers_of items = None

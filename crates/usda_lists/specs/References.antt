-- Items of references and payloads, and sublayers: an asset, a path or both, and how times are mapped.
use Rattle.std.specs.Prelude.{ℕ, Bool, ◌&&◌, ◌==◌, List, [], ◌∷◌, Option, Some, None, Result, Ok, Err}
use Rattle.std.specs.Option.{option_eq}
use Rattle.std.specs.Ordering.{int_eq}
use Rattle.std.specs.Cmp.Lexicographic.{pointwise}
use Rattle.sdf_paths.specs.Paths.{same_element}
use Rattle.sdf_paths.specs.declared.element.Element.{Element}
use Rattle.sdf_values.specs.Scales.{Offset, identity}
use Rattle.sdf_values.specs.declared.refusal.RefusalKind.{RefusalKind}
use Rattle.sdf_values.specs.declared.refusal.RefusalKind.TheVariants.{Syntax}
use Rattle.spec_parts.specs.declared.items.RefItem.{RefItem}
use Rattle.spec_parts.specs.declared.items.SubLayer.{SubLayer}
use Rattle.usda_lexer.specs.Meanings.{asset_text, path_text}
use Rattle.usda_lists.specs.Acts.{and_then}
use Rattle.usda_lists.specs.Offsets.{offset_act}
use Rattle.usda_lists.specs.Paths.{path_from}
use Rattle.usda_lists.specs.declared.offset.OffsetKey.{OffsetKey}

-- the empty asset is none
abbrev pub asset_or_none : List ℕ → Option (List ℕ)
asset_or_none [] = None
asset_or_none (c ∷ cs) = Some (c ∷ cs)

-- the item of an asset token
abbrev pub asset_item : List ℕ → RefItem
asset_item text = record { asset = asset_or_none (asset_text text); path = None; offset = identity }

-- a text that is no path is refused
abbrev pub some_path : Option (List Element) → Result (Option (List Element)) RefusalKind
some_path None = Err Syntax
some_path (Some path) = Ok (Some path)

-- the path of an item; `<>` is none
abbrev pub path_or_none : List Element → List ℕ → Result (Option (List Element)) RefusalKind
path_or_none base [] = Ok None
path_or_none base (c ∷ cs) = some_path (path_from base (c ∷ cs))

-- the item of a path token that stands alone
abbrev pub path_item : List Element → List ℕ → Result RefItem RefusalKind
path_item base text = and_then (path_or_none base (path_text text)) (λ path. Ok (record { asset = None; path = path; offset = identity }))

-- the path token behind an asset
abbrev pub with_path : List Element → List ℕ → RefItem → Result RefItem RefusalKind
with_path base text item = and_then (path_or_none base (path_text text)) (λ path. Ok (record item { path = path }))

-- the number of an offset or a scale of an item
abbrev pub with_number_of : OffsetKey → List ℕ → RefItem → Result RefItem RefusalKind
with_number_of key text item = and_then (offset_act key text item.offset) (λ offset. Ok (record item { offset = offset }))

-- a sublayer, as written
abbrev pub sublayer_of : List ℕ → SubLayer
sublayer_of text = record { asset = asset_text text; offset = identity }

-- the number of an offset or a scale of a sublayer
abbrev pub sublayer_number : OffsetKey → List ℕ → SubLayer → Result SubLayer RefusalKind
sublayer_number key text sublayer = and_then (offset_act key text sublayer.offset) (λ offset. Ok (record sublayer { offset = offset }))

-- two texts have the same bytes
abbrev pub same_text : List ℕ → List ℕ → Bool
same_text a b = pointwise ◌==◌ a b

-- two paths have the same elements
abbrev pub same_path : List Element → List Element → Bool
same_path a b = pointwise same_element a b

-- the offsets are one: the same shift of times and the same scale
abbrev pub same_offset : Offset → Offset → Bool
same_offset a b = int_eq a.offset b.offset && int_eq a.scale b.scale

-- two items are one
abbrev pub same_item : RefItem → RefItem → Bool
same_item a b = option_eq same_text a.asset b.asset && (option_eq same_path a.path b.path && same_offset a.offset b.offset)

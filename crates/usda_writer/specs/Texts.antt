-- The texts of which a layer's text is put together: lists and their items, keywords, blocks of metadata.
use Rattle.std.specs.Prelude.{ℕ, Bool, true, false, List, [], ◌∷◌, ◌++◌, codes, Option, Some, None}
pub use Rattle.sdf_paths.specs.Paths.{path_text}
use Rattle.sdf_paths.specs.declared.element.Element.{Element}
use Rattle.sdf_values.specs.Print.{asset_text, blanks}
pub use Rattle.sdf_values.specs.Print.{offset_text, unless_identity}
pub use Rattle.sdf_values.specs.Scales.{is_identity, is_one, is_zero}
use Rattle.spec_parts.specs.declared.items.RefItem.{RefItem}
use Rattle.spec_parts.specs.declared.items.Specifier.{Specifier}
use Rattle.spec_parts.specs.declared.items.Specifier.TheVariants.{Def, Over, Class}
use Rattle.spec_parts.specs.declared.items.SubLayer.{SubLayer}

-- a text in print, as bytes
abbrev pub Text : Type 0
Text = List ℕ

-- a name between quotes, which has nothing to escape
abbrev pub quoted_name : Text → Text
quoted_name name = codes "\"" ++ name ++ codes "\""

-- the items that follow another, each behind a comma and a blank
abbrev pub more_items : {T : Type 0} → (T → Text) → List T → Text
more_items f [] = []
more_items f (x ∷ xs) = codes ", " ++ f x ++ more_items f xs

-- the items of a list, with a comma and a blank between them
abbrev pub listed : {T : Type 0} → (T → Text) → List T → Text
listed f [] = []
listed f (x ∷ xs) = f x ++ more_items f xs

-- what stands from an item on, the first one or a later one
abbrev pub listed_from : {T : Type 0} → Bool → (T → Text) → List T → Text
listed_from true = listed
listed_from false = more_items

-- a list, which has its brackets also with one item
abbrev pub bracketed : {T : Type 0} → (T → Text) → List T → Text
bracketed f xs = codes "[" ++ listed f xs ++ codes "]"

-- an explicit list: the empty one is `None`
abbrev pub explicit_list : {T : Type 0} → (T → Text) → List T → Text
explicit_list f [] = codes "None"
explicit_list f (x ∷ xs) = bracketed f (x ∷ xs)

-- what an item of references names: its asset and its path, as far as it has them, or `<>`
abbrev pub target_text : Option Text → Option (List Element) → Text
target_text None None = codes "<>"
target_text None (Some p) = path_text p
target_text (Some a) None = asset_text a
target_text (Some a) (Some p) = asset_text a ++ path_text p

-- an item of references or payloads: what it names, and its offset
abbrev pub reference_text : RefItem → Text
reference_text r = target_text r.asset r.path ++ offset_text r.offset

-- a sublayer: its asset and its offset
abbrev pub sublayer_text : SubLayer → Text
sublayer_text s = asset_text s.asset ++ offset_text s.offset

-- the word of a specifier
abbrev pub specifier_text : Specifier → Text
specifier_text Def = codes "def"
specifier_text Over = codes "over"
specifier_text Class = codes "class"

-- lines of metadata between brackets, where there are any, behind what stands at this level
abbrev pub metadata_block : ℕ → Text → Text
metadata_block level [] = []
metadata_block level (c ∷ cs) = codes " (\n" ++ (c ∷ cs) ++ blanks level ++ codes ")"

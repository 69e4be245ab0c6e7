-- The words of lists and of their items.
use Rattle.std.specs.Prelude.{ℕ, Bool, true, false, List, [], ◌∷◌, ◌++◌, codes, Option, Some, None}
use Rattle.std.specs.Fmt.{signed_decimal}
use Rattle.sdf_paths.specs.declared.element.Element.{Element}
use Rattle.sdf_values.specs.Print.{asset_text, quoted}
use Rattle.sdf_values.specs.Scales.{Offset}
use Rattle.spec_parts.specs.declared.items.RefItem.{RefItem}
use Rattle.spec_parts.specs.declared.items.SubLayer.{SubLayer}
use Rattle.usda_writer.specs.Texts.{is_identity, path_text}
use Rattle.value_texts.specs.Cuts.{Said}
use Rattle.value_texts.specs.ValueWords.{name_said, number_said, string_said, asset_said, path_said, open_paren, close_paren, open_bracket, close_bracket, comma, semicolon, equals}

-- a word alone
abbrev pub word : List ℕ → List Said
word t = name_said t ∷ []

-- a text between quotes
abbrev pub string_words : List ℕ → List Said
string_words t = string_said (quoted t) ∷ []

-- a path between `<` and `>`
abbrev pub path_words : List Element → List Said
path_words path = path_said (path_text path) ∷ []

-- the items that follow another, each behind a comma
abbrev pub more_words : {T : Type 0} → (T → List Said) → List T → List Said
more_words g [] = []
more_words g (x ∷ xs) = comma ∷ g x ++ more_words g xs

-- the items of a list, with commas between them
abbrev pub listed_words : {T : Type 0} → (T → List Said) → List T → List Said
listed_words g [] = []
listed_words g (x ∷ xs) = g x ++ more_words g xs

-- a list between its brackets
abbrev pub bracketed_words : {T : Type 0} → (T → List Said) → List T → List Said
bracketed_words g xs = open_bracket ∷ listed_words g xs ++ close_bracket ∷ []

-- an explicit list: the empty one is `None`
abbrev pub explicit_words : {T : Type 0} → (T → List Said) → List T → List Said
explicit_words g [] = word (codes "None")
explicit_words g (x ∷ xs) = bracketed_words g (x ∷ xs)

-- both the offset and the scale between brackets, unless together they change no time
abbrev pub words_unless_identity : Bool → Offset → List Said
words_unless_identity true o = []
words_unless_identity false o =
    open_paren ∷ name_said (codes "offset") ∷ equals ∷ number_said (signed_decimal o.offset) ∷ semicolon ∷ name_said (codes "scale") ∷ equals ∷ number_said (signed_decimal o.scale) ∷ close_paren ∷ []

-- an offset behind an item; the one that changes no time is not said
abbrev pub offset_words : Offset → List Said
offset_words o = words_unless_identity (is_identity o) o

-- what an item of references names: its asset and its path, as far as it has them, or `<>`
abbrev pub target_words : Option (List ℕ) → Option (List Element) → List Said
target_words None None = path_said (codes "<>") ∷ []
target_words None (Some p) = path_words p
target_words (Some a) None = asset_said (asset_text a) ∷ []
target_words (Some a) (Some p) = asset_said (asset_text a) ∷ path_said (path_text p) ∷ []

-- an item of references or payloads: what it names, and its offset
abbrev pub reference_words : RefItem → List Said
reference_words r = target_words r.asset r.path ++ offset_words r.offset

-- a sublayer: its asset and its offset
abbrev pub sublayer_words : SubLayer → List Said
sublayer_words s = asset_said (asset_text s.asset) ∷ offset_words s.offset

-- Names in quotes, and the paths of prims and variants below their owners.
use Rattle.std.specs.Prelude.{ℕ, nat_lt, ◌&&◌, ◌||◌, not, Bool, if◌then◌else◌, List, [], ◌∷◌, ◌++◌, length, Option, Some, None, Result, Ok, Err}
use Rattle.sdf_paths.specs.Paths.{depth, is_empty, is_property, printed}
use Rattle.sdf_paths.specs.declared.element.Element.{Element}
use Rattle.sdf_paths.specs.declared.element.Element.TheVariants.{Prim, Selection}
use Rattle.sdf_values.specs.declared.refusal.RefusalKind.{RefusalKind}
use Rattle.sdf_values.specs.declared.refusal.RefusalKind.TheVariants.{Syntax, NotUtf8, TooLong}
use Rattle.usd_names.specs.Names.{is_identifier, is_variant}
use Rattle.usda_lexer.specs.Meanings.{string_text}

-- a text, where its escapes give UTF-8
abbrev pub if_utf8 : Option (List ℕ) → Result (List ℕ) RefusalKind
if_utf8 None = Err NotUtf8
if_utf8 (Some text) = Ok text

-- a string token that may be any text
abbrev pub text_of : List ℕ → Result (List ℕ) RefusalKind
text_of token = if_utf8 (string_text token)

-- a name, where the text has its form; any other text is refused as `Syntax`, also one that is not UTF-8
abbrev pub if_named : (List ℕ → Bool) → Option (List ℕ) → Result (List ℕ) RefusalKind
if_named is_named None = Err Syntax
if_named is_named (Some name) = if is_named name then Ok name else Err Syntax

-- a string token that has to be the name of a prim or of a variant set
abbrev pub identifier_of : List ℕ → Result (List ℕ) RefusalKind
identifier_of token = if_named is_identifier (string_text token)

-- a string token that has to be the name of a variant
abbrev pub variant_of : List ℕ → Result (List ℕ) RefusalKind
variant_of token = if_named is_variant (string_text token)

-- the path has more than 4,096 bytes in print
abbrev pub is_long : List Element → Bool
is_long path = nat_lt 4096 (length (printed path))

-- the path with a prim more; none where that would be a 65th prim inside each other
abbrev pub prim_path : List Element → List ℕ → Result (Option (List Element)) RefusalKind
prim_path owner name =
    if is_long (owner ++ Prim name ∷ []) then Err TooLong
    else if nat_lt (depth owner) 64 then Ok (Some (owner ++ Prim name ∷ []))
    else Ok None

-- the path of a prim below its owner, which is no property
abbrev pub prim_below : List Element → List ℕ → Result (Option (List Element)) RefusalKind
prim_below owner name = if is_property owner || not (is_identifier name) then Err Syntax else prim_path owner name

-- the path with a selection more
abbrev pub variant_path : List Element → List ℕ → List ℕ → Result (List Element) RefusalKind
variant_path owner set variant = if is_long (owner ++ Selection set variant ∷ []) then Err TooLong else Ok (owner ++ Selection set variant ∷ [])

-- a path that variants may be chosen for: it is no property, and not `/`
abbrev pub has_variants : List Element → Bool
has_variants owner = not (is_empty owner) && not (is_property owner)

-- the path of a variant of an owner
abbrev pub variant_below : List Element → List ℕ → List ℕ → Result (List Element) RefusalKind
variant_below owner set variant = if has_variants owner && (is_identifier set && is_variant variant) then variant_path owner set variant else Err Syntax

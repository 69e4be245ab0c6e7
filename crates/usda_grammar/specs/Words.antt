-- Which names are words of the grammar.
use Rattle.std.specs.Prelude.{ℕ, Bool, ◌||◌, ◌==◌, if◌then◌else◌, List, codes, Option, Some, None}
use Rattle.std.specs.Cmp.Lexicographic.{pointwise}
use Rattle.usda_grammar.specs.declared.kinds.Keyword.{Keyword}
use Rattle.usda_grammar.specs.declared.kinds.Keyword.TheVariants as word
use Rattle.usda_grammar.specs.declared.kinds.WordKind.{WordKind}
use Rattle.usda_grammar.specs.declared.kinds.WordKind.TheVariants as token

-- the name is this word, byte by byte
abbrev pub is : List ℕ → List ℕ → Bool
is text w = pointwise ◌==◌ text w

-- the specifiers, the edit words, and the words of variants
abbrev pub prim_word : List ℕ → Option Keyword
prim_word t =
    if is t (codes "def") || is t (codes "over") || is t (codes "class") then Some word.Specifier
    else if is t (codes "delete") || is t (codes "add") || is t (codes "prepend") || is t (codes "append") then Some word.Edit
    else if is t (codes "reorder") then Some word.Reorder
    else if is t (codes "variants") then Some word.Variants
    else if is t (codes "variantSet") then Some word.VariantSet
    else None

-- the flags, `rel`, and the words that stand behind the `.` of an attribute
abbrev pub property_word : List ℕ → Option Keyword
property_word t =
    if is t (codes "custom") then Some word.Custom
    else if is t (codes "uniform") || is t (codes "varying") then Some word.Variability
    else if is t (codes "rel") then Some word.Rel
    else if is t (codes "timeSamples") then Some word.TimeSamples
    else if is t (codes "connect") then Some word.Connect
    else if is t (codes "spline") then Some word.Spline
    else None

-- the fields whose lists are edited, by what their items are, and the orders of names of a prim
abbrev pub field_word : List ℕ → Option Keyword
field_word t =
    if is t (codes "variantSets") || is t (codes "apiSchemas") || is t (codes "clipSets") then Some word.StringField
    else if is t (codes "inherits") || is t (codes "specializes") then Some word.PathField
    else if is t (codes "references") || is t (codes "payload") then Some word.ReferenceField
    else if is t (codes "nameChildren") || is t (codes "properties") then Some word.OrderedField
    else None

-- the words of a layer, and `None` and `dictionary`
abbrev pub layer_word : List ℕ → Option Keyword
layer_word t =
    if is t (codes "subLayers") then Some word.SubLayers
    else if is t (codes "rootPrims") then Some word.RootPrims
    else if is t (codes "None") then Some word.NoneWord
    else if is t (codes "dictionary") then Some word.Dictionary
    else None

-- the word found first, and else the other
abbrev pub or_else : Option Keyword → Keyword → Keyword
or_else (Some w) rest = w
or_else None rest = rest

-- the word that a name is: no name is two of them
abbrev pub keyword_of : List ℕ → Keyword
keyword_of t = or_else (prim_word t) (or_else (property_word t) (or_else (field_word t) (or_else (layer_word t) word.Other)))

-- a name as a token of the grammar
abbrev pub kind_of_word : List ℕ → WordKind
kind_of_word t = token.Word (keyword_of t)

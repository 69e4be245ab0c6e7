-- A reader of paths as a machine over characters: what each character adds to what has been read.
use Rattle.std.specs.Prelude.{◌≡◌, ℕ, ◌+◌, nat_lt, nat_le, Bool, true, false, ◌==◌, List, [], ◌∷◌, ◌++◌, Option, Some, None, if◌then◌else◌, encode_utf8, length, ◌≤◌, ◌<◌, ◌⊎◌}
use Rattle.std.specs.Str.{chars, encode_utf8_all}
use Rattle.usd_names.specs.Names.{is_start, is_variant_character, goes_on, is_number_word}
use Rattle.sdf_paths.specs.declared.element.Element.{Element}
use Rattle.sdf_paths.specs.declared.element.Element.TheVariants.{Prim, Property, Selection}
use Rattle.sdf_paths.specs.declared.fault.PathFault.{PathFault}
use Rattle.sdf_paths.specs.declared.fault.PathFault.TheVariants.{Bad, NoMemory}
use Rattle.sdf_paths.specs.declared.reader.Open.{Open}
use Rattle.sdf_paths.specs.declared.reader.Open.TheVariants.{Nothing, Name, Set, AfterSet, Variant, Selected, PropertyName}
use Rattle.sdf_paths.specs.declared.reader.Reader.{Reader}

-- what has been read: the elements, how many names of prims they are with the open one, and the part that is open
abbrev pub reader : List Element → ℕ → Open → Reader
reader elements names open_part = record { elements = elements; names = names; open_part = open_part }

-- what may stand after a name or a selection; `names` counts the names of prims, the open one too
abbrev pub begins : List Element → ℕ → ℕ → Option Reader
begins elements names c =
    if c == 47 then (if nat_lt names 64 then Some (reader elements (names + 1) (Name [] false)) else None)
    else if c == 123 then Some (reader elements names (Set [] false))
    else if c == 46 then Some (reader elements names (PropertyName [] false))
    else None

-- the name of a prim goes on, or it is complete and what may follow it begins
abbrev pub step_name : List Element → ℕ → List ℕ → Bool → ℕ → Option Reader
step_name elements names name begun c =
    if goes_on begun c then Some (reader elements names (Name (name ++ encode_utf8 c) true))
    else if begun then begins (elements ++ Prim name ∷ []) names c
    else None

-- the name of a variant set goes on, or a `=` ends it
abbrev pub step_set : List Element → ℕ → List ℕ → Bool → ℕ → Option Reader
step_set elements names set begun c =
    if goes_on begun c then Some (reader elements names (Set (set ++ encode_utf8 c) true))
    else if c == 61 then (if begun then Some (reader elements names (AfterSet set)) else None)
    else None

-- the name of a variant begins with one of its characters, or with one `.` before them
abbrev pub step_after_set : List Element → ℕ → List ℕ → ℕ → Option Reader
step_after_set elements names set c =
    if is_variant_character c then Some (reader elements names (Variant set (encode_utf8 c) true))
    else if c == 46 then Some (reader elements names (Variant set (encode_utf8 c) false))
    else None

-- the name of a variant goes on, or a `}` ends the selection
abbrev pub step_variant : List Element → ℕ → List ℕ → List ℕ → Bool → ℕ → Option Reader
step_variant elements names set variant begun c =
    if is_variant_character c then Some (reader elements names (Variant set (variant ++ encode_utf8 c) true))
    else if c == 125 then (if begun then Some (reader (elements ++ Selection set variant ∷ []) names Selected) else None)
    else None

-- behind a selection the name of a prim begins without a `/`, or what may stand behind any name begins
abbrev pub step_selected : List Element → ℕ → ℕ → Option Reader
step_selected elements names c =
    if is_start c then (if nat_lt names 64 then Some (reader elements (names + 1) (Name (encode_utf8 c) true)) else None)
    else begins elements names c

-- the name of a property goes on, or a `:` joins another identifier to it
abbrev pub step_property : List Element → ℕ → List ℕ → Bool → ℕ → Option Reader
step_property elements names name begun c =
    if goes_on begun c then Some (reader elements names (PropertyName (name ++ encode_utf8 c) true))
    else if c == 58 then (if begun then Some (reader elements names (PropertyName (name ++ encode_utf8 c) false)) else None)
    else None

-- a path begins with `/`
abbrev pub step_nothing : List Element → ℕ → Option Reader
step_nothing elements c = if c == 47 then Some (reader elements 1 (Name [] false)) else None

-- what one more character makes of the part that is open
abbrev pub step_open : List Element → ℕ → Open → ℕ → Option Reader
step_open elements names Nothing c = step_nothing elements c
step_open elements names (Name name begun) c = step_name elements names name begun c
step_open elements names (Set set begun) c = step_set elements names set begun c
step_open elements names (AfterSet set) c = step_after_set elements names set c
step_open elements names (Variant set variant begun) c = step_variant elements names set variant begun c
step_open elements names Selected c = step_selected elements names c
step_open elements names (PropertyName name begun) c = step_property elements names name begun c

-- what has been read after one more character; `None` where no path goes on with it
unfoldable pub step : Reader → ℕ → Option Reader
step r c = step_open r.elements r.names r.open_part c

-- a path ends behind the name of a prim; directly behind a `/` only the path `/` itself does
abbrev pub finish_name : List Element → List ℕ → Bool → Option (List Element)
finish_name elements name true = Some (elements ++ Prim name ∷ [])
finish_name [] name false = Some []
finish_name (e ∷ rest) name false = None

-- `inf` and `nan` are numbers and name no property, though a name may go on from them
abbrev pub finish_property : List Element → List ℕ → Bool → Option (List Element)
finish_property elements name true = if is_number_word name then None else Some (elements ++ Property name ∷ [])
finish_property elements name false = None

-- a path ends behind `/`, a prim's name, a selection or a property's name, and in the midst of no selection
abbrev pub finish_open : List Element → Open → Option (List Element)
finish_open elements Nothing = None
finish_open elements (Name name begun) = finish_name elements name begun
finish_open elements (Set set begun) = None
finish_open elements (AfterSet set) = None
finish_open elements (Variant set variant begun) = None
finish_open elements Selected = Some elements
finish_open elements (PropertyName name begun) = finish_property elements name begun

-- the path that has been read, where the text may end here
unfoldable pub finish : Reader → Option (List Element)
finish r = finish_open r.elements r.open_part

-- nothing has been read
abbrev pub start : Reader
start = reader [] 0 Nothing

-- what has been read after these characters
abbrev pub after_all : List ℕ → Option Reader → Option Reader
after_all [] r = r
after_all (c ∷ cs) None = None
after_all (c ∷ cs) (Some r) = after_all cs (step r c)

-- what has been read after the first characters of a text
abbrev pub after : List ℕ → Option Reader
after cs = after_all cs (Some start)

-- the path that has been read, where the text may end there
abbrev pub finished : Option Reader → Option (List Element)
finished None = None
finished (Some r) = finish r

-- the path of a text from the root down, if it is one and passes no limit
unfoldable pub path_of : List ℕ → Option (List Element)
path_of text = if nat_le (length text) 4096 then finished (after (chars text)) else None

-- the whole text is read, and gives the path
pub record RunsTo (text : List ℕ) (path : List Element) : Type 0 where
  pub last : Reader
  pub ran : after (chars text) ≡ Some last
  pub done : finish last ≡ Some path
  pub short : length text ≤ 4096

-- nothing is read with the next character, or at the end
abbrev pub Fails : Reader → List ℕ → Type 0
Fails r [] = finish r ≡ None
Fails r (c ∷ cs) = step r c ≡ None

-- the text stops being a path after the characters `front`, or is too long
pub record RunsOut (text : List ℕ) (at : ℕ) : Type 0 where
  pub front : List ℕ
  pub back : List ℕ
  pub whole : text ≡ encode_utf8_all (front ++ back)
  pub last : Reader
  pub ran : after front ≡ Some last
  pub why : ((at ≡ length (encode_utf8_all front)) × ((at ≤ 4096) × Fails last back))
      ⊎ ((at ≡ 4096) × ((4096 ≤ length (encode_utf8_all front)) × (4096 < length text)))

-- a refusal stands where the text stops being a path, or is too long; of want of memory nothing is said
abbrev pub StopsAsTold : List ℕ → PathFault → Type 0
StopsAsTold text (Bad at) = RunsOut text at
StopsAsTold text NoMemory = Unit {0}

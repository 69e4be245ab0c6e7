-- Paths as lists of elements from the root down: their shape, their one printed text, and the texts that are read as them.
use Rattle.std.specs.Prelude.{◌≡◌, ℕ, ◌≤◌, Bool, true, false, not, cond, ◌&&◌, List, [], ◌∷◌, ◌++◌, codes, length, filter, count_by, Option, Some, None, take, ◌-◌, slice_get, is_some, IsTrue}
use Rattle.std.specs.Option.{option_map}
use Rattle.std.specs.Str.{bytes_eq}
use Rattle.std.specs.List.{list_all, list_any}
use Rattle.usd_names.specs.Names.{is_identifier, is_variant, is_property_name}
use Rattle.sdf_paths.specs.declared.element.Element.{Element}
use Rattle.sdf_paths.specs.declared.element.Element.TheVariants.{Prim, Property, Selection}
use Rattle.sdf_paths.specs.declared.fault.PathFault.{PathFault}
use Rattle.sdf_paths.specs.declared.fault.PathFault.TheVariants.{Bad, NoMemory}

-- the element selects a variant of a set
abbrev pub is_selection : Element → Bool
is_selection (Prim name) = false
is_selection (Property name) = false
is_selection (Selection set variant) = true

-- the name of the element follows the rules
abbrev pub is_well_named : Element → Bool
is_well_named (Prim name) = is_identifier name
is_well_named (Property name) = is_property_name name
is_well_named (Selection set variant) = is_identifier set && is_variant variant

-- there is no element; the path without elements is `/`
abbrev pub is_empty : List Element → Bool
is_empty [] = true
is_empty (e ∷ rest) = false

-- elements that may follow each other: the first is a prim's name, and nothing follows a property.
-- `named` says that a name stands before them.
abbrev pub is_ordered : Bool → List Element → Bool
is_ordered named [] = true
is_ordered named (Prim name ∷ rest) = is_ordered true rest
is_ordered named (Selection set variant ∷ rest) = named && is_ordered true rest
is_ordered named (Property name ∷ rest) = named && is_empty rest

-- the element is the name of a prim
abbrev pub is_prim_name : Element → Bool
is_prim_name (Prim name) = true
is_prim_name (Property name) = false
is_prim_name (Selection set variant) = false

-- how many names of prims there are
abbrev pub depth : List Element → ℕ
depth path = count_by is_prim_name path

-- a path of any length in bytes
pub record IsWellFormed (path : List Element) : Type 0 where
  pub ordered : is_ordered false path ≡ true
  pub named : list_all is_well_named path ≡ true
  pub few : depth path ≤ 64

-- an element as it is printed; directly after a selection a name has no `/`
abbrev pub written : Bool → Element → List ℕ
written after (Prim name) = cond after name (47 ∷ name)
written after (Property name) = 46 ∷ name
written after (Selection set variant) = 123 ∷ set ++ (61 ∷ variant) ++ (125 ∷ [])

-- the elements in print, where `after` says that a selection stands directly before
abbrev pub written_all : Bool → List Element → List ℕ
written_all after [] = []
written_all after (e ∷ rest) = written after e ++ written_all (is_selection e) rest

-- the printed text of a path
abbrev pub printed : List Element → List ℕ
printed [] = 47 ∷ []
printed (e ∷ rest) = written_all false (e ∷ rest)

-- a path between `<` and `>`
abbrev pub path_text : List Element → List ℕ
path_text path = codes "<" ++ printed path ++ codes ">"

-- a path: well formed, and of at most 4,096 bytes in print
pub record IsPath (path : List Element) : Type 0 where
  pub well_formed : IsWellFormed path
  pub short : length (printed path) ≤ 4096

-- `text` spells the elements as print does, but for a `/` that may also stand between a selection and a name
abbrev pub Spells : Bool → List Element → List ℕ → Type 0
Spells after [] text = text ≡ []
Spells after (e ∷ rest) text =
    (bare : Bool) × ((more : List ℕ) × ((text ≡ written (after && bare) e ++ more) × Spells (is_selection e) rest more))

-- the text spells the path; that of the path without elements is `/`
abbrev pub IsTextOf : List Element → List ℕ → Type 0
IsTextOf [] text = text ≡ 47 ∷ []
IsTextOf (e ∷ rest) text = Spells false (e ∷ rest) text

-- the text is read as the path
pub record IsReadAs (text : List ℕ) (path : List Element) : Type 0 where
  pub well_formed : IsWellFormed path
  pub spelled : IsTextOf path text
  pub short : length text ≤ 4096

-- the element is the name of a property
abbrev pub is_property_part : Element → Bool
is_property_part (Prim name) = false
is_property_part (Property name) = true
is_property_part (Selection set variant) = false

-- the path is that of a property: nothing stands after a property's name
abbrev pub is_property : List Element → Bool
is_property path = list_any is_property_part path

-- the last element is a selection, where `after` says what stands before these elements
abbrev pub ends_selected : Bool → List Element → Bool
ends_selected after [] = after
ends_selected after (e ∷ rest) = ends_selected (is_selection e) rest

-- the path above; `/` has none
abbrev pub parent : List Element → Option (List Element)
parent [] = None
parent (e ∷ rest) = Some (take (length rest) (e ∷ rest))

-- the name of an element; of a selection that of the variant
abbrev pub name_of : Element → List ℕ
name_of (Prim name) = name
name_of (Property name) = name
name_of (Selection set variant) = variant

-- the name of the last element
abbrev pub last_name : List Element → Option (List ℕ)
last_name path = option_map name_of (slice_get path (length path - 1))

-- without variant selections
abbrev pub plain : List Element → List Element
plain path = filter (λ e. not (is_selection e)) path

-- the path selects no variant
abbrev pub is_plain : List Element → Bool
is_plain path = list_all (λ e. not (is_selection e)) path

-- the prim of a path: without the property
abbrev pub owner : List Element → List Element
owner path = filter (λ e. not (is_property_part e)) path

-- elements are one where both are of one kind and their names have the same bytes
abbrev pub same_element : Element → Element → Bool
same_element (Prim a) (Prim b) = bytes_eq a b
same_element (Property a) (Property b) = bytes_eq a b
same_element (Selection s v) (Selection t w) = bytes_eq s t && bytes_eq v w
same_element _ _ = false

-- what follows `front` in the path, where the path begins with it
abbrev pub rest_after : List Element → List Element → Option (List Element)
rest_after [] path = Some path
rest_after (e ∷ front) [] = None
rest_after (e ∷ front) (x ∷ path) = elim (same_element e x) [ true ↦ rest_after front path | false ↦ None ]

-- the path begins with `front`
abbrev pub has_prefix : List Element → List Element → Bool
has_prefix front path = is_some (rest_after front path)

-- the same as a fact: the path is `front` and what follows it, if anything
abbrev pub HasPrefix : List Element → List Element → Type 0
HasPrefix front path = (rest : List Element) × (path ≡ front ++ rest)

-- the path with `by` in place of `front`, where it begins with that
abbrev pub replaced : List Element → List Element → List Element → Option (List Element)
replaced front by path = option_map (λ rest. by ++ rest) (rest_after front path)

-- these elements may stand after the path `by`: nothing follows a property, and only a prim's name follows `/`
abbrev pub MayFollow : List Element → List Element → Type 0
MayFollow by [] = Unit {0}
MayFollow [] (e ∷ rest) = IsTrue (is_prim_name e)
MayFollow (x ∷ by) (e ∷ rest) = is_property (x ∷ by) ≡ false

-- why a path was not made: it would be none, or memory ran out
abbrev pub IsRefusal : List Element → PathFault → Type 0
IsRefusal path (Bad at) = (at ≡ 0) × ¬ (IsPath path)
IsRefusal path NoMemory = IsPath path

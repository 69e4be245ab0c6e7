-- Names of layers: texts split at slashes, taken from the folder of the layer that names them.
use Rattle.std.specs.Prelude.{ℕ, ◌≡◌, ◌≢◌, ◌<◌, ◌≤◌, ◌==◌, Bool, true, false, ◌||◌, List, [], ◌∷◌, ◌++◌, length, reverse, codes, take, drop, ◌-◌, slice_index}
use Rattle.std.specs.Cmp.Lexicographic.{pointwise}
use Rattle.asset_names.specs.declared.name.NameKind.{NameKind}
use Rattle.asset_names.specs.declared.name.NameKind.TheVariants as kind

-- a segment `.` and a segment `..`
abbrev pub here : List ℕ
here = 46 ∷ []

abbrev pub above : List ℕ
above = 46 ∷ 46 ∷ []

-- two texts are one, byte by byte
abbrev pub same_text : List ℕ → List ℕ → Bool
same_text s t = pointwise ◌==◌ s t

-- the parts between slashes, where a part has begun so
abbrev pub segments_from : List ℕ → List ℕ → List (List ℕ)
segments_from begun [] = begun ∷ []
segments_from begun (c ∷ t) = elim (c == 47) [ true ↦ begun ∷ segments_from [] t | false ↦ segments_from (begun ++ c ∷ []) t ]

-- the parts of a text between its slashes, empty ones too
abbrev pub segments : List ℕ → List (List ℕ)
segments t = segments_from [] t

-- a text that begins with a slash is absolute
abbrev pub is_absolute : List ℕ → Bool
is_absolute [] = false
is_absolute (c ∷ t) = c == 47

-- Folders are a list of segments, the innermost one first.
-- `..` takes the innermost one away. Where there is none, or nothing but `..`, it stays in a relative name, and is dropped in
-- an absolute one.
abbrev pub step_up : Bool → List (List ℕ) → List (List ℕ)
step_up absolute [] = elim absolute [ true ↦ [] | false ↦ above ∷ [] ]
step_up absolute (s ∷ ss) = elim (same_text s above) [ true ↦ above ∷ s ∷ ss | false ↦ ss ]

-- one segment more: an empty one and `.` stay where they are
abbrev pub step : Bool → List (List ℕ) → List ℕ → List (List ℕ)
step absolute folders s =
    elim (same_text s [] || same_text s here) [
      | true ↦ folders
      | false ↦ elim (same_text s above) [ true ↦ step_up absolute folders | false ↦ s ∷ folders ]
    ]

-- segment after segment
abbrev pub walk : Bool → List (List ℕ) → List (List ℕ) → List (List ℕ)
walk absolute folders [] = folders
walk absolute folders (s ∷ ss) = walk absolute (step absolute folders s) ss

-- segments that follow another, each behind a slash
abbrev pub more_joined : List (List ℕ) → List ℕ
more_joined [] = []
more_joined (s ∷ ss) = codes "/" ++ s ++ more_joined ss

-- segments with slashes between
abbrev pub joined : List (List ℕ) → List ℕ
joined [] = []
joined (s ∷ ss) = s ++ more_joined ss

-- segments with slashes between, at the front of a text or behind another segment
abbrev pub joined_from : Bool → List (List ℕ) → List ℕ
joined_from true = joined
joined_from false = more_joined

-- the name of these folders, with a slash in front where it is absolute
abbrev pub name_of : Bool → List (List ℕ) → List ℕ
name_of absolute folders = elim absolute [ true ↦ codes "/" ++ joined (reverse folders) | false ↦ joined (reverse folders) ]

-- a name by itself
abbrev pub normal_name : List ℕ → List ℕ
normal_name t = name_of (is_absolute t) (walk (is_absolute t) [] (segments t))

-- the folders without the innermost one
abbrev pub all_but_first : List (List ℕ) → List (List ℕ)
all_but_first [] = []
all_but_first (s ∷ ss) = ss

-- a name that gives itself, of at most 4,096 bytes; what such a name is, is said by `IsNormalised`
pub record IsNormal (name : List ℕ) : Type 0 where
  pub stays : normal_name name ≡ name
  pub short : length name ≤ 4096

-- the folder of a layer: its segments but the last
abbrev pub folder : List ℕ → List (List ℕ)
folder layer = all_but_first (walk (is_absolute layer) [] (segments layer))

-- An asset that begins with a slash stands alone, any other is taken from the folder of the layer that names it.
abbrev pub anchored_name : List ℕ → List ℕ → List ℕ
anchored_name layer asset =
    elim (is_absolute asset) [
      | true ↦ normal_name asset
      | false ↦ name_of (is_absolute layer) (walk (is_absolute layer) (folder layer) (segments asset))
    ]

-- no character below space, and not empty
pub record IsClean (text : List ℕ) : Type 0 where
  pub some : text ≢ []
  pub printable : (k : ℕ) → k < length text → 32 ≤ slice_index text k

-- Why a text is no name of a layer, and where: its first character below space; else at 0 where it is empty, and at 4096
-- where the name that it gives is longer than 4,096 bytes.
pub data IsBad (text name : List ℕ) : ℕ → Type 0 where
  control : (at : ℕ) → at < length text → slice_index text at < 32 → ((k : ℕ) → k < at → 32 ≤ slice_index text k) → IsBad text name at
  empty : text ≡ [] → IsBad text name 0
  long : ((k : ℕ) → k < length text → 32 ≤ slice_index text k) → 4096 < length name → IsBad text name 4096

-- the text ends with another
abbrev pub ends_with : List ℕ → List ℕ → Bool
ends_with t end = same_text (drop (length t - length end) t) end

-- the text begins with another
abbrev pub begins_with : List ℕ → List ℕ → Bool
begins_with t front = same_text (take (length front) t) front

-- the text has another somewhere in it
abbrev pub has_inside : List ℕ → List ℕ → Bool
has_inside [] part = begins_with [] part
has_inside (c ∷ t) part = begins_with (c ∷ t) part || has_inside t part

-- what a layer of that name is, by the name alone: one that ends in `.usdc` is a crate, one that ends in `.usdz` or has `.usdz[` in it a package, any other a plain text
abbrev pub kind_of : List ℕ → NameKind
kind_of t =
    elim (ends_with t (codes ".usdc")) [
      | true ↦ kind.Crate
      | false ↦ elim (ends_with t (codes ".usdz") || has_inside t (codes ".usdz[")) [ true ↦ kind.Package | false ↦ kind.Plain ]
    ]

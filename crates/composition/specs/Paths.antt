-- Paths, their levels and their limits.
-- docs/COMPOSITION.md, 'Nodes, and which arcs are followed'.
use Rattle.std.specs.Prelude.{ℕ, zero, suc, ◌-◌, nat_le, Bool, true, false, List, [], ◌∷◌, ◌++◌, length, take, drop}
use Rattle.std.specs.List.{list_any}
use Rattle.sdf_paths.specs.Paths.{same_element, is_selection, depth, printed}
use Rattle.sdf_paths.specs.declared.element.Element.{Element}
use Rattle.composition.specs.Texts.{same_list, both}

-- from the root down; `/` is []
abbrev pub Path : Type 0
Path = List Element

-- the paths are one: names, selections and property are the same
abbrev pub same_path : Path → Path → Bool
same_path = same_list same_element

-- `front` is the path or stands above it
abbrev pub is_prefix : Path → Path → Bool
is_prefix [] p = true
is_prefix (e ∷ front) [] = false
is_prefix (e ∷ front) (x ∷ p) = elim (same_element e x) [ true ↦ is_prefix front p | false ↦ false ]

-- some variant is selected on the path
abbrev pub has_selections : Path → Bool
has_selections p = list_any is_selection p

-- How many levels a path has. Level j of a path is the path without its last j names; levels go up to the last variant selection,
-- included, or else to the root prim.
abbrev pub levels : Path → ℕ
levels [] = 0
levels (e ∷ p) = elim (has_selections p) [ true ↦ levels p | false ↦ length (e ∷ p) ]

-- the path without its last j elements
abbrev pub up : Path → ℕ → Path
up p j = take (length p - j) p

-- its last j elements
abbrev pub tail : Path → ℕ → Path
tail p j = drop (length p - j) p

-- 0, 1, .. below n
abbrev pub below : ℕ → List ℕ
below zero = []
below (suc n) = below n ++ n ∷ []

-- the levels of a path by their numbers, from 0, which is the path itself
abbrev pub levels_of : Path → List ℕ
levels_of p = below (levels p)

-- what this project bounds: names and bytes of a path, arcs on one chain, nodes of one listing, rounds of variant selection,
-- layers of a world
pub record Limits : Type 0 where
  pub names : ℕ
  pub bytes : ℕ
  pub depth : ℕ
  pub nodes : ℕ
  pub rounds : ℕ
  pub layers : ℕ

-- the limits that the program keeps to
abbrev pub limits : Limits
limits = record { names = 64; bytes = 4096; depth = 64; nodes = 4096; rounds = 16; layers = 4096 }

-- the path is within the limits of paths
abbrev pub fits : Limits → Path → Bool
fits l p = both (nat_le (depth p) l.names) (nat_le (length (printed p)) l.bytes)

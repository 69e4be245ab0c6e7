-- The room that a path leaves for the names of its children.
-- docs/COMPOSITION.md, 'Names and fields'.
use Rattle.std.specs.Prelude.{ℕ, ◌-◌, nat_le, nat_lt, not, Bool, true, false, List, [], ◌∷◌, length, map, filter}
use Rattle.sdf_paths.specs.Paths.{depth, printed}
use Rattle.composition.specs.Paths.{Path}
use Rattle.composition.specs.Texts.{Text}
use Rattle.composition.specs.Faults.{Fault, child_too_long}

-- the bytes that a path leaves for what stands below it
abbrev pub bytes_left : Path → ℕ
bytes_left [] = 4096
bytes_left (e ∷ p) = 4096 - length (printed (e ∷ p))

-- none where a path has as many names as it may, else one more than the bytes of the longest name that fits
abbrev pub room_of : Path → ℕ
room_of p = elim (nat_le 64 (depth p)) [ true ↦ 0 | false ↦ bytes_left p ]

-- a child of this name has a path within the limits
abbrev pub has_room : ℕ → Text → Bool
has_room room name = nat_lt (length name) room

-- the names that fit
abbrev pub listed_in : ℕ → List Text → List Text
listed_in room names = filter (λ name. has_room room name) names

-- the faults of the names that do not fit
abbrev pub too_long_in : ℕ → List Text → List Fault
too_long_in room names = map child_too_long (filter (λ name. not (has_room room name)) names)

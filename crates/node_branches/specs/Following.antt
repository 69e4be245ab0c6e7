-- Parts of the tests by which an arc is followed.
use Rattle.std.specs.Prelude.{Bool, true, false, List, [], ◌∷◌, Option, Some, None}
use Rattle.std.specs.List.{list_any}
use Rattle.composition.specs.Texts.{both}
use Rattle.composition.specs.Arcs.{Lead, Reason, arc_cycle, too_deep, offset_range, path_too_long}
use Rattle.composition.specs.Nodes.{is_related, first_reason}
use Rattle.sdf_values.specs.Scales.{Offset, composed}
use Rattle.composition.specs.Paths.{Path, limits, fits}
use Rattle.composition.specs.World.{in_range, StackName, same_stack}

-- the path, where it is within the limits of paths
abbrev pub if_fits : Path → Option Path
if_fits p = elim (fits limits p) [ true ↦ Some p | false ↦ None ]

-- the two offsets as one, where that is in range
abbrev pub if_in_range : Offset → Offset → Option Offset
if_in_range inner outer = elim (in_range (composed inner outer)) [ true ↦ Some (composed inner outer) | false ↦ None ]

-- an arc leads back to an author on its way
abbrev pub on_chain : List (StackName × Path) → Lead → Bool
on_chain chain a = list_any (λ x. both (same_stack x.0 a.stack) (is_related a.target x.1)) chain

-- the first reason of four whose test holds
abbrev pub first_of_four : Bool → Bool → Bool → Bool → Option Reason
first_of_four cyclic last outside long =
    first_reason ((cyclic, arc_cycle) ∷ (last, too_deep) ∷ (outside, offset_range) ∷ (long, path_too_long) ∷ [])

-- Names of layers: an asset taken from the folder of the layer that names it.
-- docs/COMPOSITION.md, 'Names of layers'.
use Rattle.std.specs.Prelude.{nat_le, nat_lt, true, false, [], ◌∷◌, length, Option, Some, None}
use Rattle.std.specs.List.{list_any}
use Rattle.asset_names.specs.Anchoring.{anchored_name}
use Rattle.composition.specs.Texts.{Text}

-- a name, where it is not too long
abbrev pub if_short : Text → Option Text
if_short name = elim (nat_le (length name) 4096) [ true ↦ Some name | false ↦ None ]

-- the name that an asset has in a layer; none where it is empty, has a character below space, or gives a name of more than 4,096 bytes
abbrev pub anchor : Text → Text → Option Text
anchor layer [] = None
anchor layer (c ∷ t) = elim (list_any (λ x. nat_lt x 32) (c ∷ t)) [ true ↦ None | false ↦ if_short (anchored_name layer (c ∷ t)) ]

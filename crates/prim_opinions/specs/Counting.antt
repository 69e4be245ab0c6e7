-- The specs of a property that count, gathered from the strongest on.
use Rattle.std.specs.Prelude.{Bool, true, List, [], ◌∷◌, ◌++◌, cond, Option, Some, None}
use Rattle.spec_properties.specs.declared.property.Property.{Property}
use Rattle.composition.specs.Texts.{Text}
use Rattle.composition.specs.Opinions.{Said}
use Rattle.composition.specs.Values.{PropertySaid, same_sort, specs_of, counting}

-- the specs of a property of this name that count
unfoldable pub counted : Text → List Said → List PropertySaid
counted name said = counting (specs_of name said)

-- a property is of the kind and type of the strongest of these
abbrev pub counts : List PropertySaid → Property → Bool
counts [] q = true
counts (p ∷ ps) q = same_sort p.property q

-- one more, if it counts
abbrev pub with_counting : List PropertySaid → PropertySaid → List PropertySaid
with_counting ps q = cond (counts ps q.property) (ps ++ q ∷ []) ps

-- the property that a layer has, if there is one and it counts
abbrev pub with_property_of : List PropertySaid → Said → Option Property → List PropertySaid
with_property_of ps s None = ps
with_property_of ps s (Some p) = with_counting ps (record { said = s; property = p })

-- Properties by name, in their order.
use Rattle.std.specs.Prelude.{ℕ, ◌==◌, Bool, false, cond, List, [], ◌∷◌, map, Option, Some, None}
use Rattle.std.specs.List.{IsDistinct}
use Rattle.std.specs.Cmp.Lexicographic.{pointwise}
use Rattle.list_ops.specs.Blank.{no_edits}
use Rattle.spec_properties.specs.declared.property.Property.{Property}
use Rattle.spec_properties.specs.declared.property.Property.TheVariants.{Attr, Rel}

-- whether two names are one
abbrev pub same_name : List ℕ → List ℕ → Bool
same_name a b = pointwise ◌==◌ a b

-- the name of an attribute or a relationship; both are named from one set of names
abbrev pub property_name : Property → List ℕ
property_name (Attr name ty custom uniform default samples connections meta) = name
property_name (Rel name custom targets meta) = name

-- the names of the properties, in their order
abbrev pub property_names : List Property → List (List ℕ)
property_names properties = map property_name properties

-- each name stands once
abbrev pub AreProperties : List Property → Type 0
AreProperties properties = IsDistinct same_name (property_names properties)

-- the property of a name
abbrev pub property_at : List ℕ → List Property → Option Property
property_at name [] = None
property_at name (p ∷ ps) = cond (same_name name (property_name p)) (Some p) (property_at name ps)

-- with a property: where its name is there, in that place, and else at the end
abbrev pub with_property : Property → List Property → List Property
with_property property [] = property ∷ []
with_property property (p ∷ ps) = cond (same_name (property_name property) (property_name p)) (property ∷ ps) (p ∷ with_property property ps)

-- without the property of a name; the others keep their order
abbrev pub without_property : List ℕ → List Property → List Property
without_property name [] = []
without_property name (p ∷ ps) = cond (same_name name (property_name p)) ps (p ∷ without_property name ps)

-- the relationship of a name that says nothing
abbrev pub blank_relationship : List ℕ → Property
blank_relationship name = Rel name false no_edits []

-- Where the property of a name stands among properties, and the names that are kept beside many of them.
use Rattle.std.specs.Prelude.{◌≡◌, ℕ, zero, suc, ◌+◌, true, false, cond, List, [], ◌∷◌, Option, Some, None, MatchOption}
use Rattle.std.specs.List.{AllByRecursion}
use Rattle.spec_properties.specs.declared.property.Property.{Property}
use Rattle.spec_properties.specs.Properties.{same_name, property_name, property_names}

-- no property has the name
abbrev pub IsAbsent : List ℕ → List Property → Type 0
IsAbsent name ps = AllByRecursion (λ n. same_name name n ≡ false) (property_names ps)

-- the first property of the name stands at this place
abbrev pub StandsAt : List ℕ → List Property → ℕ → Type 0
StandsAt name [] i = ⊥
StandsAt name (p ∷ ps) zero = same_name name (property_name p) ≡ true
StandsAt name (p ∷ ps) (suc i) = (same_name name (property_name p) ≡ false) × StandsAt name ps i

-- the place of the property of the name; none where no property has it
abbrev pub IsPlace : List ℕ → List Property → Option ℕ → Type 0
IsPlace name ps place = MatchOption place (IsAbsent name ps) (StandsAt name ps)

-- the place of the first property of the name, where the first of the list stands at the place i
abbrev pub place_from : List ℕ → ℕ → List Property → Option ℕ
place_from name i [] = None
place_from name i (p ∷ ps) = cond (same_name name (property_name p)) (Some i) (place_from name (i + 1) ps)

-- what is kept are these names, or nothing
abbrev pub Keeps : Option (List (List ℕ)) → List (List ℕ) → Type 0
Keeps kept names = MatchOption kept (Unit {0}) (λ them. them ≡ names)

-- the names of the properties are kept, or nothing
abbrev pub Indexes : Option (List (List ℕ)) → List Property → Type 0
Indexes kept ps = Keeps kept (property_names ps)

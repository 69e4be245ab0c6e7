-- What the place of a property says of the list.
use Rattle.std.proofs.Common.{◌≡◌, ◌∙◌, sym, ap, refl, subst, ℕ, zero, suc, ◌+◌, ◌<◌, Bool, true, false, cond, not, nat_lt, List, [], ◌∷◌, ◌++◌, length, drop, remove, position, slice_get, slice_set, get_or, Option, Some, None, MatchOption, is_some, drop-cons, arith, lt-ltb, le-ltb}
use Rattle.std.specs.List.{position_or_len}
use Rattle.plain_data.specs.Exact.{text_same}
use Rattle.spec_properties.specs.declared.property.Property.{Property}
use Rattle.spec_properties.specs.Properties.{same_name, property_name, property_names, property_at, with_property, without_property}
use Rattle.spec_properties.specs.Places.{IsAbsent, StandsAt, IsPlace, place_from}

-- ---- the property at the place of a name
pub at_place : (name : List ℕ) (ps : List Property) (i : ℕ) → StandsAt name ps i → property_at name ps ≡ slice_get ps i
at_place name [] i h = absurd h
at_place name (p ∷ ps) zero h = ap (λ (b : Bool). cond b (Some p) (property_at name ps)) h
at_place name (p ∷ ps) (suc i) h = ap (λ (b : Bool). cond b (Some p) (property_at name ps)) h.0 ∙ at_place name ps i h.1

pub within : (name : List ℕ) (ps : List Property) (i : ℕ) → StandsAt name ps i → i < length ps
within name [] i h = absurd h
within name (p ∷ ps) zero h = omega arith
within name (p ∷ ps) (suc i) h = omega (arith, within name ps i h.1)

-- the property that is read there
pub read_at : (name : List ℕ) (ps : List Property) (i : ℕ) (p : Property) → StandsAt name ps i → p ≡ get_or ps i p → Some p ≡ property_at name ps
read_at name [] i p h is = absurd h
read_at name (q ∷ qs) zero p h is = ap Some is ∙ sym (ap (λ (b : Bool). cond b (Some q) (property_at name qs)) h)
read_at name (q ∷ qs) (suc i) p h is = read_at name qs i p h.1 is ∙ sym (ap (λ (b : Bool). cond b (Some q) (property_at name qs)) h.0)

pub at_no_place : (name : List ℕ) (ps : List Property) → IsAbsent name ps → property_at name ps ≡ None
at_no_place name [] h = refl
at_no_place name (p ∷ ps) h = ap (λ (b : Bool). cond b (Some p) (property_at name ps)) h.0 ∙ at_no_place name ps h.1

-- ---- the list with another property at the place of its name
pub exchanged : (q : Property) (ps : List Property) (i : ℕ) → StandsAt (property_name q) ps i → slice_set ps i q ≡ with_property q ps
exchanged q [] i h = absurd h
exchanged q (p ∷ ps) zero h = sym (ap (λ (b : Bool). cond b (q ∷ ps) (p ∷ with_property q ps)) h)
exchanged q (p ∷ ps) (suc i) h = ap (λ (qs : List Property). p ∷ qs) (exchanged q ps i h.1) ∙ sym (ap (λ (b : Bool). cond b (q ∷ ps) (p ∷ with_property q ps)) h.0)

pub names_stay : (q : Property) (ps : List Property) (i : ℕ) → StandsAt (property_name q) ps i → property_names ps ≡ property_names (slice_set ps i q)
names_stay q [] i h = absurd h
names_stay q (p ∷ ps) zero h = ap (λ (n : List ℕ). n ∷ property_names ps) (sym (text_same (property_name q) (property_name p) h))
names_stay q (p ∷ ps) (suc i) h = ap (λ (ns : List (List ℕ)). property_name p ∷ ns) (names_stay q ps i h.1)

pub appended : (q : Property) (ps : List Property) → IsAbsent (property_name q) ps → ps ++ q ∷ [] ≡ with_property q ps
appended q [] h = refl
appended q (p ∷ ps) h = ap (λ (qs : List Property). p ∷ qs) (appended q ps h.1) ∙ sym (ap (λ (b : Bool). cond b (q ∷ ps) (p ∷ with_property q ps)) h.0)

-- ---- the list without the property of a name
pub removed : (name : List ℕ) (ps : List Property) (i : ℕ) → StandsAt name ps i → remove ps i ≡ without_property name ps
removed name [] i h = absurd h
removed name (p ∷ ps) zero h = sym (ap (λ (b : Bool). cond b ps (p ∷ without_property name ps)) h)
removed name (p ∷ ps) (suc i) h = ap (λ (qs : List Property). p ∷ qs) (removed name ps i h.1) ∙ sym (ap (λ (b : Bool). cond b ps (p ∷ without_property name ps)) h.0)

pub not_removed : (name : List ℕ) (ps : List Property) → IsAbsent name ps → ps ≡ without_property name ps
not_removed name [] h = refl
not_removed name (p ∷ ps) h = ap (λ (qs : List Property). p ∷ qs) (not_removed name ps h.1) ∙ sym (ap (λ (b : Bool). cond b ps (p ∷ without_property name ps)) h.0)

-- ---- the place by going over all
-- what is found by going over all from a number on
abbrev Found : List ℕ → ℕ → List Property → Option ℕ → Type 0
Found name n ps place = MatchOption place (IsAbsent name ps) (λ j. (i : ℕ) × (j ≡ n + i) × StandsAt name ps i)

found : (name : List ℕ) (n : ℕ) (ps : List Property) → Found name n ps (place_from name n ps)
found name n [] = tt
found name n (p ∷ ps) = by (same_name name (property_name p)) refl (place_from name (n + 1) ps) (found name (n + 1) ps)
  where
    by : (b : Bool) → same_name name (property_name p) ≡ b → (r : Option ℕ) → Found name (n + 1) ps r → Found name n (p ∷ ps) (cond b (Some n) r)
    by true h r rest = (0, omega arith, h)
    by false h None rest = (h, rest)
    by false h (Some j) rest = (suc rest.0, omega (arith, rest.1), (h, rest.2))

pub place_told : (name : List ℕ) (ps : List Property) (r : Option ℕ) → place_from name 0 ps ≡ r → IsPlace name ps r
place_told name ps r h = by r (subst (Found name 0 ps) h (found name 0 ps))
  where
    by : (r : Option ℕ) → Found name 0 ps r → IsPlace name ps r
    by None f = f
    by (Some j) f =
        let is : f.0 ≡ j = omega (arith, f.1) in subst (StandsAt name ps) is f.2

-- one step of going over all: the property at the number is of the name, or what is found stands behind it
pub one_step : (name : List ℕ) (ps : List Property) (i : ℕ) (p : Property) → i < length ps → p ≡ get_or ps i p
    → place_from name i (drop i ps) ≡ cond (same_name name (property_name p)) (Some i) (place_from name (i + 1) (drop (i + 1) ps))
one_step name ps i p inside is =
    let next : suc i ≡ i + 1 = omega arith in
    ap (place_from name i) (drop-cons ps i p inside ∙ (λ j. sym is j ∷ drop (next j) ps))

-- ---- the place by the names
first_at : (name : List ℕ) (ps : List Property) (i : ℕ) → StandsAt name ps i → position_or_len (same_name name) (property_names ps) ≡ i
first_at name [] i h = absurd h
first_at name (p ∷ ps) zero h = ap (λ (b : Bool). cond (not b) (1 + position_or_len (same_name name) (property_names ps)) 0) h
first_at name (p ∷ ps) (suc i) h =
    ap (λ (b : Bool). cond (not b) (1 + position_or_len (same_name name) (property_names ps)) 0) h.0 ∙ ap (λ (n : ℕ). 1 + n) (first_at name ps i h.1) ∙ omega arith

none_first : (name : List ℕ) (ps : List Property) → IsAbsent name ps → position_or_len (same_name name) (property_names ps) ≡ length (property_names ps)
none_first name [] h = refl
none_first name (p ∷ ps) h =
    ap (λ (b : Bool). cond (not b) (1 + position_or_len (same_name name) (property_names ps)) 0) h.0 ∙ ap (λ (n : ℕ). 1 + n) (none_first name ps h.1) ∙ omega arith

length_names : (ps : List Property) → length (property_names ps) ≡ length ps
length_names [] = refl
length_names (p ∷ ps) = ap suc (length_names ps)

pub place_by_names : (name : List ℕ) (ps : List Property) → IsPlace name ps (position (same_name name) (property_names ps))
place_by_names name ps = by (place_from name 0 ps) (place_told name ps (place_from name 0 ps) refl)
  where
    names : List (List ℕ)
    names = property_names ps

    by : (r : Option ℕ) → IsPlace name ps r → IsPlace name ps (position (same_name name) names)
    by None h =
        subst (IsPlace name ps) (sym (ap (λ (n : ℕ). cond (nat_lt n (length names)) (Some n) None) (none_first name ps h) ∙ ap (λ (b : Bool). cond b (Some (length names)) None) (le-ltb _ _ (omega arith)))) h
    by (Some i) h =
        let inside : i < length names = omega (arith, within name ps i h, length_names ps) in
        subst (IsPlace name ps) (sym (ap (λ (n : ℕ). cond (nat_lt n (length names)) (Some n) None) (first_at name ps i h) ∙ ap (λ (b : Bool). cond b (Some i) None) (lt-ltb i _ inside))) h

-- ---- whether one is found
pub has_place : (name : List ℕ) (ps : List Property) (r : Option ℕ) → IsPlace name ps r → is_some r ≡ is_some (property_at name ps)
has_place name ps None h = ap (λ (o : Option Property). is_some o) (sym (at_no_place name ps h))
has_place name ps (Some i) h = sym (stands name ps i h)
  where
    stands : (name : List ℕ) (ps : List Property) (i : ℕ) → StandsAt name ps i → is_some (property_at name ps) ≡ true
    stands name [] i h = absurd h
    stands name (p ∷ ps) zero h = ap (λ (b : Bool). is_some (cond b (Some p) (property_at name ps))) h
    stands name (p ∷ ps) (suc i) h = ap (λ (b : Bool). is_some (cond b (Some p) (property_at name ps))) h.0 ∙ stands name ps i h.1

-- Each name stands once, also after a property was put among others or taken away.
use Rattle.std.proofs.Common.{◌≡◌, ◌∙◌, sym, ap, refl, subst, ℕ, Bool, true, false, cond, ◌||◌, if◌then◌else◌, slice_set, Option, None, Some, List, [], ◌∷◌, ◌++◌, append_assoc}
use Rattle.std.specs.List.{AllByRecursion, IsDistinct, list_any}
use Rattle.std.proofs.lemmas.List.{append-nil}
use Rattle.std.proofs.lemmas.Cmp.{nat_list_eq_equiv}
use Rattle.std.proofs.lemmas.Map.Keys.{IsDistinct-head, IsDistinct-tail, IsDistinct-cons, IsDistinct-push}
use Rattle.std.specs.Option.{option_map}
use Rattle.indexmap.specs.IndexSet.{insert_all, insert_key, remove_key}
use Rattle.spec_properties.specs.declared.property.Property.{Property}
use Rattle.spec_properties.specs.Properties.{AreProperties, same_name, property_name, property_names, without_property}
use Rattle.spec_properties.specs.Places.{IsAbsent, StandsAt, Keeps, Indexes}
use Rattle.spec_properties.proofs.NamedLists.{not_any, names_appended, names_removed}
use Rattle.spec_properties.proofs.Places.{names_stay}

pub none_once : AreProperties []
unfolding IsDistinct
none_once = tt

pub once_appended : (q : Property) (ps : List Property) → AreProperties ps → IsAbsent (property_name q) ps → AreProperties (ps ++ q ∷ [])
once_appended q ps once absent =
    subst (IsDistinct same_name) (sym (names_appended q ps)) (IsDistinct-push nat_list_eq_equiv (property_names ps) (property_name q) once (not_any (property_name q) ps absent))

-- a name that none of the properties has, none of the others has
others : (n name : List ℕ) (ps : List Property) → AllByRecursion (λ y. same_name n y ≡ false) (property_names ps) → AllByRecursion (λ y. same_name n y ≡ false) (property_names (without_property name ps))
others n name [] all = tt
others n name (p ∷ ps) all = by (same_name name (property_name p)) (others n name ps all.1)
  where
    by : (b : Bool) → AllByRecursion (λ y. same_name n y ≡ false) (property_names (without_property name ps)) → AllByRecursion (λ y. same_name n y ≡ false) (property_names (cond b ps (p ∷ without_property name ps)))
    by true rest = all.1
    by false rest = (all.0, rest)

pub once_removed : (name : List ℕ) (ps : List Property) → AreProperties ps → AreProperties (without_property name ps)
once_removed name [] once = once
once_removed name (p ∷ ps) once =
    by (same_name name (property_name p)) (once_removed name ps (IsDistinct-tail same_name (property_name p) (property_names ps) once))
  where
    by : (b : Bool) → AreProperties (without_property name ps) → AreProperties (cond b ps (p ∷ without_property name ps))
    by true rest = IsDistinct-tail same_name (property_name p) (property_names ps) once
    by false rest =
        IsDistinct-cons same_name (property_name p) (property_names (without_property name ps))
        (others (property_name p) name ps (IsDistinct-head same_name (property_name p) (property_names ps) once)) rest

-- ---- names that are put one after the other
-- what stands behind none of its like is no repeat of what stands before it
before_it : (n m : List ℕ) (ns ms : List (List ℕ)) → AllByRecursion (λ y. same_name m y ≡ false) (ns ++ n ∷ ms) → same_name m n ≡ false
before_it n m [] ms all = all.0
before_it n m (x ∷ ns) ms all = before_it n m ns ms all.1

not_before : (n : List ℕ) (ns ms : List (List ℕ)) → IsDistinct same_name (ns ++ n ∷ ms) → list_any (same_name n) ns ≡ false
not_before n [] ms once = refl
not_before n (x ∷ ns) ms once =
    ap (λ (b : Bool). b || list_any (same_name n) ns) (nat_list_eq_equiv.symm n x ∙ before_it n x ns ms (IsDistinct-head same_name x (ns ++ n ∷ ms) once))
    ∙ not_before n ns ms (IsDistinct-tail same_name x (ns ++ n ∷ ms) once)

pub put_all : (ns ms : List (List ℕ)) → IsDistinct same_name (ns ++ ms) → insert_all same_name ns ms ≡ ns ++ ms
put_all ns [] once = sym (append-nil ns)
put_all ns (m ∷ ms) once =
    let moved : (ns ++ m ∷ []) ++ ms ≡ ns ++ m ∷ ms = append_assoc ns (m ∷ []) ms in
    ap (λ (b : Bool). insert_all same_name (if b then ns else ns ++ m ∷ []) ms) (not_before m ns ms once)
    ∙ (put_all (ns ++ m ∷ []) ms (subst (IsDistinct same_name) (sym moved) once) ∙ moved)

-- a new name that is put among those of the properties stands at their end
pub name_put : (name : List ℕ) (ps : List Property) → IsAbsent name ps → insert_key same_name (property_names ps) name ≡ property_names ps ++ name ∷ []
name_put name ps absent = ap (λ (b : Bool). if b then property_names ps else property_names ps ++ name ∷ []) (not_any name ps absent)

-- ---- the list and the names that are kept, after a change of both
-- another property at the place of its name
pub fits_exchanged : (kept : Option (List (List ℕ))) (q v : Property) (ps : List Property) (i : ℕ) → v ≡ q → StandsAt (property_name q) ps i
    → AreProperties ps × Indexes kept ps → AreProperties (slice_set ps i v) × Indexes kept (slice_set ps i v)
fits_exchanged kept q v ps i is at fits =
    subst (λ (ns : List (List ℕ)). IsDistinct same_name ns × Keeps kept ns) (names_stay q ps i at ∙ ap (λ (x : Property). property_names (slice_set ps i x)) (sym is)) fits

-- a new property at the end
pub fits_appended : (kept : Option (List (List ℕ))) (q : Property) (ps : List Property) → IsAbsent (property_name q) ps → AreProperties ps
    → Keeps kept (property_names ps ++ property_name q ∷ []) → AreProperties (ps ++ q ∷ []) × Indexes kept (ps ++ q ∷ [])
fits_appended kept q ps absent once keeps = (once_appended q ps once absent, subst (Keeps kept) (sym (names_appended q ps)) keeps)

-- without the property of a name
pub fits_removed : (kept : Option (List (List ℕ))) (name : List ℕ) (ps : List Property) → AreProperties ps × Indexes kept ps
    → AreProperties (without_property name ps) × Indexes (option_map (remove_key (same_name name)) kept) (without_property name ps)
fits_removed None name ps fits = (once_removed name ps fits.0, tt)
fits_removed (Some ns) name ps fits = (once_removed name ps fits.0, ap (remove_key (same_name name)) fits.1 ∙ names_removed name ps)

-- Properties in a list, and their names.
use Rattle.std.proofs.Common.{◌≡◌, ◌∙◌, ◌↔◌, sym, ap, refl, ℕ, Bool, true, false, true≢false, cond, ◌||◌, IsTrue, List, [], ◌∷◌, ◌++◌, Option, Some, None, Bor, IfSome}
use Rattle.std.specs.Option.{option_copied}
use Rattle.std.specs.List.{list_any}
use Rattle.std.proofs.lemmas.Cmp.{nat_list_eq_equiv}
use Rattle.plain_data.specs.Exact.{text_same}
use Rattle.indexmap.specs.IndexSet.{remove_key}
use Rattle.spec_properties.specs.declared.property.Property.{Property}
use Rattle.spec_properties.specs.Properties.{same_name, property_name, property_names, property_at, without_property}
use Rattle.spec_properties.specs.Places.{IsAbsent}

pub by_test : (F : Bool → Type 0) → (b : Bool) → (b ≡ true → F true) → (b ≡ false → F false) → F b
by_test F true on off = on refl
by_test F false on off = off refl

-- names that are compared
pub told_same : (r : Bool) (n m : List ℕ) → IsTrue r ↔ (n ≡ m) → r ≡ true → same_name m n ≡ true
told_same r n m tells h = ap (same_name m) (tells.0 h) ∙ nat_list_eq_equiv.refl m

pub told_other : (r : Bool) (n m : List ℕ) → IsTrue r ↔ (n ≡ m) → r ≡ false → same_name m n ≡ false
told_other r n m tells h = by (same_name m n) refl
  where
    by : (b : Bool) → same_name m n ≡ b → b ≡ false
    by true e = absurd (true≢false (sym (tells.1 (sym (text_same m n e))) ∙ h))
    by false e = refl

-- ---- the names of a list that is changed
pub names_appended : (q : Property) (ps : List Property) → property_names (ps ++ q ∷ []) ≡ property_names ps ++ property_name q ∷ []
names_appended q [] = refl
names_appended q (p ∷ ps) = ap (λ (ns : List (List ℕ)). property_name p ∷ ns) (names_appended q ps)

pub names_removed : (name : List ℕ) (ps : List Property) → remove_key (same_name name) (property_names ps) ≡ property_names (without_property name ps)
names_removed name [] = refl
names_removed name (p ∷ ps) = by (same_name name (property_name p)) (names_removed name ps)
  where
    by : (b : Bool) → remove_key (same_name name) (property_names ps) ≡ property_names (without_property name ps)
        → cond b (property_names ps) (property_name p ∷ remove_key (same_name name) (property_names ps)) ≡ property_names (cond b ps (p ∷ without_property name ps))
    by true rest = refl
    by false rest = ap (λ (ns : List (List ℕ)). property_name p ∷ ns) rest

-- no name is one that is absent
pub not_any : (name : List ℕ) (ps : List Property) → IsAbsent name ps → list_any (same_name name) (property_names ps) ≡ false
not_any name [] h = refl
not_any name (p ∷ ps) h = ap (λ (b : Bool). b || list_any (same_name name) (property_names ps)) h.0 ∙ not_any name ps h.1

-- ---- what is found by a name
some_none : {A : Type 0} {x : A} → ◌≡◌ {A = Option A} None (Some x) → {B : Type 0} → B
some_none h {B} = absurd cc

name_at : (name : List ℕ) (ps : List Property) (p : Property) → property_at name ps ≡ Some p → property_name p ≡ name
name_at name [] p h = some_none h
name_at name (q ∷ ps) p h =
    let F : Bool → Type 0 = λ b. cond b (Some q) (property_at name ps) ≡ Some p → property_name p ≡ name in
    by_test F (same_name name (property_name q))
    (λ t is. let one : q ≡ p = cc in ap property_name (sym one) ∙ sym (text_same name (property_name q) t))
    (λ t rest. name_at name ps p rest) h

-- what is found by a name has that name
pub named_found : (name : List ℕ) (ps : List Property) (r : Option (Bor Property)) → option_copied r ≡ property_at name ps → IfSome r (λ p. property_name p.now ≡ name)
named_found name ps None h = tt
named_found name ps (Some p) h = name_at name ps p.now (sym h)

-- Properties of an owner, into whose list one is put.
use Rattle.std.proofs.Common.{◌≡◌, ◌∙◌, sym, ap, refl, subst, ℕ, Bool, true, false, cond, List, [], ◌∷◌, Some}
use Rattle.std.specs.List.{AllByRecursion, IsDistinct}
use Rattle.plain_data.specs.Exact.{text_same}
use Rattle.spec_properties.specs.declared.property.Property.{Property}
use Rattle.spec_properties.specs.Properties.{AreProperties, same_name, property_name, property_names, property_at, with_property}
use Rattle.value_texts.specs.Each.{AreAll}

-- the properties once the name is compared with that of the first
abbrev put : Property → Property → List Property → Bool → List Property
put q p ps b = cond b (q ∷ ps) (p ∷ with_property q ps)

-- What holds of each property holds of each other one behind the change, and of the new one.
pub each_with : (V W : Property → Type 0) (q : Property) → W q → ((p : Property) → same_name (property_name q) (property_name p) ≡ false → V p → W p)
    → (ps : List Property) → AreProperties ps → AreAll V ps → AreAll W (with_property q ps)
unfolding IsDistinct
each_with V W q here so [] once all = (here, tt)
each_with V W q here so (p ∷ ps) once all = by (same_name (property_name q) (property_name p)) refl (each_with V W q here so ps once.1 all.1)
  where
    others : (ps : List Property) → AllByRecursion (λ y. same_name (property_name q) y ≡ false) (property_names ps) → AreAll V ps → AreAll W ps
    others [] apart all = tt
    others (r ∷ rs) apart all = (so r apart.0 all.0, others rs apart.1 all.1)

    by : (b : Bool) → same_name (property_name q) (property_name p) ≡ b → AreAll W (with_property q ps) → AreAll W (put q p ps b)
    by true h rest = (here, others ps (subst (λ (n : List ℕ). AllByRecursion (λ y. same_name n y ≡ false) (property_names ps)) (sym (text_same (property_name q) (property_name p) h)) once.0) all.1)
    by false h rest = (so p h all.0, rest)

-- what holds of each property holds of the one of a name, which has the name
pub at_name : (W : Property → Type 0) (name : List ℕ) (ps : List Property) (p : Property) → AreAll W ps → property_at name ps ≡ Some p → W p × (property_name p ≡ name)
at_name W name [] p all h = absurd cc
at_name W name (q ∷ qs) p all h = by (same_name name (property_name q)) refl h (λ g. at_name W name qs p all.1 g)
  where
    by : (b : Bool) → same_name name (property_name q) ≡ b → cond b (Some q) (property_at name qs) ≡ Some p → (property_at name qs ≡ Some p → W p × (property_name p ≡ name)) → W p × (property_name p ≡ name)
    by true e g more =
        let is : q ≡ p = cc g in
        (subst W is all.0, ap property_name (sym is) ∙ sym (text_same name (property_name q) e))
    by false e g more = more g

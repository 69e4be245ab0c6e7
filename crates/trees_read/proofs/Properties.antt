-- A property that is put among others stands once among them.
use Rattle.std.proofs.Common.{◌≡◌, ◌∙◌, ℕ, Bool, true, false, cond, List, [], ◌∷◌, sym, refl, subst}
use Rattle.std.specs.List.{AllByRecursion, IsDistinct}
use Rattle.std.proofs.lemmas.Cmp.{nat_list_eq_equiv}
use Rattle.std.proofs.lemmas.Map.Keys.{IsDistinct-head, IsDistinct-tail, IsDistinct-cons}
use Rattle.plain_data.specs.Exact.{text_same}
use Rattle.spec_properties.specs.Properties.{AreProperties, same_name, property_name, property_names, with_property}
use Rattle.spec_properties.specs.declared.property.Property.{Property}

-- a name that none of the properties has, and the one that is put among them has not either
others : (n : List ℕ) (q : Property) (ps : List Property) → AllByRecursion (λ y. same_name n y ≡ false) (property_names ps) → same_name n (property_name q) ≡ false → AllByRecursion (λ y. same_name n y ≡ false) (property_names (with_property q ps))
others n q [] all h = (h, tt)
others n q (p ∷ ps) all h = by (same_name (property_name q) (property_name p)) (others n q ps all.1 h)
  where
    by : (b : Bool) → AllByRecursion (λ y. same_name n y ≡ false) (property_names (with_property q ps)) → AllByRecursion (λ y. same_name n y ≡ false) (property_names (cond b (q ∷ ps) (p ∷ with_property q ps)))
    by true more = (h, all.1)
    by false more = (all.0, more)

pub with_once : (q : Property) (ps : List Property) → AreProperties ps → AreProperties (with_property q ps)
with_once q [] once = IsDistinct-cons same_name (property_name q) [] tt once
with_once q (p ∷ ps) once = by (same_name (property_name q) (property_name p)) refl (with_once q ps (IsDistinct-tail same_name (property_name p) (property_names ps) once))
  where
    by : (b : Bool) → same_name (property_name q) (property_name p) ≡ b → AreProperties (with_property q ps) → AreProperties (cond b (q ∷ ps) (p ∷ with_property q ps))
    by true same more = subst (λ n. IsDistinct same_name (n ∷ property_names ps)) (sym (text_same (property_name q) (property_name p) same)) once
    by false other more =
        IsDistinct-cons same_name (property_name p) (property_names (with_property q ps))
        (others (property_name p) q ps (IsDistinct-head same_name (property_name p) (property_names ps) once) (nat_list_eq_equiv.symm (property_name p) (property_name q) ∙ other)) more

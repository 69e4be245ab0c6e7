-- The specs that count, as one more opinion is looked at.
use Rattle.std.proofs.Common.{◌≡◌, ◌∙◌, sym, ap, refl, ℕ, ◌+◌, ◌<◌, length, take, get_or, Bool, true, false, cond, List, [], ◌∷◌, ◌++◌, Option, Some, None, append-nil}
use Rattle.std.proofs.lemmas.List.{take_more}
use Rattle.std.specs.Prelude.{filter}
use Rattle.std.proofs.lemmas.Grind.{flat_map-append}
use Rattle.spec_properties.specs.Properties.{property_at}
use Rattle.spec_properties.specs.declared.property.Property.{Property}
use Rattle.composition.specs.Texts.{Text}
use Rattle.composition.specs.Opinions.{Said}
use Rattle.composition.specs.Values.{PropertySaid, same_sort, if_there, specs_of, counting}
use Rattle.prim_opinions.specs.Counting.{counted, with_counting, with_property_of}

filter_more : {X : Type 0} (p : X → Bool) (xs : List X) (x : X) → filter p (xs ++ x ∷ []) ≡ cond (p x) (filter p xs ++ x ∷ []) (filter p xs)
filter_more p [] x = refl
filter_more p (y ∷ ys) x =
    elim (p y) as (λ b. cond b (y ∷ filter p (ys ++ x ∷ [])) (filter p (ys ++ x ∷ [])) ≡ cond (p x) (cond b (y ∷ filter p ys) (filter p ys) ++ x ∷ []) (cond b (y ∷ filter p ys) (filter p ys))) [
      | true ↦ ap (λ zs. y ∷ zs) (filter_more p ys x) ∙ consed (p x)
      | false ↦ filter_more p ys x
    ]
  where
    consed : (b : Bool) → y ∷ cond b (filter p ys ++ x ∷ []) (filter p ys) ≡ cond b ((y ∷ filter p ys) ++ x ∷ []) (y ∷ filter p ys)
    consed true = refl
    consed false = refl

counting_more : (ps : List PropertySaid) (q : PropertySaid) → counting (ps ++ q ∷ []) ≡ with_counting (counting ps) q
counting_more [] q = refl
counting_more (p ∷ ps) q = ap (λ (qs : List PropertySaid). p ∷ qs) (filter_more (λ r. same_sort p.property r.property) ps q) ∙ consed (same_sort p.property q.property)
  where
    consed : (b : Bool) → p ∷ cond b (filter (λ r. same_sort p.property r.property) ps ++ q ∷ []) (filter (λ r. same_sort p.property r.property) ps)
        ≡ cond b (p ∷ (filter (λ r. same_sort p.property r.property) ps ++ q ∷ [])) (p ∷ filter (λ r. same_sort p.property r.property) ps)
    consed true = refl
    consed false = refl

pub counted_more : (name : Text) (said : List Said) (s : Said) → counted name (said ++ s ∷ []) ≡ with_property_of (counted name said) s (property_at name s.spec.body.properties)
unfolding counted
counted_more name said s =
    ap counting (flat_map-append (λ (x : Said). if_there x (property_at name x.spec.body.properties)) said (s ∷ []))
    ∙ (ap (λ (more : List PropertySaid). counting (specs_of name said ++ more)) (append-nil (if_there s (property_at name s.spec.body.properties)))
    ∙ by_property (property_at name s.spec.body.properties))
  where
    by_property : (o : Option Property) → counting (specs_of name said ++ if_there s o) ≡ with_property_of (counting (specs_of name said)) s o
    by_property None = ap counting (append-nil (specs_of name said))
    by_property (Some p) = counting_more (specs_of name said) (record { said = s; property = p })

pub none_counted : (name : Text) → counted name [] ≡ []
unfolding counted
none_counted name = refl

pub counted_next : (name : Text) (said : List Said) (i : ℕ) (s : Said) → i < length said → s ≡ get_or said i s
    → with_property_of (counted name (take i said)) s (property_at name s.spec.body.properties) ≡ counted name (take (i + 1) said)
counted_next name said i s within item =
    sym (ap (counted name) (take_more said i s within ∙ ap (λ (x : Said). take i said ++ x ∷ []) (sym item)) ∙ counted_more name (take i said) s)

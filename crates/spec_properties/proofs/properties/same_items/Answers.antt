use Rattle.std.proofs.Common.{◌≡◌, ◌∙◌, sym, ap, Bool, true, IsTrue, List}
use Rattle.std.specs.Cmp.{IsEquivalence}
use Rattle.std.specs.Cmp.Lexicographic.{pointwise, lists_equiv}
use Rattle.plain_data.specs.Exact.{pointwise_same}
use Rattle.spec_properties.proofs.properties.same_items.Goals as goal

decided : {K : Type 0} (E : K → K → Bool) → IsEquivalence E → ((x y : K) → E x y ≡ true → x ≡ y) → (xs ys : List K) (r : Bool) → r ≡ pointwise E xs ys
    → (IsTrue r → xs ≡ ys) × (xs ≡ ys → IsTrue r)
decided E equiv same xs ys r is =
    (λ h. pointwise_same E same xs ys (sym is ∙ h), λ e. is ∙ ap (pointwise E xs) (sym e) ∙ (lists_equiv equiv).refl xs)

pub returns : goal.returns
returns g c = decided g.T.PartialEq.eq g.met.T.Eq.laws g.met.T.ExactEq.equal_is_same _ _ _ c.eq.ensures

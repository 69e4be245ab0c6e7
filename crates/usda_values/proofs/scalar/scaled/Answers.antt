use Rattle.std.proofs.Common.{◌≡◌, ◌∙◌, ap, rules}
use Rattle.std.specs.Prelude.{ℤ, ◌*ℤ◌, FitsSigned}
use Rattle.std.specs.Int.{w16, w128}
use Rattle.std.proofs.lemmas.Int.{to_z-of_z}
use Rattle.usda_values.specs.Scalars.{in_128_bits, power_of, times_power}
use Rattle.usda_values.proofs.Powers.{product_is}
use Rattle.usda_values.proofs.scalar.scaled.Goals as goal

same_product : (a b x y : ℤ) → a ≡ x → b ≡ y → a *ℤ b ≡ x *ℤ y
same_product a b x y e f = cc

pub returns-in-Some : goal.returns-in-Some
returns-in-Some c =
    let fd : FitsSigned w128 c.args.digits = search rules in
    let fu : FitsSigned w128 c.in-Some.unit = search rules in
    let fe : FitsSigned w16 c.args.exp = search rules in
    product_is _ _ c.checked_mul.ensures
    ∙ ap in_128_bits (same_product _ _ _ _ (to_z-of_z w128 c.args.digits fd) (to_z-of_z w128 c.in-Some.unit fu))
    ∙ ap (times_power c.args.digits) (c.in-Some.ensures ∙ ap power_of (to_z-of_z w16 c.args.exp fe))

use Rattle.std.proofs.Common.{ℕ, ◌≡◌, ◌≤◌, ◌^◌, ap, sym, ◌∙◌, subst, arith, rules, to_z, of_z, w64}
use Rattle.std.specs.Prelude.{pos, ◌+ℤ◌, ◌*ℤ◌, FitsSigned}
use Rattle.std.specs.Int.{w128}
use Rattle.std.proofs.lemmas.Int.{ints, to_z-of_z}
use Rattle.sdf_values.proofs.offset.map_time.Goals as goal

pub returns-clause-mapped : goal.returns-clause-mapped
returns-clause-mapped c =
    let unit : pos c.unit_of.result ≡ c.args.scale = sym c.unit_of.ensures.same ∙ to_z-of_z w64 c.args.scale c.ranges.scale in
    let plain : to_z w128 (of_z w128 (to_z w64 (of_z w64 c.args.offset))) ≡ c.args.offset = omega (arith, ints) in
    let product : c.times.result ≡ c.args.units *ℤ c.args.scale =
    c.times.ensures.product ∙ ap (λ z. z *ℤ pos c.unit_of.result) (to_z-of_z w128 c.args.units c.ranges.units) ∙ ap (λ z. c.args.units *ℤ z) unit in
    let shift : c.times-2.result ≡ c.args.offset *ℤ pos (10 ^ 18) = c.times-2.ensures.product ∙ ap (λ z. z *ℤ pos (10 ^ 18)) plain in
    let total : c.sum-mapped.result ≡ c.times.result +ℤ c.times-2.result = omega (arith, ints, c.sum-mapped.ensures, c.times.type_inv, c.times-2.type_inv) in
    let fits : FitsSigned w128 c.sum-mapped.result = search rules in (
      subst (λ (n : ℕ). n ≤ 10 ^ 30) c.unsigned_abs.ensures.value c.if-unsigned_abs-gt-MAX_UNITS.false,
      to_z-of_z w128 c.sum-mapped.result fits ∙ total ∙ ap (λ z. z +ℤ c.times-2.result) product ∙ ap (λ z. (c.args.units *ℤ c.args.scale) +ℤ z) shift,
    )

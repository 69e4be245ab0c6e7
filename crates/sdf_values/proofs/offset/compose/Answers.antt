use Rattle.std.proofs.Common.{◌≡◌, ◌≤◌, ◌*◌, ap, sym, ◌∙◌, subst, arith, rules, to_z, of_z, w64}
use Rattle.std.specs.Prelude.{ℤ, pos, ◌+ℤ◌, ◌*ℤ◌, ◌≤ℤ◌, unsigned_abs, FitsSigned}
use Rattle.std.specs.Int.{w128}
use Rattle.std.proofs.lemmas.Int.{ints, to_z-of_z}
use Rattle.sdf_values.proofs.Offsets.{same_offsets}
use Rattle.sdf_values.specs.Scales.{Offset, composed}
use Rattle.sdf_values.proofs.offset.compose.Goals as goal
use Rattle.sdf_values.proofs.offset.compose.Goals.{then-scale-gt1000000-via-then-scale-gt1000000, then-scale-gt1000000-via-else-scale-gt1000000+then-unsigned_abs-gt1000000000}

pub returns-clause-composed : goal.returns-clause-composed
returns-clause-composed c =
    let inner : Offset = record { offset = c.args.offset; scale = c.args.scale } in
    let outer : Offset = record { offset = c.args.outer_offset; scale = c.args.outer_scale } in
    let unit : pos c.unit_of-unit.result ≡ c.args.outer_scale = sym c.unit_of-unit.ensures.same ∙ to_z-of_z w64 c.args.outer_scale c.ranges.outer_scale in
    let plain : to_z w128 (of_z w128 (to_z w64 (of_z w64 c.args.offset))) ≡ c.args.offset = omega (arith, ints) in
    let product : c.times.result ≡ c.args.offset *ℤ c.args.outer_scale =
    c.times.ensures.product ∙ ap (λ z. z *ℤ pos c.unit_of-unit.result) plain ∙ ap (λ z. c.args.offset *ℤ z) unit in
    let total : c.sum-offset.result ≡ c.times.result +ℤ c.args.outer_offset = omega (arith, ints, c.sum-offset.ensures, c.times.type_inv) in
    let offset : c.offset_of.result.offset ≡ c.sum-offset.result = omega (arith, ints, c.offset_of.ensures.offset, c.sum-offset.type_inv) in
    let own : pos c.unit_of.result ≡ c.args.scale = sym c.unit_of.ensures.same ∙ to_z-of_z w64 c.args.scale c.ranges.scale in (
      c.offset_of.ensures.valid,
      same_offsets c.offset_of.result (composed inner outer)
          (offset ∙ total ∙ ap (λ z. z +ℤ c.args.outer_offset) product)
          (c.offset_of.ensures.scale ∙ ap (λ z. z *ℤ pos c.unit_of-unit.result) own ∙ ap (λ z. c.args.scale *ℤ z) unit),
    )

pub returns-then-scale-gt1000000-clause-refused : goal.returns-then-scale-gt1000000-clause-refused
returns-then-scale-gt1000000-clause-refused c _ is =
    let unit : pos c.unit_of-unit.result ≡ c.args.outer_scale = sym c.unit_of-unit.ensures.same ∙ to_z-of_z w64 c.args.outer_scale c.ranges.outer_scale in
    let plain : to_z w128 (of_z w128 (to_z w64 (of_z w64 c.args.offset))) ≡ c.args.offset = omega (arith, ints) in
    let product : c.times.result ≡ c.args.offset *ℤ c.args.outer_scale =
    c.times.ensures.product ∙ ap (λ z. z *ℤ pos c.unit_of-unit.result) plain ∙ ap (λ z. c.args.offset *ℤ z) unit in
    let total : c.sum-offset.result ≡ c.times.result +ℤ c.args.outer_offset = omega (arith, ints, c.sum-offset.ensures, c.times.type_inv) in
    let own : pos c.unit_of.result ≡ c.args.scale = sym c.unit_of.ensures.same ∙ to_z-of_z w64 c.args.scale c.ranges.scale in
    let scale : c.args.scale *ℤ c.args.outer_scale ≡ pos (c.unit_of.result * c.unit_of-unit.result) =
    ap (λ z. z *ℤ c.args.outer_scale) (sym own) ∙ ap (λ z. pos c.unit_of.result *ℤ z) (sym unit) in
    let within : unsigned_abs c.sum-offset.result ≤ 1000000000 =
    subst (λ (z : ℤ). unsigned_abs z ≤ 1000000000) (sym (total ∙ ap (λ z. z +ℤ c.args.outer_offset) product)) is.offset_within in
    let most : pos (c.unit_of.result * c.unit_of-unit.result) ≤ℤ pos 1000000 = subst (λ (z : ℤ). z ≤ℤ pos 1000000) scale is.scale_most in
    let fits : FitsSigned w128 c.sum-offset.result = search rules in
    elim c.then-scale-gt1000000.branch [
      | then-scale-gt1000000-via-then-scale-gt1000000 w ↦ absurd (omega (arith, ints, most, w.if-scale-gt1000000.true))
      | then-scale-gt1000000-via-else-scale-gt1000000+then-unsigned_abs-gt1000000000 w ↦
          (let size : w.unsigned_abs.result ≡ unsigned_abs c.sum-offset.result = w.unsigned_abs.ensures.value ∙ ap unsigned_abs (to_z-of_z w128 c.sum-offset.result fits) in
          absurd (omega (arith, within, size, w.if-unsigned_abs-gt1000000000.true)))
    ]

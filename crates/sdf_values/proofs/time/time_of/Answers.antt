use Rattle.std.proofs.Common.{ℕ, ◌≡◌, ◌<◌, ◌≤◌, ◌^◌, ◌/◌, arith, rules, sym, ap, ◌∙◌, subst, of_z}
use Rattle.std.specs.Prelude.{ℤ, pos, negsuc, ◌+ℤ◌, ◌*ℤ◌, unsigned_abs, ◌≤ℤ◌, FitsSigned}
use Rattle.std.specs.Int.{w128}
use Rattle.std.proofs.lemmas.Int.{ints, to_z-of_z}
use Rattle.sdf_values.specs.Numbers.{DecimalNumber}
use Rattle.sdf_values.specs.Scales.{IsTime, IsTimeOf}
use Rattle.sdf_values.proofs.Times.{is_time, one_time, no_time, past_time, large_time, below_units, above_units, fits_units}
use Rattle.sdf_values.proofs.time.time_of.Goals as goal
use Rattle.sdf_values.proofs.time.time_of.Goals.{then-exp-ltminus18-via-then-exp-ltminus18, then-exp-ltminus18-via-else-exp-ltminus18+then-exp-gt12}

pub returns-then-exp-ltminus18-clause-refused : goal.returns-then-exp-ltminus18-clause-refused
returns-then-exp-ltminus18-clause-refused c _ t within same =
    let d : DecimalNumber = record { digits = c.args.digits; exp = c.args.exp } in
    let some = λ (e : c.args.digits ≡ pos 0). c.if-digits-eq0.false (ap (of_z w128) e) in
    elim c.then-exp-ltminus18.branch [
      | then-exp-ltminus18-via-then-exp-ltminus18 w ↦ (let low : c.args.exp ≤ℤ negsuc 18 = omega (arith, ints) in
          let n = below_units c.args.exp low in no_time d n.0 t c.requires some n.1 same)
      | then-exp-ltminus18-via-else-exp-ltminus18+then-exp-gt12 w ↦ (let high : pos 13 ≤ℤ c.args.exp = omega (arith, ints) in
          let k = above_units c.args.exp high in past_time d k.0 t some k.1.0 k.1.1 same within)
    ]

pub returns-then-unsigned_abs-unit-clause-refused : goal.returns-then-unsigned_abs-unit-clause-refused
returns-then-unsigned_abs-unit-clause-refused c _ t within same =
    let d : DecimalNumber = record { digits = c.args.digits; exp = c.args.exp } in
    let at : c.args.exp ≡ negsuc 17 +ℤ pos c.places.result = omega (arith, ints, c.places.ensures.above) in
    let size : c.unsigned_abs.result ≡ unsigned_abs c.args.digits = c.unsigned_abs.ensures.value ∙ ap unsigned_abs (to_z-of_z w128 c.args.digits c.ranges.digits) in
    let large : 10 ^ 30 / 10 ^ c.places.result < unsigned_abs c.args.digits =
    subst (λ (u : ℕ). 10 ^ 30 / u < unsigned_abs c.args.digits) c.ten_to-unit.ensures.value
    (subst (λ (n : ℕ). 10 ^ 30 / c.ten_to-unit.result < n) size c.if-unsigned_abs-unit.true) in
    large_time d c.places.result t at large same within

pub invariant_of-result-2 : goal.invariant_of-result-2
invariant_of-result-2 c =
    let size : c.unsigned_abs.result ≡ unsigned_abs c.args.digits = c.unsigned_abs.ensures.value ∙ ap unsigned_abs (to_z-of_z w128 c.args.digits c.ranges.digits) in
    let unit : c.ten_to-unit.result ≡ 10 ^ c.places.result = c.ten_to-unit.ensures.value in
    let units : c.times-units.result ≡ c.args.digits *ℤ pos (10 ^ c.places.result) =
    c.times-units.ensures.product ∙ ap (λ z. z *ℤ pos c.ten_to-unit.result) (to_z-of_z w128 c.args.digits c.ranges.digits) ∙ ap (λ u. c.args.digits *ℤ pos u) unit in
    let small : unsigned_abs c.args.digits ≤ 10 ^ 30 / 10 ^ c.places.result =
    subst (λ (u : ℕ). unsigned_abs c.args.digits ≤ 10 ^ 30 / u) unit (subst (λ (n : ℕ). n ≤ 10 ^ 30 / c.ten_to-unit.result) size c.if-unsigned_abs-unit.false) in
    let fits : FitsSigned w128 c.times-units.result = search rules in
    subst (λ (z : ℤ). IsTime z) (sym (to_z-of_z w128 c.times-units.result fits)) (subst (λ (z : ℤ). IsTime z) (sym units) (fits_units c.args.digits c.places.result small))

pub returns-clause-time : goal.returns-clause-time
returns-clause-time c =
    let d : DecimalNumber = record { digits = c.args.digits; exp = c.args.exp } in
    let at : c.args.exp ≡ negsuc 17 +ℤ pos c.places.result = omega (arith, ints, c.places.ensures.above) in
    let unit : c.ten_to-unit.result ≡ 10 ^ c.places.result = c.ten_to-unit.ensures.value in
    let units : c.times-units.result ≡ c.args.digits *ℤ pos (10 ^ c.places.result) =
    c.times-units.ensures.product ∙ ap (λ z. z *ℤ pos c.ten_to-unit.result) (to_z-of_z w128 c.args.digits c.ranges.digits) ∙ ap (λ u. c.args.digits *ℤ pos u) unit in
    let fits : FitsSigned w128 c.times-units.result = search rules in
    (invariant_of-result-2 c, subst (λ (z : ℤ). IsTimeOf d z) (sym (to_z-of_z w128 c.times-units.result fits ∙ units)) (is_time d c.places.result at))

pub returns-clause-only : goal.returns-clause-only
returns-clause-only c u same = one_time (record { digits = c.args.digits; exp = c.args.exp }) _ u (returns-clause-time c).1 same

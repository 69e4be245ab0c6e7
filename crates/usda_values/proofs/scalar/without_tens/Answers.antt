use Rattle.std.proofs.Common.{◌≡◌, ◌∙◌, ◌-◌, ◌+◌, ◌/◌, ap, sym, arith}
use Rattle.usda_values.specs.Scalars.{stripped}
use Rattle.usda_values.proofs.Tens.{stripped_step}
use Rattle.usda_values.proofs.scalar.without_tens.Goals as goal

pub loop-tens-preserved : goal.loop-tens-preserved
loop-tens-preserved c =
    ap (λ k. stripped k (c.loop-tens.digits / 10) (c.loop-tens.tens + 1)) (let f : 39 - (c.loop-tens.tens + 1) ≡ 39 - c.loop-tens.tens - 1 = omega arith in f)
    ∙ sym (stripped_step (39 - c.loop-tens.tens) c.loop-tens.digits c.loop-tens.tens (omega (arith, c.loop-tens-test.true)) c.if-digits-ne0.false) ∙ c.loop-tens.invariant

use Rattle.std.proofs.Common.{ℕ, ◌≡◌, ◌<◌, ◌-◌, ◌+◌, ◌%◌, ◌/◌, ◌^◌, ◌++◌, ap, sym, ◌∙◌, arith, subst, append-nil, string_bytes}
use Rattle.std.specs.Fmt.{decimal}
use Rattle.sdf_values.specs.Print.{fraction_digits}
use Rattle.sdf_values.proofs.Fractions.{no_fraction, fraction_step, rest_below, left_some}
use Rattle.sdf_values.proofs.numeral.push_fraction.Goals as goal

pub loop-rest-preserved : goal.loop-rest-preserved
loop-rest-preserved c =
    let some : 0 < c.loop-rest.rest = omega (arith, c.loop-rest-test.true) in
    let up : c.loop-rest.left ≡ c.loop-rest.left - 1 + 1 = left_some c.loop-rest.left c.loop-rest.rest some c.loop-rest.invariant.below in
    let unit : c.ten_to-unit.result ≡ 10 ^ (c.loop-rest.left - 1) = c.ten_to-unit.ensures.value in
    record {
      few = omega arith;
      below = subst (λ (u : ℕ). c.loop-rest.rest % u < 10 ^ (c.loop-rest.left - 1)) (sym unit) (rest_below c.loop-rest.rest (c.loop-rest.left - 1));
      text =
          ap (λ b. b ++ fraction_digits (c.loop-rest.left - 1) (c.loop-rest.rest % c.ten_to-unit.result)) c.in_ok-write.ensures.bytes
          ∙ ap (λ u. (string_bytes c.loop-rest.out ++ decimal (c.loop-rest.rest / u)) ++ fraction_digits (c.loop-rest.left - 1) (c.loop-rest.rest % u)) unit
          ∙ fraction_step (c.loop-rest.left - 1) c.loop-rest.left c.loop-rest.rest (string_bytes c.loop-rest.out) up some c.loop-rest.invariant.below
          ∙ c.loop-rest.invariant.text;
    }

pub returns : goal.returns
returns c = sym (ap (λ f. string_bytes c.loop-rest.out ++ f) (ap (λ r. fraction_digits c.loop-rest.left r) c.loop-rest-test.false ∙ no_fraction c.loop-rest.left) ∙ append-nil (string_bytes c.loop-rest.out)) ∙ c.loop-rest.invariant.text

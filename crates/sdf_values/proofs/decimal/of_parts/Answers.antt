use Rattle.std.proofs.Common.{◌≡◌, arith}
use Rattle.std.specs.Prelude.{negsuc, pos, ◌≤ℤ◌, ◌+ℤ◌}
use Rattle.std.proofs.lemmas.Int.{ints}
use Rattle.sdf_values.specs.Numbers.{zero_number}
use Rattle.sdf_values.proofs.Parts.{as_ok, long_none, zero_all, far_none, near_all}
use Rattle.sdf_values.proofs.decimal.of_parts.Goals as goal
use Rattle.sdf_values.proofs.decimal.of_parts.Goals.{then-exp-ltminus400-via-then-exp-ltminus400, then-exp-ltminus400-via-else-exp-ltminus400+then-exp-gt400}

pub returns-then-kept-clause-read : goal.returns-then-kept-clause-read
returns-then-kept-clause-read c n e keeps near d =
    (λ h. absurd cc, λ h. absurd (long_none c.args.negative c.args.kept n e d c.if-kept.true keeps h))

pub returns-then-kept-eq0-clause-read : goal.returns-then-kept-eq0-clause-read
returns-then-kept-eq0-clause-read c n e keeps near d =
    as_ok zero_number d (zero_all c.args.negative c.args.kept n e d c.if-kept.false c.if-kept-eq0.true keeps)

pub returns-then-exp-ltminus400-clause-read : goal.returns-then-exp-ltminus400-clause-read
returns-then-exp-ltminus400-clause-read c n e keeps near d =
    let sum : c.raised-exp.result ≡ c.args.exponent +ℤ pos c.args.kept.zeros = omega (arith, ints, c.raised-exp.ensures) in (
      λ h. absurd cc,
      λ h.
          (let within : (negsuc 399 ≤ℤ c.raised-exp.result) × (c.raised-exp.result ≤ℤ pos 400) =
          far_none c.args.negative c.args.kept c.args.exponent c.raised-exp.result n e d c.if-kept.false c.if-kept-eq0.false c.requires.room sum keeps near h in
          absurd (elim c.then-exp-ltminus400.branch [
            | then-exp-ltminus400-via-then-exp-ltminus400 w ↦ omega (arith, ints, within)
            | then-exp-ltminus400-via-else-exp-ltminus400+then-exp-gt400 w ↦ omega (arith, ints, within)
          ])),
    )

pub returns-clause-read : goal.returns-clause-read
returns-clause-read c n e keeps near d =
    let sum : c.raised-exp.result ≡ c.args.exponent +ℤ pos c.args.kept.zeros = omega (arith, ints, c.raised-exp.ensures) in
    let exp_is : c.decimal_of.result.exp ≡ c.raised-exp.result = omega (arith, ints, c.decimal_of.ensures.exp, c.raised-exp.type_inv) in
    as_ok c.decimal_of.result d (near_all c.args.negative c.args.kept c.args.exponent c.raised-exp.result c.decimal_of.result n e d c.if-kept.false c.if-kept-eq0.false c.requires.room sum
    c.decimal_of.ensures.valid c.decimal_of.ensures.digits exp_is keeps near)

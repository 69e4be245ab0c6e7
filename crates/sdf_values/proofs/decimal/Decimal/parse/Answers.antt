use Rattle.std.proofs.Common.{ℕ, ◌≡◌, subst, ap, Err, List}
use Rattle.sdf_values.specs.declared.decimal.NumberFault.TheVariants.{BadNumber}
use Rattle.sdf_values.specs.NumberTexts.{FailsAt}
use Rattle.sdf_values.proofs.Texts.{one_fault}
use Rattle.sdf_values.proofs.decimal.Decimal.parse.Goals as goal

pub returns-in-Some-clause-bad : goal.returns-in-Some-clause-bad
returns-in-Some-clause-bad c at =
    let here : FailsAt c.args.text.now c.in-Some.at = subst (λ (t : List ℕ). FailsAt t c.in-Some.at) c.as_bytes-bytes.ensures.value c.in-Some.ensures in (
      λ h. (let same : c.in-Some.at ≡ at = cc h in subst (λ (n : ℕ). FailsAt c.args.text.now n) same here),
      λ h. ap (λ n. Err (BadNumber n)) (one_fault c.args.text.now c.in-Some.at at here h),
    )

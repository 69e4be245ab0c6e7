use Rattle.sdf_values.proofs.Digits.{past_zeros}
use Rattle.sdf_values.proofs.parse.with_last_digit.Goals as goal

pub returns-then-zeros-gt33-clause-long : goal.returns-then-zeros-gt33-clause-long
returns-then-zeros-gt33-clause-long c _ = past_zeros c.args.digits c.args.zeros c.args.digit c.requires.some c.if-zeros-gt33.true

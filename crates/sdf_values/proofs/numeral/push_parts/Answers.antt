use Rattle.sdf_values.proofs.Printed.{printed_writes}
use Rattle.sdf_values.proofs.numeral.push_parts.Goals as goal

pub returns-in_err-push_sign-clause-read : goal.returns-in_err-push_sign-clause-read
returns-in_err-push_sign-clause-read c = printed_writes (record { digits = c.args.digits; exp = c.args.exp }) c.requires

pub returns-then-exp-lt0-clause-read : goal.returns-then-exp-lt0-clause-read
returns-then-exp-lt0-clause-read c = printed_writes (record { digits = c.args.digits; exp = c.args.exp }) c.requires

pub returns-else-exp-lt0-clause-read : goal.returns-else-exp-lt0-clause-read
returns-else-exp-lt0-clause-read c = printed_writes (record { digits = c.args.digits; exp = c.args.exp }) c.requires

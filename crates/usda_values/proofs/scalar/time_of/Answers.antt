use Rattle.std.proofs.Common.{sym, subst, refl}
use Rattle.sdf_values.specs.Numbers.{IsDecimal}
use Rattle.usda_values.proofs.TimeLaw.{time_found, time_none}
use Rattle.usda_values.proofs.scalar.time_of.Goals as goal

pub returns-in-Ok : goal.returns-in-Ok
returns-in-Ok c = sym (time_found c.args.d c.in-Ok.time (subst IsDecimal c.d.view_is c.d.invariant) c.in-Ok.ensures.time.0 c.in-Ok.ensures.time.1)

pub returns-in-Err : goal.returns-in-Err
returns-in-Err c = sym (time_none c.args.d (subst IsDecimal c.d.view_is c.d.invariant) (c.in-Err.ensures.refused refl))

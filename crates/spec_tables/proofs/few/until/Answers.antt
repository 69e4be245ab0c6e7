use Rattle.spec_tables.proofs.Places.{until_found, until_missed}
use Rattle.spec_tables.proofs.few.until.Goals as goal

pub returns-in-Ok : goal.returns-in-Ok
returns-in-Ok g c = λ s. until_found g.met.K.Ord.total c.args.key.now c.args.entries.now c.in-Ok.i s (c.in-Ok.ensures.place s)

pub returns-in-Err : goal.returns-in-Err
returns-in-Err g c = λ s. until_missed g.K.Ord.cmp c.args.key.now c.args.entries.now c.in-Err.i (c.in-Err.ensures.place s)

use Rattle.spec_tables.proofs.Places.{from_found, from_missed}
use Rattle.spec_tables.proofs.few.from.Goals as goal

pub returns-in-Ok-clause-rest : goal.returns-in-Ok-clause-rest
returns-in-Ok-clause-rest g c = λ s. from_found g.met.K.Ord.total c.args.key.now c.args.entries.now c.in-Ok.i s (c.in-Ok.ensures.place s)

pub returns-in-Err-clause-rest : goal.returns-in-Err-clause-rest
returns-in-Err-clause-rest g c = λ s. from_missed g.K.Ord.cmp c.args.key.now c.args.entries.now c.in-Err.i (c.in-Err.ensures.place s)

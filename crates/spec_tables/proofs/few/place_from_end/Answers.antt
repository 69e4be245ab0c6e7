use Rattle.std.proofs.Common.{sym}
use Rattle.spec_tables.proofs.Places.{past_last}
use Rattle.spec_tables.proofs.few.place_from_end.Goals as goal

pub returns-in-Greater-clause-place : goal.returns-in-Greater-clause-place
returns-in-Greater-clause-place g c = λ s.
    past_last g.met.K.Ord.total c.args.key.now c.args.entries.now c.in-Some.field-0-1.now c.in-Some.last.now s c.in-Some.ensures.cases.0 (sym c.in-Greater.ensures)

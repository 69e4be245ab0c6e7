use Rattle.std.specs.Map.Iter.{deref_pair}
use Rattle.spec_tables.proofs.Runs.{shows_in_order}
use Rattle.spec_tables.proofs.table.OrderedTable.iter.Goals as goal

pub returns-clause-runs : goal.returns-clause-runs
returns-clause-runs g c = shows_in_order deref_pair

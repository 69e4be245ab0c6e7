use Rattle.std.proofs.Common.{◌≡◌, take}
use Rattle.std.specs.BTreeSet.{contains}
use Rattle.dependency_table.specs.Tables.{is_listed}
use Rattle.dependency_table.proofs.collect.all_keys.Given as goal

abbrev pub invariant-loop-key : goal.invariant-loop-key
invariant-loop-key g l = (k : g.row.K.Denot) → contains g.K.Ord.cmp l.set k ≡ is_listed g.K.Ord.cmp (take l.key-index l.keys) k

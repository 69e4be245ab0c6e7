use Rattle.std.proofs.Common.{◌≡◌, ◌&&◌, not, take}
use Rattle.dependency_table.specs.Tables.{is_listed, is_noted}
use Rattle.dependency_table.proofs.links.new_keys.Given as goal

abbrev pub invariant-loop-key : goal.invariant-loop-key
invariant-loop-key g l = (k : g.row.K.Denot) → is_listed g.K.Ord.cmp l.fresh k ≡ (is_listed g.K.Ord.cmp (take l.key-index l.keys) k && not (is_noted g.P.Ord.cmp g.K.Ord.cmp l.readers k l.place))

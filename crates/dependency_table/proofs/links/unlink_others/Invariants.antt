use Rattle.std.proofs.Common.{◌≡◌, ◌&&◌, not, take}
use Rattle.std.specs.BTreeMap.{is_at}
use Rattle.std.specs.BTreeSet.{contains}
use Rattle.dependency_table.specs.Tables.{is_listed, is_noted}
use Rattle.dependency_table.proofs.links.unlink_others.Given as goal

abbrev pub invariant-loop-key : goal.invariant-loop-key
invariant-loop-key g l = (k : g.row.K.Denot) (p : g.row.P.Denot) → is_noted g.P.Ord.cmp g.K.Ord.cmp l.readers k p
    ≡ (is_noted g.P.Ord.cmp g.K.Ord.cmp l.fn.readers k p && not (is_listed g.K.Ord.cmp (take l.key-index l.keys) k && not (contains g.K.Ord.cmp l.wanted k) && is_at (g.P.Ord.cmp p) l.place))

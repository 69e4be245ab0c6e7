use Rattle.std.proofs.Common.{◌≡◌, take}
use Rattle.std.specs.BTreeMap.{get}
use Rattle.list_ops.specs.ListEdits.{contains}
use Rattle.composition.specs.Fields.{or_else}
use Rattle.arc_expand.specs.Authors.{only}
use Rattle.arc_expand.proofs.authors.note_all.Given as goal

abbrev pub invariant-loop-key : goal.invariant-loop-key
invariant-loop-key g l =
    (q : g.row.K.Denot) → get g.K.Ord.cmp l.table q ≡ or_else (get g.K.Ord.cmp l.initial.table q) (only (contains g.K.PartialEq.eq (take l.key-index l.keys) q) l.value)

use Rattle.std.specs.BTreeMap.{get}
use Rattle.arc_expand.proofs.Noting.{noted_none, noted_more}
use Rattle.arc_expand.proofs.authors.note_all.Goals as goal

pub loop-key-init : goal.loop-key-init
loop-key-init g c = noted_none g.K.PartialEq.eq g.met.K.ExactEq.equal_is_same (get g.K.Ord.cmp c.args.table.now) c.args.value.now

pub loop-key-preserved : goal.loop-key-preserved
loop-key-preserved g c =
    noted_more g.K.PartialEq.eq g.met.K.ExactEq.equal_is_same (get g.K.Ord.cmp c.args.table.now) (get g.K.Ord.cmp c.loop-key.table) (get g.K.Ord.cmp c.note.new.table)
    c.args.keys.now c.args.value.now c.loop-key.key-index c.key-item.result c.loop-key-test.true c.key-item.is c.in_ok-note.ensures c.loop-key.invariant

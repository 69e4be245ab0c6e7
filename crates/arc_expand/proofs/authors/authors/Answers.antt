use Rattle.std.specs.BTreeMap.{get}
use Rattle.arc_expand.specs.ItemOrder.{item_cmp}
use Rattle.arc_expand.proofs.Noting.{author_more}
use Rattle.arc_expand.proofs.authors.authors.Goals as goal

pub loop-edit-preserved : goal.loop-edit-preserved
loop-edit-preserved c =
    author_more (get item_cmp c.loop-edit.table) (get item_cmp c.note_edit.new.table) c.args.edits.now c.loop-edit.edit-index c.edit-item.result
    c.loop-edit-test.true c.edit-item.is c.in_ok-note_edit.ensures c.loop-edit.invariant

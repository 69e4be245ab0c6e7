use Rattle.std.proofs.Common.{◌≡◌, take}
use Rattle.std.specs.BTreeMap.{get}
use Rattle.composition.specs.Arcs.{Item}
use Rattle.arc_expand.specs.Authors.{author_in}
use Rattle.arc_expand.specs.ItemOrder.{item_cmp}
use Rattle.arc_expand.proofs.authors.authors.Given as goal

abbrev pub invariant-loop-edit : goal.invariant-loop-edit
invariant-loop-edit l = (x : Item) → get item_cmp l.table x ≡ author_in (take l.edit-index l.edits) x

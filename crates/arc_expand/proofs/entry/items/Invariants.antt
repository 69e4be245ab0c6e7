use Rattle.std.proofs.Common.{◌≡◌, map, take}
use Rattle.arc_expand.proofs.entry.items.Given as goal

abbrev pub invariant-loop-entry : goal.invariant-loop-entry
invariant-loop-entry g l = l.items ≡ map (g.T.Entry.item_of l.layer l.offset) (take l.entry-index l.entry-items)

use Rattle.std.proofs.Common.{◌≡◌, map, take}
use Rattle.prim_trees.specs.Meant.{meant}
use Rattle.site_order.specs.Entries.{entries}
use Rattle.site_order.proofs.order.trees_of.Given as goal

abbrev pub invariant-loop-entry : goal.invariant-loop-entry
invariant-loop-entry l = map (λ t. meant t.now) l.trees.items ≡ map (λ e. e.0) (entries (take l.entry-index l.ranked))

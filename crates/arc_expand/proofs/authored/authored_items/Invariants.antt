use Rattle.std.proofs.Common.{◌≡◌, map, take}
use Rattle.std.specs.BTreeMap.{get}
use Rattle.layer_set.specs.LookUps.{look_ups}
use Rattle.arc_expand.specs.Authoring.{authored_by}
use Rattle.arc_expand.specs.ItemOrder.{item_cmp}
use Rattle.arc_expand.proofs.authored.authored_items.Given as goal

abbrev pub invariant-loop-item : goal.invariant-loop-item
invariant-loop-item l = l.all ≡ map (authored_by (look_ups l.world) l.stack.name (get item_cmp l.authors)) (take l.item-index l.items)

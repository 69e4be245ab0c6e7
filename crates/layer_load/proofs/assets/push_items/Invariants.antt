use Rattle.std.proofs.Common.{◌≡◌, ◌++◌, drop}
use Rattle.layer_load.specs.Assets.{assets_of_items}
use Rattle.layer_load.proofs.assets.push_items.Given as goal

abbrev pub invariant-loop-item : goal.invariant-loop-item
invariant-loop-item l = l.out ++ assets_of_items (drop l.item-index l.items) ≡ l.fn.out ++ assets_of_items l.items

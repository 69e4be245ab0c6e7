use Rattle.std.proofs.Common.{◌≡◌, ◌++◌, drop, string_bytes}
use Rattle.usda_writer.specs.Texts.{listed, listed_from}
use Rattle.usda_writer.proofs.lists.push_items.Given as goal

abbrev pub invariant-loop-item : goal.invariant-loop-item
invariant-loop-item g l = string_bytes l.out ++ listed_from l.is_first g.T.Item.text (drop l.item-index l.items) ≡ string_bytes l.fn.out ++ listed g.T.Item.text l.items

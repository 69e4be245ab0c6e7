use Rattle.std.proofs.Common.{◌≡◌, drop}
use Rattle.std.specs.List.{list_any}
use Rattle.site_order.specs.Ranks.{is_class_there}
use Rattle.site_order.proofs.ranks.any_class_there.Given as goal

abbrev pub invariant-loop-child : goal.invariant-loop-child
invariant-loop-child l = list_any (is_class_there l.node) (drop l.child-index l.children) ≡ list_any (is_class_there l.node) l.children

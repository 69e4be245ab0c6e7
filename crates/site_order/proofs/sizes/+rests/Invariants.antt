use Rattle.std.proofs.Common.{◌≡◌, drop}
use Rattle.std.specs.List.{list_any}
use Rattle.site_order.specs.Sizes.{child_rests}
use Rattle.site_order.proofs.sizes.+rests.Given as goal

abbrev pub invariant-any_rests-loop-child : goal.invariant-any_rests-loop-child
invariant-any_rests-loop-child l = list_any child_rests (drop l.child-index l.children) ≡ list_any child_rests l.children

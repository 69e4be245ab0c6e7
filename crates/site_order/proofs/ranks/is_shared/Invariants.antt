use Rattle.std.proofs.Common.{◌≡◌, drop}
use Rattle.std.specs.List.{list_any}
use Rattle.site_order.specs.Ranks.{shares}
use Rattle.site_order.proofs.ranks.is_shared.Given as goal

abbrev pub invariant-loop-child : goal.invariant-loop-child
invariant-loop-child l = list_any (shares l.node) (drop l.child-index l.siblings) ≡ list_any (shares l.node) l.siblings

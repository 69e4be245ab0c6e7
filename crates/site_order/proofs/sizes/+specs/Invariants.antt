use Rattle.std.proofs.Common.{◌≡◌, drop}
use Rattle.std.specs.List.{list_any}
use Rattle.site_order.specs.Sizes.{child_has_spec}
use Rattle.site_order.proofs.sizes.+specs.Given as goal

abbrev pub invariant-has_spec_among-loop-child : goal.invariant-has_spec_among-loop-child
invariant-has_spec_among-loop-child l = list_any child_has_spec (drop l.child-index l.children) ≡ list_any child_has_spec l.children

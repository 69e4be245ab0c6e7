use Rattle.std.proofs.Common.{◌≡◌, drop}
use Rattle.composition.specs.Trees.{is_overgrown_among}
use Rattle.prim_trees.specs.Meant.{trees_of}
use Rattle.site_order.proofs.sizes.+overgrown.Given as goal

abbrev pub invariant-is_overgrown_among-loop-child : goal.invariant-is_overgrown_among-loop-child
invariant-is_overgrown_among-loop-child l = is_overgrown_among (trees_of (drop l.child-index l.children) l.is_cut) ≡ is_overgrown_among (trees_of l.children l.is_cut)

use Rattle.std.proofs.Common.{◌≡◌, ◌++◌, map, take}
use Rattle.composition.specs.Trees.{variant_branch}
use Rattle.node_branches.proofs.branches.push_variants.Given as goal

abbrev pub invariant-loop-chosen : goal.invariant-loop-chosen
invariant-loop-chosen l = l.out ≡ l.initial.out ++ map (variant_branch l.node) (take l.chosen-index l.variants)

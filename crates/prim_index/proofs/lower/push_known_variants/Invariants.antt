use Rattle.std.proofs.Common.{◌≡◌, ◌++◌, drop}
use Rattle.std.specs.List.{filter_map}
use Rattle.composition.specs.Paths.{limits}
use Rattle.laws_extending.specs.Extending.{chosen_below}
use Rattle.prim_index.proofs.lower.push_known_variants.Given as goal

abbrev pub invariant-loop-chosen : goal.invariant-loop-chosen
invariant-loop-chosen l = l.out ++ filter_map (chosen_below limits l.node) (drop l.chosen-index l.old) ≡ l.fn.out ++ filter_map (chosen_below limits l.node) l.old

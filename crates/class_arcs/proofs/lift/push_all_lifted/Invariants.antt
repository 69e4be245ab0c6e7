use Rattle.std.proofs.Common.{◌≡◌, ◌++◌, drop}
use Rattle.std.specs.Prelude.{filter_map}
use Rattle.composition.specs.Paths.{limits}
use Rattle.composition.specs.Trees.{lifted_class}
use Rattle.class_arcs.proofs.lift.push_all_lifted.Given as goal

abbrev pub invariant-loop-class : goal.invariant-loop-class
invariant-loop-class l =
    l.out ++ filter_map (lifted_class limits l.branch l.author) (drop l.class-index l.classes) ≡ l.fn.out ++ filter_map (lifted_class limits l.branch l.author) l.classes

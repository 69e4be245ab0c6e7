use Rattle.std.proofs.Common.{◌≡◌, map}
use Rattle.composition.specs.Paths.{up, below}
use Rattle.layer_set.specs.LookUps.{look_ups}
use Rattle.arc_expand.specs.Authoring.{opinions}
use Rattle.prim_index.proofs.reading.said_at_levels.Given as goal

abbrev pub invariant-loop-level : goal.invariant-loop-level
invariant-loop-level l = record {
  said : l.all ≡ map (λ j. (j, opinions (look_ups l.world) l.stack.name (up l.path j))) (below l.level);
  author : l.author ≡ up l.path l.level;
}

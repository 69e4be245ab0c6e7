use Rattle.std.proofs.Common.{◌≡◌}
use Rattle.layer_set.specs.LookUps.{look_ups}
use Rattle.layer_stack.specs.Visiting.{visited, steps, chain_of, Marked}
use Rattle.layer_stack.proofs.walk.Walk.list_from.Given as goal

abbrev pub invariant-loop-frame : goal.invariant-loop-frame
invariant-loop-frame l = record {
  stack : visited (look_ups l.world) l.most l.self.frames l.self.draft ≡ visited (look_ups l.world) l.most l.initial.self.frames l.initial.self.draft;
  marked : Marked l.self.marks (chain_of l.self.frames) l.self.draft.layers;
}

abbrev pub decreases-loop-frame : goal.decreases-loop-frame
decreases-loop-frame l = steps (look_ups l.world) l.most l.self.frames l.self.draft

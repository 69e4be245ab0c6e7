use Rattle.std.proofs.Common.{◌≡◌, map, take}
use Rattle.arc_expand.proofs.edits.without_layers.Given as goal

abbrev pub invariant-loop-edit : goal.invariant-loop-edit
invariant-loop-edit l = l.all.items ≡ map (λ e. e.1) (take l.edit-index l.edits)

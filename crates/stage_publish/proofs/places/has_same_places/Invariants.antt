use Rattle.std.proofs.Common.{◌≡◌, map, take}
use Rattle.stage_publish.proofs.places.has_same_places.Given as goal

abbrev pub invariant-loop-i : goal.invariant-loop-i
invariant-loop-i g l = map (λ e. e.0) (take l.i l.items) ≡ map (λ e. e.0) (take l.i l.others)

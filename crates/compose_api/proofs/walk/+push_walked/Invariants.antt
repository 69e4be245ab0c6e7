use Rattle.std.proofs.Common.{◌≡◌, ◌++◌, ◌-◌, take}
use Rattle.std.specs.List.{flat_map}
use Rattle.compose_api.specs.Stage.{walked}
use Rattle.compose_api.proofs.walk.+push_walked.Given as goal

abbrev pub decreases-push_walked : goal.decreases-push_walked
decreases-push_walked g l = l.levels

abbrev pub invariant-loop-i : goal.invariant-loop-i
invariant-loop-i g l = let c = g.C.Composer in
    l.items ≡ l.initial.items ++ flat_map (walked c.entry_of c.listed (l.levels - 1) l.world) (take l.i (c.listed l.fn.place (c.entry_of l.world l.fn.place)))

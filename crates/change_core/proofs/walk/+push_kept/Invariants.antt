use Rattle.std.proofs.Common.{◌≡◌, ◌++◌, ◌-◌, take, Some}
use Rattle.std.specs.List.{flat_map}
use Rattle.compose_api.specs.Stage.{walked}
use Rattle.change_core.specs.Above.{IsAbove}
use Rattle.change_core.proofs.walk.+push_kept.Given as goal

abbrev pub decreases-push_kept : goal.decreases-push_kept
decreases-push_kept g l = l.levels

abbrev pub invariant-loop-i : goal.invariant-loop-i
invariant-loop-i g l = let c = g.C.Composer in
    (l.made.stage ≡ l.initial.made.stage ++ flat_map (walked c.entry_of c.listed (l.levels - 1) l.world) (take l.i (c.listed l.place (c.entry_of l.world l.place))))
    × (l.made.world ≡ l.world) × (l.old.world ≡ l.fn.old.world)
    × IsAbove c.index_of c.reads_of g.C.Key.Ord.cmp l.world l.old.world l.changed l.below × (l.below.place ≡ Some l.place)

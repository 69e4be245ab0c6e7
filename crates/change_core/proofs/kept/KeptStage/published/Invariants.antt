use Rattle.std.proofs.Common.{◌≡◌, take, map}
use Rattle.change_core.specs.Kept.{item_of}
use Rattle.change_core.proofs.kept.KeptStage.published.Given as goal

abbrev pub invariant-loop-kept : goal.invariant-loop-kept
invariant-loop-kept g l = l.items ≡ map item_of (take l.kept-index l.kept-items)

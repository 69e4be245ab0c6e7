use Rattle.std.proofs.Common.{◌≡◌, ◌++◌, drop}
use Rattle.asset_names.specs.Anchoring.{joined, joined_from}
use Rattle.asset_names.proofs.path.push_joined.Given as goal

abbrev pub invariant-loop-segment : goal.invariant-loop-segment
invariant-loop-segment l = l.name ++ joined_from l.is_first (drop l.segment-index l.segments) ≡ l.fn.name ++ joined l.segments

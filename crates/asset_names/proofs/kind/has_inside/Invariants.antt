use Rattle.std.proofs.Common.{◌≡◌, drop}
use Rattle.asset_names.specs.Anchoring.{has_inside}
use Rattle.asset_names.proofs.kind.has_inside.Given as goal

abbrev pub invariant-loop-i : goal.invariant-loop-i
invariant-loop-i l = has_inside l.name l.part ≡ has_inside (drop l.i l.name) l.part

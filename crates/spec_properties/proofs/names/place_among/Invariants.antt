use Rattle.std.proofs.Common.{◌≡◌, drop}
use Rattle.spec_properties.specs.Places.{place_from}
use Rattle.spec_properties.proofs.names.place_among.Given as goal

abbrev pub invariant-loop-i : goal.invariant-loop-i
invariant-loop-i l = place_from l.name l.i (drop l.i l.list) ≡ place_from l.name 0 l.list

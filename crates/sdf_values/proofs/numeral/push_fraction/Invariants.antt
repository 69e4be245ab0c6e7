use Rattle.std.proofs.Common.{◌≡◌, ◌<◌, ◌≤◌, ◌^◌, ◌++◌, string_bytes}
use Rattle.sdf_values.specs.Print.{fraction_digits}
use Rattle.sdf_values.proofs.numeral.push_fraction.Given as goal

abbrev pub invariant-loop-rest : goal.invariant-loop-rest
invariant-loop-rest l = record {
  few : l.left ≤ 34;
  below : l.rest < 10 ^ l.left;
  text : string_bytes l.out ++ fraction_digits l.left l.rest ≡ string_bytes l.fn.out ++ fraction_digits l.fn.places l.fn.rest;
}

abbrev pub decreases-loop-rest : goal.decreases-loop-rest
decreases-loop-rest l = l.left

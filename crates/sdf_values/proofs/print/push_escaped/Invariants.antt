use Rattle.std.proofs.Common.{◌≡◌, ◌≤◌, ◌-◌, ◌++◌, take, drop, string_bytes}
use Rattle.std.specs.Str.{IsCharBoundary}
use Rattle.sdf_values.specs.Print.{escaped}
use Rattle.sdf_values.proofs.print.push_escaped.Given as goal

abbrev pub invariant-loop-i : goal.invariant-loop-i
invariant-loop-i l = record {
  within : l.start ≤ l.i;
  boundary : IsCharBoundary l.text l.start;
  text : string_bytes l.out ++ take (l.i - l.start) (drop l.start l.text) ++ escaped (drop l.i l.text) ≡ string_bytes l.fn.out ++ escaped l.text;
}

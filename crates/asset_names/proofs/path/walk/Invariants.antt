use Rattle.std.proofs.Common.{◌≡◌, ◌≤◌, ◌-◌, take, drop}
use Rattle.std.specs.Prelude.{reverse}
use Rattle.std.specs.Str.{IsCharBoundary}
use Rattle.asset_names.specs.Anchoring.{walk, segments, segments_from}
use Rattle.asset_names.proofs.path.walk.Given as goal

abbrev pub invariant-loop-i : goal.invariant-loop-i
invariant-loop-i l = record {
  within : l.start ≤ l.i;
  boundary : IsCharBoundary l.text l.start;
  walked : walk l.absolute (reverse l.folders.items) (segments_from (take (l.i - l.start) (drop l.start l.text)) (drop l.i l.text)) ≡ walk l.absolute (reverse l.fn.folders.items) (segments l.text);
}

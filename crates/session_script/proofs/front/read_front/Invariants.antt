use Rattle.std.proofs.Common.{◌≡◌, ◌-◌, true, drop, length}
use Rattle.session_script.specs.States.{has_feed, IsScanned}
use Rattle.session_script.specs.Fronts.{Grows}
use Rattle.session_script.specs.Told.{coming, Heeds}
use Rattle.session_script.proofs.front.read_front.Given as goal

abbrev pub invariant-loop-at : goal.invariant-loop-at
invariant-loop-at g l = record {
  scan : IsScanned l.start l.scanned l.bytes.items;
  grows : Grows l.initial.bytes.items l.bytes.items (coming l.initial.ended (g.S.Source.left l.initial.source)) (coming l.ended (g.S.Source.left l.source));
  same : l.ended ≡ l.initial.ended;
  heeds : Heeds l.initial.ended l.ended (g.S.Source.left l.initial.source) (g.S.Source.left l.source);
  quiet : l.initial.ended ≡ true → l.source ≡ l.initial.source;
  held : has_feed (drop l.start l.initial.bytes.items) ≡ true → (l.source ≡ l.initial.source) × (l.bytes.items ≡ l.initial.bytes.items);
  steady : g.S.Source.faults l.source ≡ g.S.Source.faults l.initial.source;
}

abbrev pub decreases-loop-at : goal.decreases-loop-at
decreases-loop-at g l = 16777217 - length l.bytes.items

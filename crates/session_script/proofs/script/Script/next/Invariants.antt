use Rattle.std.proofs.Common.{◌≡◌, ◌-◌, ◌≤◌, true, None}
use Rattle.session_script.specs.Told.{BothTold, coming, Heeds}
use Rattle.session_script.specs.States.{steps_left}
use Rattle.session_script.proofs.Passing.{Passed}
use Rattle.session_script.proofs.script.Script.next.Given as goal

abbrev pub invariant-loop-self : goal.invariant-loop-self
invariant-loop-self g l = record {
  passed : Passed l.initial.self l.self (coming l.initial.self.ended (g.S.Source.left l.initial.source)) (coming l.self.ended (g.S.Source.left l.source));
  heeds : Heeds l.initial.self.ended l.self.ended (g.S.Source.left l.initial.source) (g.S.Source.left l.source);
  quiet : l.initial.self.ended ≡ true → l.source ≡ l.initial.source;
  told : BothTold (coming l.initial.self.ended (g.S.Source.left l.initial.source)) (coming l.self.ended (g.S.Source.left l.source)) (λ a b. steps_left l.self b ≡ steps_left l.initial.self a);
  goes_on : l.self.stopped ≡ None;
  same_line : l.self.line ≡ l.initial.self.line;
  taken : l.initial.self.taken ≤ l.self.taken;
  steady : g.S.Source.faults l.source ≡ g.S.Source.faults l.initial.source;
}

abbrev pub decreases-loop-self : goal.decreases-loop-self
decreases-loop-self g l = 16777216 - l.self.taken

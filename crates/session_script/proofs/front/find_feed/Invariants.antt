use Rattle.std.proofs.Common.{◌≡◌, ◌-◌, take, drop, false}
use Rattle.session_script.specs.States.{has_feed}
use Rattle.session_script.proofs.front.find_feed.Given as goal

abbrev pub invariant-loop-i : goal.invariant-loop-i
invariant-loop-i l = has_feed (take (l.i - l.from) (drop l.from l.bytes)) ≡ false

use Rattle.std.proofs.Common.{◌≡◌}
use Rattle.turn_lock.specs.Seats.{IsSeatOf, IsFree, SameNumbers, number, seen, numbers, own_entries}
use Rattle.turn_writers.specs.Books.{writer, written}
use Rattle.turn_writers.proofs.turns.write.Given as goal

-- so many entries are written
abbrev pub invariant-loop-step : goal.invariant-loop-step
invariant-loop-step g l = IsSeatOf l.desk l.seat × IsFree l.seat × SameNumbers l.fn.seat l.seat × (own_entries writer (numbers l.fn.seat) (seen l.seat) ≡ written (number l.fn.seat) l.step)

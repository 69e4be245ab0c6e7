use Rattle.std.proofs.Common.{◌+◌, ◌*◌}
use Rattle.turn_writers.proofs.many.+fn-write_all-join+arg2+write_all.Given as goal

abbrev pub decreases-join+arg2 : goal.decreases-join+arg2
decreases-join+arg2 g l = 2 * l.seat.spare + 2

abbrev pub decreases-write_all : goal.decreases-write_all
decreases-write_all g l = 2 * l.seat.spare + 1

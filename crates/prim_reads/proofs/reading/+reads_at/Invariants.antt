use Rattle.std.proofs.Common.{length}
use Rattle.prim_reads.proofs.reading.+reads_at.Given as goal

abbrev pub decreases-reads_at : goal.decreases-reads_at
decreases-reads_at l = length l.place.now

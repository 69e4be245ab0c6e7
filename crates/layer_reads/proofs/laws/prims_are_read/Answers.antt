use Rattle.layer_reads.proofs.Prims.{child_read, root_read}
use Rattle.layer_reads.proofs.laws.prims_are_read.Goals as goal

pub returns : goal.returns
returns c = record { child = child_read; root = root_read }

use Rattle.layer_reads.proofs.Specs.{metadata_read, block_read}
use Rattle.layer_reads.proofs.laws.metadata_is_read.Goals as goal

pub returns : goal.returns
returns c = record { items = metadata_read; block = block_read }

use Rattle.layer_reads.proofs.Fields.{strings_read, paths_read, references_read}
use Rattle.layer_reads.proofs.laws.lists_are_read.Goals as goal

pub returns : goal.returns
returns c = record { strings = strings_read; paths = paths_read; references = references_read }

use Rattle.layer_reads.proofs.FieldLists.{strings_taken, paths_taken}
use Rattle.layer_reads.proofs.laws.field_lists_are_taken.Goals as goal

pub returns : goal.returns
returns c = record { strings = strings_taken; paths = paths_taken }

use Rattle.layer_reads.proofs.Keys.{prim_line_taken, first_prim_line_taken, head_line_taken, first_head_line_taken}
use Rattle.layer_reads.proofs.laws.lines_are_taken.Goals as goal

pub returns : goal.returns
returns c = record { first_of_prim = first_prim_line_taken; of_prim = prim_line_taken; first_of_layer = first_head_line_taken; of_layer = head_line_taken }

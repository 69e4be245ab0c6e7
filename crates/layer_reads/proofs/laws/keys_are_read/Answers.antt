use Rattle.layer_reads.proofs.OwnerMeta.{prim_meta, head_meta}
use Rattle.layer_reads.proofs.Selections.{selections_read}
use Rattle.layer_reads.proofs.Sublayers.{sublayers_taken}
use Rattle.layer_reads.proofs.laws.keys_are_read.Goals as goal

pub returns : goal.returns
returns c = record { prim = prim_meta; layer = head_meta; selections = selections_read; sublayers = sublayers_taken }

use Rattle.layer_reads.proofs.Variants.{variant_read, set_read}
use Rattle.layer_reads.proofs.laws.variants_are_read.Goals as goal

pub returns : goal.returns
returns c = record { variant = variant_read; set = set_read }

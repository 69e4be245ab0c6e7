use Rattle.fields_read.proofs.Begun.{owners_begin}
use Rattle.fields_read.proofs.laws.owners_begin_sound.Goals as goal

pub returns : goal.returns
returns c = owners_begin

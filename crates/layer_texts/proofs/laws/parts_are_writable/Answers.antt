use Rattle.layer_texts.proofs.Paths.{path_writable, offset_writable}
use Rattle.layer_texts.proofs.laws.parts_are_writable.Goals as goal

pub returns : goal.returns
returns c = record { path = path_writable; offset = offset_writable }

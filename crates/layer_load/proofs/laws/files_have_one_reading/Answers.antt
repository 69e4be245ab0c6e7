use Rattle.layer_load.proofs.Readings.{one_reading}
use Rattle.layer_load.proofs.laws.files_have_one_reading.Goals as goal

pub returns : goal.returns
returns c = one_reading c.texts_have_one_answer.ensures

use Rattle.values_read.proofs.Acts.{words_keep}
use Rattle.values_read.proofs.laws.words_keep_values_sound.Goals as goal

pub returns : goal.returns
returns c = words_keep

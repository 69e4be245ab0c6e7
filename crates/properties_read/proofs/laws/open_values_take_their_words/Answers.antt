use Rattle.properties_read.proofs.OpenValues.{words_taken}
use Rattle.properties_read.proofs.laws.open_values_take_their_words.Goals as goal

pub returns : goal.returns
returns c = words_taken

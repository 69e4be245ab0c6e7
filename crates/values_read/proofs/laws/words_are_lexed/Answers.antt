use Rattle.values_read.proofs.Words.{words_lexed}
use Rattle.values_read.proofs.laws.words_are_lexed.Goals as goal

pub returns : goal.returns
returns c = words_lexed

use Rattle.value_texts.proofs.WordCuts.{value_worded}
use Rattle.value_texts.proofs.laws.values_are_words.Goals as goal

pub returns : goal.returns
returns c = value_worded

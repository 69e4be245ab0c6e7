use Rattle.value_texts.proofs.Following.{followed}
use Rattle.value_texts.proofs.laws.values_follow_the_grammar.Goals as goal

pub returns : goal.returns
returns c = followed

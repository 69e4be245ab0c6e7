use Rattle.text_syntax.proofs.Texts.{followed}
use Rattle.text_syntax.proofs.laws.open_values_follow_the_grammar.Goals as goal

pub returns : goal.returns
returns c = followed

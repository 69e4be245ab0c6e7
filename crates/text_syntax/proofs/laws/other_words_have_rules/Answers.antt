use Rattle.text_syntax.proofs.Elsewhere.{other_words}
use Rattle.text_syntax.proofs.laws.other_words_have_rules.Goals as goal

pub returns : goal.returns
returns c = other_words

use Rattle.text_examples.proofs.Tokens.{are_told}
use Rattle.text_examples.proofs.laws.tokens_are_told.Goals as goal

pub returns : goal.returns
returns c = are_told

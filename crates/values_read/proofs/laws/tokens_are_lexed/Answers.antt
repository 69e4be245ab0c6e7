use Rattle.values_read.proofs.Lexed.{lexed}
use Rattle.values_read.proofs.laws.tokens_are_lexed.Goals as goal

pub returns : goal.returns
returns c = lexed

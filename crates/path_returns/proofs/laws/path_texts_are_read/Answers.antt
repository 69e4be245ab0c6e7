use Rattle.path_returns.proofs.Returns.{texts_read}
use Rattle.path_returns.proofs.laws.path_texts_are_read.Goals as goal

pub returns : goal.returns
returns c = texts_read

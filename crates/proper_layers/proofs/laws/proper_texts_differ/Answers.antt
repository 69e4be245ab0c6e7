use Rattle.proper_layers.proofs.Returns.{proper_texts_differ}
use Rattle.proper_layers.proofs.laws.proper_texts_differ.Goals as goal

pub returns : goal.returns
returns c = proper_texts_differ

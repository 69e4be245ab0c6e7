use Rattle.path_returns.proofs.Returns.{path_texts}
use Rattle.path_returns.proofs.laws.path_texts_are_paths.Goals as goal

pub returns : goal.returns
returns c = path_texts

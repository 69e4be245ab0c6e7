use Rattle.path_returns.proofs.Utf8.{path_is_utf8}
use Rattle.path_returns.proofs.laws.path_texts_are_utf8.Goals as goal

pub returns : goal.returns
returns c = path_is_utf8

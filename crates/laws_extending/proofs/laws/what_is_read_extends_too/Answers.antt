use Rattle.laws_extending.proofs.Read.{keys_extend}
use Rattle.laws_extending.proofs.laws.what_is_read_extends_too.Goals as goal

pub returns : goal.returns
returns c = keys_extend

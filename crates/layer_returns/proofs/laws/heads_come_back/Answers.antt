use Rattle.layer_returns.proofs.Heads.{heads_come_back}
use Rattle.layer_returns.proofs.laws.heads_come_back.Goals as goal

pub returns : goal.returns
returns c = heads_come_back

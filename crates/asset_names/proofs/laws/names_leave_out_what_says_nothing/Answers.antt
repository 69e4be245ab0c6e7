use Rattle.asset_names.proofs.Normalised.{names_are}
use Rattle.asset_names.proofs.laws.names_leave_out_what_says_nothing.Goals as goal

pub returns : goal.returns
returns c = names_are

use Rattle.value_returns.proofs.Members.{members_had}
use Rattle.value_returns.proofs.laws.read_values_have_members.Goals as goal

pub returns : goal.returns
returns c = members_had

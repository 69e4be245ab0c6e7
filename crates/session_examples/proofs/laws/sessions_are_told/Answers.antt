use Rattle.session_examples.proofs.Sessions.{are_told}
use Rattle.session_examples.proofs.laws.sessions_are_told.Goals as goal

pub returns : goal.returns
returns c = are_told

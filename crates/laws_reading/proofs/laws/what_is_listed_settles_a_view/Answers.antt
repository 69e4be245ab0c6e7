use Rattle.laws_reading.proofs.Settled.{listed_settle}
use Rattle.laws_reading.proofs.laws.what_is_listed_settles_a_view.Goals as goal

pub returns : goal.returns
returns c = listed_settle

use Rattle.agreeing_worlds.proofs.Dated.{dates_hold}
use Rattle.agreeing_worlds.proofs.laws.a_view_is_as_it_is_since_its_date.Goals as goal

pub returns : goal.returns
returns c = dates_hold

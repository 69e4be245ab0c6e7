use Rattle.kept_stages.proofs.Views.{views_are_composed}
use Rattle.kept_stages.proofs.laws.views_are_settled_by_what_they_read.Goals as goal

pub returns : goal.returns
returns c = views_are_composed

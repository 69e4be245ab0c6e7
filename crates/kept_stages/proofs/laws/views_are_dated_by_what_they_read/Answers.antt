use Rattle.kept_stages.proofs.DatedViews.{views_are_dated}
use Rattle.kept_stages.proofs.laws.views_are_dated_by_what_they_read.Goals as goal

pub returns : goal.returns
returns c = views_are_dated

use Rattle.std.proofs.Common.{◌≡◌, ◌∙◌, ap, ◌++◌, ◌||◌, ◌&&◌}
use Rattle.change_core.specs.Kept.{is_listed}
use Rattle.change_core.proofs.Keeping.{both_listed}
use Rattle.change_core.proofs.differences.hits.Goals as goal

pub returns : goal.returns
returns g c k = both_listed g.K.Ord.cmp c.append.new.list c.in_ok-hits.hits c.as_slice.result.now c.in_ok-more.more k c.in_ok-append.ensures c.as_slice.ensures _ _ (c.in_ok-hits.ensures k) (c.in_ok-more.ensures k)

use Rattle.std.proofs.Common.{◌∙◌}
use Rattle.change_core.proofs.Searches.{found_is}
use Rattle.change_core.proofs.differences.is_in_order.Goals as goal

pub returns : goal.returns
returns g c = c.is_ok.ensures.value ∙ found_is g.K.Ord.cmp g.met.K.Ord.total c.args.keys.now c.requires c.args.key.now c.binary_search.result c.binary_search.ensures.bound c.binary_search.ensures.position

use Rattle.std.proofs.Common.{◌∙◌}
use Rattle.key_sets.proofs.Order.{put_is}
use Rattle.key_sets.proofs.ordering.put.Goals as goal

pub returns : goal.returns
returns c = c.in_ok-insert.ensures.keys ∙ put_is c.args.set.now.keys c.args.key

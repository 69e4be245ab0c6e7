use Rattle.std.proofs.Common.{refl}
use Rattle.flatten.proofs.Flattening.{items_more}
use Rattle.flatten.proofs.flat.put_prims.Goals as goal

pub loop-i-preserved : goal.loop-i-preserved
loop-i-preserved c = items_more c.args.view.now.items c.loop-i.i _ c.loop-i.specs _ _ refl c.in_ok-put_nth.ensures c.loop-i.invariant

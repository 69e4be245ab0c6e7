use Rattle.std.proofs.Common.{◌≡◌, Some, None, false, true}
use Rattle.change_core.proofs.Keeping.{arrives}
use Rattle.change_core.proofs.arrive.arrive_first.Goals as goal

pub returns : goal.returns
returns g c before changed = let m = g.C.Composer in
    arrives m.index_of m.reads_of g.C.Key.Ord.cmp m.entry_of m.parent_of c.args.world.now before changed c.args.place.now c.in_ok-copy.field-0 c.in_ok-kept.field-0.kept (Some c.in_ok-kept.field-0.index) (Some c.in_ok-kept.field-0.reads) None false
    c.in_ok-copy.ensures c.in_ok-kept.ensures.place c.in_ok-kept.ensures.current c.in_ok-kept.ensures.index c.in_ok-kept.ensures.reads tt (λ no. absurd cc)

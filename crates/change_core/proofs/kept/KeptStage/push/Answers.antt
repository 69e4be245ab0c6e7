use Rattle.std.proofs.lemmas.List.Elements.{All-same, All-push}
use Rattle.change_core.specs.Kept.{IsCurrent}
use Rattle.change_core.proofs.kept.KeptStage.push.Goals as goal

pub invariant_of-self-in_err-push_last : goal.invariant_of-self-in_err-push_last
invariant_of-self-in_err-push_last g c = let m = g.C.Composer in
    All-same (IsCurrent g.C.Key.Ord.cmp m.entry_of m.reads_of m.parent_of c.self.inside.world.value) _ _ c.in_err-push_last.ensures.err c.self.invariant

pub invariant_of-self-2 : goal.invariant_of-self-2
invariant_of-self-2 g c = let m = g.C.Composer in
    let P = IsCurrent g.C.Key.Ord.cmp m.entry_of m.reads_of m.parent_of c.self.inside.world.value in
    All-same P _ _ c.in_ok-push_last.ensures.ok (All-push P c.self.inside.kept.items c.args.kept c.self.invariant (rw (← c.self.view_is) at c.requires))

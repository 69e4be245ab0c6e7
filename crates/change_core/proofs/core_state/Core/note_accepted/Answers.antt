use Rattle.change_core.proofs.Histories.{accepted_kept}
use Rattle.change_core.proofs.core_state.Core.note_accepted.Goals as goal

pub invariant_of-self-2 : goal.invariant_of-self-2
invariant_of-self-2 g c = let s = c.self.inside in
    let room = rw (← c.self.view_is) at c.requires.room in
    let after = rw (← c.self.view_is) at c.requires.after in
    (rw c.in_ok-push.ensures.ok (accepted_kept g.C.Composer.applied s.opened.value s.world c.args.after s.history s.edits s.batches s.versions c.args.seat c.args.batch c.self.invariant.0 room after), c.requires.cache)

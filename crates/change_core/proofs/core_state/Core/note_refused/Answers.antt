use Rattle.change_core.proofs.Histories.{refused_kept}
use Rattle.change_core.proofs.core_state.Core.note_refused.Goals as goal

pub invariant_of-self-2 : goal.invariant_of-self-2
invariant_of-self-2 g c = let s = c.self.inside in
    let room = rw (← c.self.view_is) at c.requires.room in
    let fault = rw (← c.self.view_is) at c.requires.fault in
    (rw (c.in_ok-push.ensures.ok, c.in_ok-noted.ensures) (refused_kept g.C.Composer.applied s.opened.value s.world s.history s.edits s.batches s.versions c.args.seat c.args.op c.args.batch c.args.fault c.self.invariant.0 room fault), c.self.invariant.1)

use Rattle.change_core.proofs.Histories.{published_kept}
use Rattle.change_core.proofs.core_state.Core.note_published.Goals as goal

pub invariant_of-self-2 : goal.invariant_of-self-2
invariant_of-self-2 g c = let s = c.self.inside in
    (rw c.in_ok-push.ensures.ok (published_kept g.C.Composer.applied s.opened.value s.world s.history s.edits s.batches s.versions c.args.seat c.self.invariant.0), c.self.invariant.1)

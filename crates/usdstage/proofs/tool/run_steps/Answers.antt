use Rattle.std.proofs.Common.{◌∙◌, refl, ap, false, Ok, Err, None}
use Rattle.session_script.specs.declared.faults.ScriptFault.TheVariants as faults
use Rattle.usdstage.specs.declared.status.Status.TheVariants as status
use Rattle.usdstage.specs.Course.{turn}
use Rattle.usdstage.specs.Outcome.{Carries}
use Rattle.usdstage.proofs.Carrying.{gives_none, goes_on, starts, stops}
use Rattle.usdstage.proofs.Follows.{follows_none, follows_on, fault_writes}
use Rattle.session_script.specs.Told.{coming}
use Rattle.session_script.proofs.Feeds.{heeds_then}
use Rattle.usdstage.proofs.Files.{by_files, then_files, both_files, same_files, heard_here}
use Rattle.io_edges.specs.Causes.{one_more}
use Rattle.usdstage.proofs.Runs.{rose}
use Rattle.usdstage.proofs.tool.run_steps.Goals as goal

pub returns-in-Ok-None-clause-outcome : goal.returns-in-Ok-None-clause-outcome
returns-in-Ok-None-clause-outcome g c =
    let n = rw c.in-Ok-None.field-0-is at c.in-Ok-None.ensures.answer in
    then_files (g.F.LayerFiles.files c.args.files.now) _ _ c.loop-step.invariant.told
    (λ held size have. gives_none held size c.args.session.now c.loop-step.session c.args.bytes c.loop-step.bytes c.loop-step.steps c.next.new.self (Ok None) status.Done (g.S.Source.left c.args.script.now) (coming c.loop-step.steps.ended (g.S.Source.left c.loop-step.script)) (coming c.next.new.self.ended (g.S.Source.left c.next.new.source)) (g.K.Sink.taken c.args.out.now) (g.K.Sink.taken c.loop-step.out) refl have n)

pub returns-in-Ok-None-clause-end : goal.returns-in-Ok-None-clause-end
returns-in-Ok-None-clause-end g c =
    let n = rw c.in-Ok-None.field-0-is at c.in-Ok-None.ensures.end in
    let h = heeds_then false c.loop-step.steps.ended c.next.new.self.ended (g.S.Source.left c.args.script.now) (g.S.Source.left c.loop-step.script) (g.S.Source.left c.next.new.source) c.loop-step.invariant.heeds c.in-Ok-None.ensures.heeds in
    λ e. rw (n refl) at h

pub loop-step-init : goal.loop-step-init
loop-step-init g c = record {
  follows = by_files (g.F.LayerFiles.files c.args.files.now) _ (λ held size. follows_none held size c.args.session.now c.args.bytes _ (g.S.Source.left c.args.script.now) (g.K.Sink.taken c.args.out.now) c.requires);
  told = by_files (g.F.LayerFiles.files c.args.files.now) _ (λ held size. starts held size c.args.session.now c.args.bytes _ (g.S.Source.left c.args.script.now) (g.K.Sink.taken c.args.out.now) c.requires);
  heeds = rw c.requires (heard_here (g.S.Source.left c.args.script.now));
  same = refl;
  fetched = refl;
  read = refl;
  wrote = refl;
}

pub loop-step-preserved : goal.loop-step-preserved
loop-step-preserved g c =
    let i = c.loop-step.invariant in
    let n = rw c.in-Ok-Some.field-0-is at c.in-Ok-Some.ensures.answer in
    let l = rw c.in-Ok-Some.field-0-is at c.in-Ok-Some.ensures.lines in
    record {
      follows = both_files (g.F.LayerFiles.files c.args.files.now) _ _ _ i.follows (same_files (g.F.LayerFiles.files c.args.files.now) (g.F.LayerFiles.files c.loop-step.files) (λ held size. Carries (Ok c.in-Ok.total) c.carry_out.new.session (turn held size c.loop-step.session c.loop-step.bytes c.in-Ok-Some.step) (g.K.Sink.taken c.loop-step.out) (g.K.Sink.taken c.carry_out.new.out)) i.same c.in-Ok.ensures.carried)
          (λ held size have carried. follows_on held size c.args.session.now c.loop-step.session c.carry_out.new.session c.args.bytes c.loop-step.bytes c.in-Ok.total c.loop-step.steps c.next.new.self c.in-Ok-Some.step (g.S.Source.left c.args.script.now) (coming c.loop-step.steps.ended (g.S.Source.left c.loop-step.script)) (coming c.next.new.self.ended (g.S.Source.left c.next.new.source)) (g.K.Sink.taken c.args.out.now) (g.K.Sink.taken c.loop-step.out) (g.K.Sink.taken c.carry_out.new.out) have l carried);
      told = both_files (g.F.LayerFiles.files c.args.files.now) _ _ _ i.told (same_files (g.F.LayerFiles.files c.args.files.now) (g.F.LayerFiles.files c.loop-step.files) (λ held size. Carries (Ok c.in-Ok.total) c.carry_out.new.session (turn held size c.loop-step.session c.loop-step.bytes c.in-Ok-Some.step) (g.K.Sink.taken c.loop-step.out) (g.K.Sink.taken c.carry_out.new.out)) i.same c.in-Ok.ensures.carried)
          (λ held size have carried. goes_on held size c.args.session.now c.loop-step.session c.carry_out.new.session c.args.bytes c.loop-step.bytes c.in-Ok.total c.loop-step.steps c.next.new.self c.in-Ok-Some.step (g.S.Source.left c.args.script.now) (coming c.loop-step.steps.ended (g.S.Source.left c.loop-step.script)) (coming c.next.new.self.ended (g.S.Source.left c.next.new.source)) (g.K.Sink.taken c.args.out.now) (g.K.Sink.taken c.loop-step.out) (g.K.Sink.taken c.carry_out.new.out) have n carried);
      heeds = heeds_then false c.loop-step.steps.ended c.next.new.self.ended (g.S.Source.left c.args.script.now) (g.S.Source.left c.loop-step.script) (g.S.Source.left c.next.new.source) i.heeds c.in-Ok-Some.ensures.heeds;
      same = c.in-Ok.ensures.same ∙ i.same;
      fetched = c.in-Ok.ensures.reads.1 (λ k. absurd (let clash = k in cc)) ∙ i.fetched;
      read = (rw c.in-Ok-Some.field-0-is at c.in-Ok-Some.ensures.counted).1 (λ k. absurd (let clash = k in cc)) ∙ i.read;
      wrote = c.in-Ok.ensures.writes.1 (λ k. absurd (let clash = k in cc)) ∙ i.wrote;
    }

pub returns-in-Err-clause-outcome : goal.returns-in-Err-clause-outcome
returns-in-Err-clause-outcome g c =
    let i = c.loop-step.invariant in
    let n = rw c.in-Ok-Some.field-0-is at c.in-Ok-Some.ensures.answer in
    both_files (g.F.LayerFiles.files c.args.files.now) _ _ _ i.told (same_files (g.F.LayerFiles.files c.args.files.now) (g.F.LayerFiles.files c.loop-step.files) (λ held size. Carries (Err c.in-Err.status) c.carry_out.new.session (turn held size c.loop-step.session c.loop-step.bytes c.in-Ok-Some.step) (g.K.Sink.taken c.loop-step.out) (g.K.Sink.taken c.carry_out.new.out)) i.same c.in-Err.ensures.carried)
    (λ held size have carried. stops held size c.args.session.now c.loop-step.session c.carry_out.new.session c.args.bytes c.loop-step.bytes c.loop-step.steps c.next.new.self c.in-Ok-Some.step c.in-Err.status (g.S.Source.left c.args.script.now) (coming c.loop-step.steps.ended (g.S.Source.left c.loop-step.script)) (coming c.next.new.self.ended (g.S.Source.left c.next.new.source)) (g.K.Sink.taken c.args.out.now) (g.K.Sink.taken c.loop-step.out) (g.K.Sink.taken c.carry_out.new.out) have n carried)

pub returns-in-Err-clause-end : goal.returns-in-Err-clause-end
returns-in-Err-clause-end g c = λ e. absurd (c.in-Err.ensures.calm.0 (ap Err e))

pub returns-in-Err-Refused-clause-outcome : goal.returns-in-Err-Refused-clause-outcome
returns-in-Err-Refused-clause-outcome g c =
    let n = rw (c.in-Err-Refused.field-0-is) at c.in-Err-Refused.ensures.answer in
    let told = then_files (g.F.LayerFiles.files c.args.files.now) _ _ c.loop-step.invariant.told
    (λ held size have. gives_none held size c.args.session.now c.loop-step.session c.args.bytes c.loop-step.bytes c.loop-step.steps c.next.new.self (Err (faults.Refused c.in-Err-Refused.line c.in-Err-Refused.kind)) (status.ScriptRefused c.in-Err-Refused.line c.in-Err-Refused.kind) (g.S.Source.left c.args.script.now) (coming c.loop-step.steps.ended (g.S.Source.left c.loop-step.script)) (coming c.next.new.self.ended (g.S.Source.left c.next.new.source)) (g.K.Sink.taken c.args.out.now) (g.K.Sink.taken c.loop-step.out) refl have n) in
    rw (c.in-Err-Refused.line-is, c.in-Err-Refused.kind-is) told

pub returns-in-Err-ReadFault-clause-outcome : goal.returns-in-Err-ReadFault-clause-outcome
returns-in-Err-ReadFault-clause-outcome g c =
    let n = rw c.in-Err-ReadFault.field-0-is at c.in-Err-ReadFault.ensures.answer in
    then_files (g.F.LayerFiles.files c.args.files.now) _ _ c.loop-step.invariant.told
    (λ held size have. gives_none held size c.args.session.now c.loop-step.session c.args.bytes c.loop-step.bytes c.loop-step.steps c.next.new.self (Err faults.ReadFault) status.ReadFault (g.S.Source.left c.args.script.now) (coming c.loop-step.steps.ended (g.S.Source.left c.loop-step.script)) (coming c.next.new.self.ended (g.S.Source.left c.next.new.source)) (g.K.Sink.taken c.args.out.now) (g.K.Sink.taken c.loop-step.out) refl have n)

pub returns-in-Err-NoMemory-clause-outcome : goal.returns-in-Err-NoMemory-clause-outcome
returns-in-Err-NoMemory-clause-outcome g c =
    let n = rw c.in-Err-NoMemory.field-0-is at c.in-Err-NoMemory.ensures.answer in
    then_files (g.F.LayerFiles.files c.args.files.now) _ _ c.loop-step.invariant.told
    (λ held size have. gives_none held size c.args.session.now c.loop-step.session c.args.bytes c.loop-step.bytes c.loop-step.steps c.next.new.self (Err faults.NoMemory) status.NoMemory (g.S.Source.left c.args.script.now) (coming c.loop-step.steps.ended (g.S.Source.left c.loop-step.script)) (coming c.next.new.self.ended (g.S.Source.left c.next.new.source)) (g.K.Sink.taken c.args.out.now) (g.K.Sink.taken c.loop-step.out) refl have n)

pub returns-in-Err-ReadFault-clause-script_fault : goal.returns-in-Err-ReadFault-clause-script_fault
returns-in-Err-ReadFault-clause-script_fault g c =
    let l = rw c.in-Err-ReadFault.field-0-is at c.in-Err-ReadFault.ensures.lines in
    let n = rw c.in-Err-ReadFault.field-0-is at c.in-Err-ReadFault.ensures.counts in
    λ e k. then_files (g.F.LayerFiles.files c.args.files.now) _ _ c.loop-step.invariant.follows
    (λ held size have. fault_writes held size c.args.session.now c.loop-step.session c.args.bytes c.loop-step.bytes c.loop-step.steps c.next.new.self (g.S.Source.left c.args.script.now) (coming c.loop-step.steps.ended (g.S.Source.left c.loop-step.script)) (g.S.Source.left c.next.new.source) (g.K.Sink.taken c.args.out.now) (g.K.Sink.taken c.loop-step.out) have l n.1)

pub returns-in-Err-clause-script_fault : goal.returns-in-Err-clause-script_fault
returns-in-Err-clause-script_fault g c = λ e k. absurd (k (rose _ _ (c.in-Err.ensures.reads.0 (ap Err e) ∙ ap one_more c.loop-step.invariant.fetched)))

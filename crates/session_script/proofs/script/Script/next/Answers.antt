use Rattle.std.proofs.Common.{◌≡◌, ◌∙◌, ℕ, Bool, List, Option, ap, sym, subst, refl, arith, Err, Ok, Some, None}
use Rattle.std.proofs.lemmas.Result.{err_from_is_err_and}
use Rattle.session_script.specs.declared.faults.ScriptFault.TheVariants.{Refused}
use Rattle.session_script.specs.declared.faults.ScriptKind.TheVariants.{TooLong}
use Rattle.session_script.specs.States.{State, Passes}
use Rattle.session_script.proofs.Passing.{Passed, passed_line, passed_step, passed_fault, end_passes, refusal_passes}
use Rattle.session_script.specs.Told.{coming}
use Rattle.session_script.proofs.Feeds.{heeds_then, kept_end}
use Rattle.session_script.proofs.Going.{same_at_end, same_at_line, answered, goes_further, still_unrefused, ends, too_long, stops, takes, answer_of_take}
use Rattle.session_script.proofs.script.Script.next.Goals as goal

pub returns-in-End-clause-answer : goal.returns-in-End-clause-answer
returns-in-End-clause-answer g c =
    let i = c.loop-self.invariant in
    let n = c.in_ok-next_front.ensures in
    let f = rw c.in-End.is at n.front in
    let none = still_unrefused c.loop-self.self c.next_front.new.self _ _ i.goes_on n.feeds in
    rw (same_at_end c.end.result c.next_front.new.self c.end.new.self c.end.ensures) (answered c.end.result c.end.new.self.line c.args.self.now c.loop-self.self c.next_front.new.self c.end.new.self (coming c.args.self.now.ended (g.S.Source.left c.args.source.now)) (coming c.loop-self.self.ended (g.S.Source.left c.loop-self.source)) (coming c.next_front.new.self.ended (g.S.Source.left c.next_front.new.source)) (λ more. more ≡ _) i.told n.feeds f.1
    (λ b nothing. ends c.end.result c.next_front.new.self c.end.new.self c.end.new.self.line b none f.0 nothing c.end.ensures))

pub returns-in-TooLong-clause-answer : goal.returns-in-TooLong-clause-answer
returns-in-TooLong-clause-answer g c =
    let i = c.loop-self.invariant in
    let n = c.in_ok-next_front.ensures in
    let f = rw c.in-TooLong.is at n.front in
    let none = still_unrefused c.loop-self.self c.next_front.new.self _ _ i.goes_on n.feeds in
    rw (c.stop.ensures.fault, ap (λ (s : State). s.ended) c.stop.ensures.after) (answered (Err (Refused _ TooLong)) c.stop.new.self.line c.args.self.now c.loop-self.self c.next_front.new.self c.stop.new.self (coming c.args.self.now.ended (g.S.Source.left c.args.source.now)) (coming c.loop-self.self.ended (g.S.Source.left c.loop-self.source)) (coming c.next_front.new.self.ended (g.S.Source.left c.next_front.new.source)) _ i.told n.feeds f
    (λ b q. stops c.next_front.new.self c.stop.new.self b TooLong _ (too_long c.next_front.new.self b none q.0 q.1 q.2 q.3) c.stop.ensures.after refl))

pub returns-in_err-step-in-Line-clause-answer : goal.returns-in_err-step-in-Line-clause-answer
returns-in_err-step-in-Line-clause-answer g c =
    let i = c.loop-self.invariant in
    let n = c.in_ok-next_front.ensures in
    let f = rw c.in-Line.is at n.front in
    let none = still_unrefused c.loop-self.self c.next_front.new.self _ _ i.goes_on n.feeds in
    let p = err_from_is_err_and c.from_residual-in_err-step-in-Line.result c.from_residual-in_err-step-in-Line.ensures.1 in
    let e = p.1 ∙ ap Err p.2 in
    rw (same_at_line (Err c.in_err-step-in-Line.field-0.0) c.in-Line.len c.next_front.new.self c.take_front.new.self _ c.in_err-step-in-Line.ensures) (answered c.from_residual-in_err-step-in-Line.result c.take_front.new.self.line c.args.self.now c.loop-self.self c.next_front.new.self c.take_front.new.self (coming c.args.self.now.ended (g.S.Source.left c.args.source.now)) (coming c.loop-self.self.ended (g.S.Source.left c.loop-self.source)) (coming c.next_front.new.self.ended (g.S.Source.left c.next_front.new.source)) _ i.told n.feeds f.3
    (λ b q. answer_of_take c.from_residual-in_err-step-in-Line.result c.next_front.new.self c.take_front.new.self b c.in_err-step-in-Line.field-0.0 e
    (takes (Err c.in_err-step-in-Line.field-0.0) c.in-Line.len c.next_front.new.self c.take_front.new.self b none f.1 f.2 q c.in_err-step-in-Line.ensures)))

pub returns-in-Some-2-clause-answer : goal.returns-in-Some-2-clause-answer
returns-in-Some-2-clause-answer g c =
    let i = c.loop-self.invariant in
    let n = c.in_ok-next_front.ensures in
    let f = rw c.in-Line.is at n.front in
    let none = still_unrefused c.loop-self.self c.next_front.new.self _ _ i.goes_on n.feeds in
    let took = rw c.in-Some-2.is at c.in_ok-step-in-Line.ensures in
    rw (ap (λ (s : State). s.ended) took.1) (answered (Ok (Some c.in-Some-2.step)) c.take_front.new.self.line c.args.self.now c.loop-self.self c.next_front.new.self c.take_front.new.self (coming c.args.self.now.ended (g.S.Source.left c.args.source.now)) (coming c.loop-self.self.ended (g.S.Source.left c.loop-self.source)) (coming c.next_front.new.self.ended (g.S.Source.left c.next_front.new.source)) _ i.told n.feeds f.3
    (λ b q. takes (Ok (Some c.in-Some-2.step)) c.in-Line.len c.next_front.new.self c.take_front.new.self b none f.1 f.2 q took))

pub loop-self-preserved : goal.loop-self-preserved
loop-self-preserved g c =
    let i = c.loop-self.invariant in
    let n = c.in_ok-next_front.ensures in
    let f = rw c.in-Line.is at n.front in
    let none = still_unrefused c.loop-self.self c.next_front.new.self _ _ i.goes_on n.feeds in
    let took = rw c.in_default-2.is at c.in_ok-step-in-Line.ensures in
    record {
      passed = subst (λ (z : Option (List ℕ)). Passed c.args.self.now c.take_front.new.self (coming c.args.self.now.ended (g.S.Source.left c.args.source.now)) z)
          (ap (λ (e : Bool). coming e (g.S.Source.left c.next_front.new.source)) (sym (ap (λ (s : State). s.ended) took.2))) (passed_line c.in-Line.len c.args.self.now c.loop-self.self c.next_front.new.self c.take_front.new.self (coming c.args.self.now.ended (g.S.Source.left c.args.source.now)) (coming c.loop-self.self.ended (g.S.Source.left c.loop-self.source)) (coming c.next_front.new.self.ended (g.S.Source.left c.next_front.new.source)) none i.passed n.feeds f took);
      heeds = heeds_then c.args.self.now.ended c.loop-self.self.ended c.take_front.new.self.ended (g.S.Source.left c.args.source.now) (g.S.Source.left c.loop-self.source) (g.S.Source.left c.next_front.new.source) i.heeds (rw (ap (λ (s : State). s.ended) took.2) n.heeds);
      quiet = λ e. n.quiet (kept_end c.args.self.now.ended c.loop-self.self.ended _ _ i.heeds e) ∙ i.quiet e;
      told = rw (ap (λ (s : State). s.ended) took.2) (goes_further c.args.self.now c.loop-self.self c.next_front.new.self c.take_front.new.self (coming c.args.self.now.ended (g.S.Source.left c.args.source.now)) (coming c.loop-self.self.ended (g.S.Source.left c.loop-self.source)) (coming c.next_front.new.self.ended (g.S.Source.left c.next_front.new.source)) _ i.told n.feeds f.3
          (λ b q. takes (Ok None) c.in-Line.len c.next_front.new.self c.take_front.new.self b none f.1 f.2 q took));
      goes_on = ap (λ (s : State). s.stopped) took.2 ∙ none;
      same_line = ap (λ (s : State). s.line) took.2 ∙ ap (λ (s : State). s.line) n.feeds.1 ∙ i.same_line;
      taken = omega (arith, ap (λ (s : State). s.taken) took.2, ap (λ (s : State). s.taken) n.feeds.1, i.taken);
      steady = n.counted.1 (λ k. absurd (let clash = k in cc)) ∙ i.steady;
    }

pub returns-in-End-clause-lines : goal.returns-in-End-clause-lines
returns-in-End-clause-lines g c = end_passes c.end.result c.next_front.new.self c.args.self.now c.end.new.self _ _ c.end.ensures

pub returns-in_err-next_front-clause-lines : goal.returns-in_err-next_front-clause-lines
returns-in_err-next_front-clause-lines g c =
    let p = err_from_is_err_and c.from_residual.result c.from_residual.ensures.1 in
    let n = c.in_err-next_front.ensures in
    rw (p.1 ∙ ap Err p.2) (passed_fault c.in_err-next_front.field-0.0 c.args.self.now c.loop-self.self c.next_front.new.self _ _ _ c.loop-self.invariant.passed n.feeds n.none.0 n.none.1 n.none.2)

pub returns-in_err-step-in-Line-clause-lines : goal.returns-in_err-step-in-Line-clause-lines
returns-in_err-step-in-Line-clause-lines g c =
    let p = err_from_is_err_and c.from_residual-in_err-step-in-Line.result c.from_residual-in_err-step-in-Line.ensures.1 in
    refusal_passes c.from_residual-in_err-step-in-Line.result c.in_err-step-in-Line.field-0.0 c.in-Line.len _ c.args.self.now c.loop-self.self c.next_front.new.self c.take_front.new.self _ _
    (λ (e : Bool). coming e (g.S.Source.left c.next_front.new.source)) c.loop-self.invariant.passed c.in_ok-next_front.ensures.feeds (p.1 ∙ ap Err p.2) c.in_err-step-in-Line.ensures

pub returns-in-Some-2-clause-lines : goal.returns-in-Some-2-clause-lines
returns-in-Some-2-clause-lines g c =
    let i = c.loop-self.invariant in
    let n = c.in_ok-next_front.ensures in
    let f = rw c.in-Line.is at n.front in
    let none = still_unrefused c.loop-self.self c.next_front.new.self _ _ i.goes_on n.feeds in
    let took = rw c.in-Some-2.is at c.in_ok-step-in-Line.ensures in
    subst (λ (z : Option (List ℕ)). Passes (Ok (Some c.in-Some-2.step)) c.args.self.now c.take_front.new.self (coming c.args.self.now.ended (g.S.Source.left c.args.source.now)) z)
    (ap (λ (e : Bool). coming e (g.S.Source.left c.next_front.new.source)) (sym (ap (λ (s : State). s.ended) took.1))) (passed_step c.in-Line.len c.in-Some-2.step c.args.self.now c.loop-self.self c.next_front.new.self c.take_front.new.self (coming c.args.self.now.ended (g.S.Source.left c.args.source.now)) (coming c.loop-self.self.ended (g.S.Source.left c.loop-self.source)) (coming c.next_front.new.self.ended (g.S.Source.left c.next_front.new.source)) none i.passed n.feeds f took)

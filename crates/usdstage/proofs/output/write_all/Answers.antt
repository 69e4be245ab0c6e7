use Rattle.std.proofs.Common.{◌∙◌, ap, length, arith}
use Rattle.std.proofs.lemmas.List.{length-drop}
use Rattle.usdstage.proofs.Outcomes.{appends_more}
use Rattle.usdstage.proofs.output.write_all.Goals as goal

pub loop-at-preserved : goal.loop-at-preserved
loop-at-preserved g c =
    let taken = g.K.Sink.taken in
    let wrote = rw c.rest_of.ensures at c.in-Took.ensures.takes.2 in
    record {
      within = omega (arith, c.in-Took.ensures.takes.1, ap length c.rest_of.ensures, length-drop c.loop-at.at c.args.text.now);
      wrote = appends_more (taken c.args.out.now) (taken c.loop-at.out) (taken c.write.new.self) c.args.text.now c.loop-at.at c.in-Took.n c.loop-at.invariant.wrote wrote;
      steady = c.in-Took.ensures.counted.1 (λ k. absurd (let clash = k in cc)) ∙ c.loop-at.invariant.steady;
    }

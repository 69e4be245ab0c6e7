use Rattle.std.proofs.Common.{◌≡◌, ◌+◌, ◌-◌, suc, length, ◌++◌, refl, ap, sym, ◌∙◌, arith}
use Rattle.variant_select.specs.Rounds.{after_rounds, after_round, decided, choices}
use Rattle.variant_select.proofs.Lemmas.{from_none, one_round, no_round, no_more, none_added}
use Rattle.variant_select.proofs.rounds.decide.Goals as goal

pub loop-round-init : goal.loop-round-init
loop-round-init g c =
    record {
      chosen = ap (λ chosen. after_rounds (g.O.Opinions.met_with c.args.from.now) 16 chosen) c.new-chosen.ensures ∙ from_none (g.O.Opinions.met_with c.args.from.now) 16 refl;
      same = refl;
    }

pub returns-then-len-before-clause-choices : goal.returns-then-len-before-clause-choices
returns-then-len-before-clause-choices g c =
    let f = g.O.Opinions.met_with c.loop-round.from in
    let step : c.choose_all.new.chosen ≡ after_round f c.loop-round.chosen =
    c.in_ok-choose_all.ensures ∙ ap (λ met. c.loop-round.chosen ++ decided c.loop-round.chosen met) (c.as_slice.ensures.value ∙ c.in_ok-found.ensures.met) in
    let as_long : length c.choose_all.new.chosen ≡ length c.loop-round.chosen = cc in
    let still : after_round f c.loop-round.chosen ≡ c.loop-round.chosen = none_added _ _ (sym (ap (λ chosen. length chosen) step) ∙ as_long) in
    step ∙ still ∙ sym (no_more f (16 - c.loop-round._round) c.loop-round.chosen still) ∙ c.loop-round.invariant.chosen

pub loop-round-preserved : goal.loop-round-preserved
loop-round-preserved g c =
    let f = g.O.Opinions.met_with c.loop-round.from in
    let k = 16 - (c.loop-round._round + 1) in
    let step : c.choose_all.new.chosen ≡ after_round f c.loop-round.chosen =
    c.in_ok-choose_all.ensures ∙ ap (λ met. c.loop-round.chosen ++ decided c.loop-round.chosen met) (c.as_slice.ensures.value ∙ c.in_ok-found.ensures.met) in
    let one_less : 16 - c.loop-round._round ≡ suc k = omega arith in
    record {
      chosen =
          ap (λ f'. after_rounds f' k c.choose_all.new.chosen) c.in_ok-found.ensures.same
          ∙ ap (λ chosen. after_rounds f k chosen) step
          ∙ sym (one_round f k (16 - c.loop-round._round) c.loop-round.chosen one_less)
          ∙ c.loop-round.invariant.chosen;
      same = c.in_ok-found.ensures.same ∙ c.loop-round.invariant.same;
    }

pub returns-clause-choices : goal.returns-clause-choices
returns-clause-choices g c =
    let f = g.O.Opinions.met_with c.loop-round.from in
    let no_left : 0 ≡ 16 - c.loop-round._round = omega arith in
    sym (no_round f c.loop-round.chosen) ∙ ap (λ k. after_rounds f k c.loop-round.chosen) no_left ∙ c.loop-round.invariant.chosen

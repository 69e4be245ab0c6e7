use Rattle.std.proofs.Common.{◌≡◌, ◌-◌}
use Rattle.variant_select.specs.Rounds.{after_rounds, choices}
use Rattle.variant_select.proofs.rounds.decide.Given as goal

abbrev pub invariant-loop-round : goal.invariant-loop-round
invariant-loop-round g l =
    record {
      chosen : after_rounds (g.O.Opinions.met_with l.from) (16 - l._round) l.chosen ≡ choices (g.O.Opinions.met_with l.fn.from);
      same : g.O.Opinions.met_with l.from ≡ g.O.Opinions.met_with l.fn.from;
    }

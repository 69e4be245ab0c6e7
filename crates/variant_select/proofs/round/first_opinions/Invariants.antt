use Rattle.std.proofs.Common.{◌≡◌, ℕ, List, drop}
use Rattle.std.specs.Option.{option_or}
use Rattle.std.specs.Ordering.{nat_cmp}
use Rattle.std.specs.Cmp.Lexicographic.{slice_cmp}
use Rattle.std.specs.BTreeMap.{get}
use Rattle.variant_select.specs.Rounds.{first_opinion}
use Rattle.variant_select.proofs.round.first_opinions.Given as goal

-- what was found so far, or else will be
abbrev pub invariant-loop-met : goal.invariant-loop-met
invariant-loop-met l =
    (s : List ℕ) → option_or (get (slice_cmp nat_cmp) l.firsts s) (first_opinion (drop l.met-index l.found) s) ≡ first_opinion l.found s

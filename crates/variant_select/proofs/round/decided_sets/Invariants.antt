use Rattle.std.proofs.Common.{◌≡◌, ℕ, List, take}
use Rattle.std.specs.Ordering.{nat_cmp}
use Rattle.std.specs.Cmp.Lexicographic.{slice_cmp}
use Rattle.std.specs.BTreeSet.{contains}
use Rattle.variant_select.specs.Rounds.{is_decided}
use Rattle.variant_select.proofs.round.decided_sets.Given as goal

abbrev pub invariant-loop-set : goal.invariant-loop-set
invariant-loop-set l = (s : List ℕ) → contains (slice_cmp nat_cmp) l.sets s ≡ is_decided (take l.set-index l.chosen) s

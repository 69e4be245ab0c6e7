use Rattle.std.proofs.Common.{◌≡◌, ◌++◌, drop}
use Rattle.std.specs.Ordering.{nat_cmp}
use Rattle.std.specs.Cmp.Lexicographic.{slice_cmp}
use Rattle.std.specs.BTreeSet.{contains}
use Rattle.std.specs.List.{filter_map}
use Rattle.variant_select.specs.Rounds.{choice_of, new_sets, decided}
use Rattle.variant_select.proofs.round.choose_all.Given as goal

-- what is chosen so far, and then what the rest decides
abbrev pub invariant-loop-met : goal.invariant-loop-met
invariant-loop-met l =
    l.chosen ++ filter_map (choice_of l.found) (new_sets (contains (slice_cmp nat_cmp) l.known) (drop l.met-index l.found))
    ≡ l.fn.chosen ++ decided l.fn.chosen l.found

use Rattle.std.proofs.Common.{◌≡◌, ◌++◌, drop}
use Rattle.std.specs.Prelude.{filter_map}
use Rattle.std.specs.Option.{option_map}
use Rattle.site_order.specs.ChoiceTables.{noted_for}
use Rattle.site_order.proofs.deciding.noted_selections.Given as goal

abbrev pub invariant-loop-set : goal.invariant-loop-set
invariant-loop-set l =
    l.more ++ filter_map (λ set. option_map (λ v. (set, v)) (noted_for l.table set)) (drop l.set-index l.sets) ≡ filter_map (λ set. option_map (λ v. (set, v)) (noted_for l.table set)) l.sets

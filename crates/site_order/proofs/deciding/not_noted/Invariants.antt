use Rattle.std.proofs.Common.{◌≡◌, ◌++◌, drop, filter}
use Rattle.std.specs.Prelude.{not}
use Rattle.std.specs.Option.{is_some}
use Rattle.site_order.specs.ChoiceTables.{noted_for}
use Rattle.site_order.proofs.deciding.not_noted.Given as goal

abbrev pub invariant-loop-set : goal.invariant-loop-set
invariant-loop-set l = l.left ++ filter (λ set. not (is_some (noted_for l.table set))) (drop l.set-index l.sets) ≡ filter (λ set. not (is_some (noted_for l.table set))) l.sets

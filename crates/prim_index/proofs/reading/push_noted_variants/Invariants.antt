use Rattle.std.proofs.Common.{◌≡◌, ◌++◌, drop}
use Rattle.site_order.specs.ChoiceTables.{noted_for}
use Rattle.prim_index.specs.Reading.{chosen_by}
use Rattle.prim_index.proofs.reading.push_noted_variants.Given as goal

abbrev pub invariant-loop-set : goal.invariant-loop-set
invariant-loop-set l = l.out ++ chosen_by l.node l.level (noted_for l.table) (drop l.set-index l.sets) ≡ l.fn.out ++ chosen_by l.node l.level (noted_for l.table) l.sets

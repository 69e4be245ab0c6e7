use Rattle.std.proofs.Common.{◌≡◌, ◌++◌}
use Rattle.usda_values.specs.Entries.{items_of}
use Rattle.usda_values.proofs.entries.items_of.Given as goal

abbrev pub invariant-loop-entry : goal.invariant-loop-entry
invariant-loop-entry l = l.items ++ items_of l.entry-iterator ≡ items_of l.fn.map.entries

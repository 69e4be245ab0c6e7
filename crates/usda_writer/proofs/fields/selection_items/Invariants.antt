use Rattle.std.proofs.Common.{◌≡◌, ◌++◌, map}
use Rattle.usda_writer.specs.Fields.{selection_item}
use Rattle.usda_writer.proofs.fields.selection_items.Given as goal

abbrev pub invariant-loop-set : goal.invariant-loop-set
invariant-loop-set l = l.items ++ map selection_item l.set-iterator ≡ map selection_item l.selections

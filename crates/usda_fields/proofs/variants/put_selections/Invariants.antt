use Rattle.std.proofs.Common.{◌≡◌, [], map}
use Rattle.usda_fields.specs.Variants.{with_selections, entry_of}
use Rattle.usda_fields.proofs.variants.put_selections.Given as goal

abbrev pub invariant-loop-item : goal.invariant-loop-item
invariant-loop-item l = l.selections ≡ with_selections (map entry_of l.yielded) []

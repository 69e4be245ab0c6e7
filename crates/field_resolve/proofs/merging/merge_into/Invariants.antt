use Rattle.std.proofs.Common.{◌≡◌, fold}
use Rattle.composition.specs.Merging.{with_weaker}
use Rattle.field_resolve.proofs.merging.merge_into.Given as goal

abbrev pub invariant-loop-key : goal.invariant-loop-key
invariant-loop-key l = fold with_weaker l.meta l.key-iterator ≡ fold with_weaker l.fn.meta l.weaker

use Rattle.std.proofs.Common.{◌≡◌, map, drop}
use Rattle.sdf_values.specs.Conforms.{holds, all_hold}
use Rattle.sdf_values.proofs.conform.+holds.Given as goal

abbrev pub invariant-all_hold-loop-value : goal.invariant-all_hold-loop-value
invariant-all_hold-loop-value l = all_hold (map holds (drop l.value-index l.values)) l.ty ≡ all_hold (map holds l.values) l.ty

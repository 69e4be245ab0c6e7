use Rattle.std.proofs.Common.{◌≡◌, ◌-◌, ◌≤◌, map, drop}
use Rattle.usda_values.specs.Shaping.{taken, take_all, take_counted}
use Rattle.usda_values.proofs.Members.{behind}
use Rattle.usda_values.proofs.shaping.+taken.Given as goal

abbrev pub invariant-take_all-loop-value : goal.invariant-take_all-loop-value
invariant-take_all-loop-value l = behind l.all (take_all (map taken (drop l.value-index l.values)) l.ty) ≡ take_all (map taken l.values) l.ty

abbrev pub invariant-take_counted-loop-i : goal.invariant-take_counted-loop-i
invariant-take_counted-loop-i l = record {
  same : behind l.all (take_counted (l.count - l.i) (map taken (drop l.i l.values)) l.ty) ≡ take_counted l.count (map taken l.values) l.ty;
  room : l.i ≤ l.count;
}

use Rattle.std.proofs.Common.{◌≡◌, drop}
use Rattle.sdf_specs.specs.Layers.{without_paths}
use Rattle.sdf_specs.proofs.trees.remove_all.Given as goal

abbrev pub invariant-loop-path : goal.invariant-loop-path
invariant-loop-path g l = without_paths (drop l.path-index l.paths) l.specs ≡ without_paths l.paths l.initial.specs

use Rattle.std.proofs.Common.{◌≡◌, ◌++◌}
use Rattle.std.specs.Map.{keys_of}
use Rattle.sdf_specs.proofs.TreeLemmas.{leading}
use Rattle.layer_changes.proofs.trees.paths_of_tree.Given as goal

abbrev pub invariant-loop-path : goal.invariant-loop-path
invariant-loop-path l = l.paths ++ keys_of (leading l.front l.path-iterator) ≡ keys_of (leading l.front l.initial.path-iterator)

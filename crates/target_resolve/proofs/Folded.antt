-- Folds of paths by the comparison of the code are those by the test of the definitions.
use Rattle.std.proofs.Common.{◌≡◌, ap, Bool, List, reverse}
use Rattle.sdf_paths.specs.contracts.path.PathPartialEq.TheImpl.{ghosts as path_eq}
use Rattle.list_ops.specs.declared.op.ListOp.{ListOp}
use Rattle.list_ops.specs.ListEdits.{folded}
use Rattle.composition.specs.Paths.{Path}
use Rattle.target_resolve.specs.Translating.{folded_paths}
use Rattle.composition.proofs.Same.{path_tests_are}

pub folded_is : (ops : List (ListOp Path)) → folded path_eq.eq (reverse ops) ≡ folded_paths ops
unfolding folded_paths
folded_is ops = ap (λ (same : Path → Path → Bool). folded same (reverse ops)) path_tests_are

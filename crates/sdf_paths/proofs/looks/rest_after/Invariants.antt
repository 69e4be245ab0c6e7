use Rattle.std.proofs.Common.{◌≡◌, drop, length, ◌≤◌}
use Rattle.sdf_paths.specs.Paths.{rest_after}
use Rattle.sdf_paths.proofs.looks.rest_after.Given as goal

abbrev pub invariant-loop-i : goal.invariant-loop-i
invariant-loop-i l =
    record { long : length l.front ≤ length l.path; rest : rest_after (drop l.i l.front) (drop l.i l.path) ≡ rest_after l.front l.path }

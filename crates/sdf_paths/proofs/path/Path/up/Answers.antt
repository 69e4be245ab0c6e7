use Rattle.std.proofs.Common.{sym, subst}
use Rattle.sdf_paths.specs.Paths.{IsPath}
use Rattle.sdf_paths.proofs.Shapes.{path_taken}
use Rattle.sdf_paths.proofs.path.Path.up.Goals as goal

pub invariant_of-result : goal.invariant_of-result
invariant_of-result c = subst IsPath (sym c.in_ok-front.ensures) (path_taken c.self.inside.elements _ c.self.invariant)

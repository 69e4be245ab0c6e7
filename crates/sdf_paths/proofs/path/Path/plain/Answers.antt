use Rattle.std.proofs.Common.{sym, subst}
use Rattle.sdf_paths.specs.Paths.{IsPath}
use Rattle.sdf_paths.proofs.Shapes.{plain_path}
use Rattle.sdf_paths.proofs.path.Path.plain.Goals as goal

pub invariant_of-result : goal.invariant_of-result
invariant_of-result c = subst IsPath (sym c.in_ok-plain.ensures) (plain_path c.self.inside.elements c.self.invariant)

pub returns-in_err-plain-clause-path : goal.returns-in_err-plain-clause-path
returns-in_err-plain-clause-path c = rw (← c.self.view_is) (plain_path c.self.inside.elements c.self.invariant)

pub returns-clause-path : goal.returns-clause-path
returns-clause-path c = rw (← c.self.view_is) (plain_path c.self.inside.elements c.self.invariant)

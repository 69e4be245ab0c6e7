use Rattle.composition.proofs.Same.{path_told}
use Rattle.class_arcs.proofs.class.same_path.Goals as goal

pub returns : goal.returns
returns c = path_told c.args.p.now c.args.q.now c.same.result c.same.ensures

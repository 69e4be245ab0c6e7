use Rattle.class_arcs.proofs.Fitting.{lifted_is}
use Rattle.class_arcs.proofs.laws.classes_are_lifted_by_arcs.Goals as goal

pub returns : goal.returns
returns c = lifted_is

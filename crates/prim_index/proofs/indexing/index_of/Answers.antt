use Rattle.std.proofs.Common.{◌∙◌, ap}
use Rattle.composition.specs.Paths.{limits}
use Rattle.prim_trees.specs.Meant.{meant}
use Rattle.prim_index.specs.Once.{faults_once}
use Rattle.prim_index.proofs.Answering.{none_result, index_some}
use Rattle.prim_index.proofs.indexing.index_of.Goals as goal

pub returns-then-over : goal.returns-then-over
returns-then-over c =
    none_result limits (meant c.args.tree.now) c.is_overgrown_on_the_way-over.result c.overgrown.result c.is_overgrown_on_the_way-over.ensures c.if-over.true c.overgrown.ensures

pub returns : goal.returns
returns c =
    c.told.ensures
    ∙ index_some limits (meant c.args.tree.now) c.is_overgrown_on_the_way-over.result c.in_ok-choices.choices c.in_ok-found.found c.in_ok-faults.faults
    c.is_overgrown_on_the_way-over.ensures c.if-over.false c.in_ok-choices.ensures c.in_ok-found.ensures
    (c.in_ok-faults.ensures ∙ ap faults_once (c.as_slice.ensures ∙ c.in_ok-all.ensures))

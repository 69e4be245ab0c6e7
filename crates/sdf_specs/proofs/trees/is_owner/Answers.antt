use Rattle.std.proofs.Common.{◌∙◌, ap, true, false, Option}
use Rattle.std.specs.Option.{is_some}
use Rattle.sdf_specs.proofs.Ordered.{at_is}
use Rattle.sdf_specs.proofs.TreeLemmas.{owner_is}
use Rattle.sdf_specs.proofs.trees.is_owner.Goals as goal

pub returns-then-is_root : goal.returns-then-is_root
returns-then-is_root g c = c.if-is_root.true ∙ owner_is c.args.path.now c.args.specs.now true c.if-is_root.ensures

pub returns-else-is_root : goal.returns-else-is_root
returns-else-is_root g c =
    c.has.ensures ∙ (ap (λ (o : Option g.row.V.Denot). is_some o) (at_is c.args.path.now c.args.specs.now) ∙ owner_is c.args.path.now c.args.specs.now false c.if-is_root.ensures)

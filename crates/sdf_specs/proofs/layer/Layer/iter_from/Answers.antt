use Rattle.std.proofs.Common.{◌∙◌}
use Rattle.sdf_specs.proofs.Ordered.{ordered_view, from_view}
use Rattle.sdf_specs.proofs.layer.Layer.iter_from.Goals as goal

pub returns-clause-rest : goal.returns-clause-rest
returns-clause-rest c = c.iter_from.ensures.rest ∙ from_view c.self.inside.head c.self.inside.specs c.args.self.now c.self.view_is c.args.path.now

pub returns-clause-order : goal.returns-clause-order
returns-clause-order c = ordered_view c.self.inside.head c.self.inside.specs c.args.self.now c.self.view_is c.iter_from.ensures.order

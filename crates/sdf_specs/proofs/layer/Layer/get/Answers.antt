use Rattle.std.proofs.Common.{◌∙◌}
use Rattle.sdf_specs.proofs.Ordered.{at_view}
use Rattle.sdf_specs.proofs.layer.Layer.get.Goals as goal

pub returns : goal.returns
returns c = c.get.ensures ∙ at_view c.self.inside.head c.self.inside.specs c.args.self.now c.self.view_is c.args.path.now

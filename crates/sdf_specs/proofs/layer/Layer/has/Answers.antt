use Rattle.std.proofs.Common.{◌∙◌, ap, Option}
use Rattle.std.specs.Option.{is_some}
use Rattle.spec_parts.specs.declared.spec.Spec.{Spec}
use Rattle.sdf_specs.proofs.Ordered.{at_view}
use Rattle.sdf_specs.proofs.layer.Layer.has.Goals as goal

pub returns : goal.returns
returns c = c.has.ensures ∙ ap (λ (o : Option Spec). is_some o) (at_view c.self.inside.head c.self.inside.specs c.args.self.now c.self.view_is c.args.path.now)

use Rattle.std.proofs.Common.{◌∙◌, ap, Option}
use Rattle.std.specs.Option.{is_some}
use Rattle.spec_parts.specs.declared.spec.Spec.{Spec}
use Rattle.usda_drafts.specs.Closed.{is_closed}
use Rattle.usda_drafts.proofs.ByPath.{at_is}
use Rattle.usda_drafts.proofs.table.has_spec.Goals as goal

pub returns : goal.returns
unfolding is_closed
returns c = c.has.ensures ∙ ap (λ (o : Option Spec). is_some o) (at_is c.args.path.now c.args.specs.now)

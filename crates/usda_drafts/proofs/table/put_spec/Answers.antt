use Rattle.std.proofs.Common.{◌∙◌}
use Rattle.std.proofs.lemmas.Result.{IfOk-weaker}
use Rattle.usda_drafts.specs.Closed.{with_spec_at}
use Rattle.usda_drafts.proofs.ByPath.{with_is}
use Rattle.usda_drafts.proofs.table.put_spec.Goals as goal

pub returns : goal.returns
unfolding with_spec_at
returns c = IfOk-weaker c.insert.result _ _ (λ u put. put ∙ with_is c.args.path c.args.specs.now c.args.spec) c.insert.ensures.ok

use Rattle.std.proofs.Common.{◌∙◌, ap, ◌++◌}
use Rattle.composition.specs.Opinions.{Said}
use Rattle.composition.specs.Values.{Given}
use Rattle.value_resolve.specs.Resolving.{fault_if}
use Rattle.value_resolve.proofs.attr.take_opinion.Goals as goal

pub returns-in-Ok-clause-faults : goal.returns-in-Ok-clause-faults
returns-in-Ok-clause-faults c =
    c.in-Ok.ensures
    ∙ (ap (λ (s : Said). c.args.faults.now ++ fault_if c.args.name.now s c.in_ok-given.given.left_out) c.said.ensures
    ∙ ap (λ (g : Given). c.args.faults.now ++ fault_if c.args.name.now c.args.opinion.now.said g.left_out) c.in_ok-given.ensures)

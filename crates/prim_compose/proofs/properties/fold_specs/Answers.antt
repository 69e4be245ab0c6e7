use Rattle.std.proofs.Common.{◌∙◌, ap, List, ◌++◌}
use Rattle.composition.specs.Faults.{Fault}
use Rattle.target_resolve.specs.Resolving.{faults_by}
use Rattle.prim_compose.proofs.Propertied.{faults_after}
use Rattle.prim_compose.proofs.properties.fold_specs.Goals as goal

pub returns-in-Ok-clause-faults : goal.returns-in-Ok-clause-faults
returns-in-Ok-clause-faults c =
    c.in-Ok.ensures.faults
    ∙ (ap (λ (l : List Fault). l ++ faults_by c.args.name.now c.args.specs.now) c.in_ok-values.ensures.faults
    ∙ faults_after c.args.faults.now c.args.name.now c.args.specs.now)

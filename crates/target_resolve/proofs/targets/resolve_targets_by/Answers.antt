use Rattle.std.proofs.Common.{◌∙◌, ap, List}
use Rattle.list_ops.specs.declared.op.ListOp.{ListOp}
use Rattle.composition.specs.Paths.{Path}
use Rattle.target_resolve.specs.Translating.{if_any}
use Rattle.target_resolve.proofs.Gathered.{any_is}
use Rattle.target_resolve.proofs.targets.resolve_targets_by.Goals as goal

pub returns-clause-targets : goal.returns-clause-targets
returns-clause-targets c = c.in_ok-targets.ensures ∙ (ap (λ (ops : List (ListOp Path)). if_any ops) c.in_ok-ops.ensures.ops ∙ any_is c.args.specs.now)

use Rattle.std.proofs.Common.{◌∙◌, ap, List, reverse}
use Rattle.sdf_paths.specs.contracts.path.PathPartialEq.TheImpl.{ghosts as path_eq}
use Rattle.list_ops.specs.declared.op.ListOp.{ListOp}
use Rattle.list_ops.specs.ListEdits.{folded}
use Rattle.composition.specs.Paths.{Path}
use Rattle.target_resolve.proofs.Folded.{folded_is}
use Rattle.target_resolve.proofs.edits.folded.Goals as goal

pub returns : goal.returns
returns c =
    c.from_vec.ensures
    ∙ (c.in_ok-fold_ordered.ensures
    ∙ (ap (λ (ops : List (ListOp Path)). folded path_eq.eq ops) (c.deref.ensures.value ∙ (c.reverse.ensures.items ∙ ap (λ (ops : List (ListOp Path)). reverse ops) c.into_vec-opinions.ensures))
    ∙ folded_is c.args.opinions))

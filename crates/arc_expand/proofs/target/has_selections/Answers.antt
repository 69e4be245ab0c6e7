use Rattle.std.proofs.Common.{◌∙◌, ap, Bool, not}
use Rattle.arc_expand.proofs.NoTargets.{selected}
use Rattle.arc_expand.proofs.target.has_selections.Goals as goal

pub returns : goal.returns
returns c = ap (λ (b : Bool). not b) c.is_plain.ensures ∙ selected c.args.path.now

use Rattle.std.proofs.Common.{◌∙◌}
use Rattle.std.proofs.lemmas.Result.{IfOk-weaker}
use Rattle.layer_set.specs.LookUps.{look_ups}
use Rattle.arc_expand.proofs.Authoring.{opinions_are, authored_here}
use Rattle.arc_expand.proofs.authored.authored_at.Goals as goal

pub returns : goal.returns
returns c =
    IfOk-weaker c.authored_in.result _ _
    (λ all is.
    is
    ∙ authored_here (look_ups c.args.world.now) c.args.stack.now.name c.args.at.now c.args.kind c.as_slice.result.now
    (c.as_slice.ensures ∙ (c.in_ok-opinions.ensures ∙ opinions_are (look_ups c.args.world.now) c.args.stack.now c.args.at.now c.requires)))
    c.authored_in.ensures

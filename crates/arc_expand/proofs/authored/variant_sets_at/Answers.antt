use Rattle.std.proofs.Common.{◌∙◌}
use Rattle.std.proofs.lemmas.Result.{IfOk-weaker}
use Rattle.layer_set.specs.LookUps.{look_ups}
use Rattle.arc_expand.proofs.Authoring.{opinions_are, variant_sets_are}
use Rattle.arc_expand.proofs.authored.variant_sets_at.Goals as goal

pub returns : goal.returns
returns c =
    IfOk-weaker c.variant_sets_in.result _ _
    (λ sets is.
    is
    ∙ variant_sets_are (look_ups c.args.world.now) c.args.stack.now.name c.args.at.now c.as_slice.result.now
    (c.as_slice.ensures ∙ (c.in_ok-opinions.ensures ∙ opinions_are (look_ups c.args.world.now) c.args.stack.now c.args.at.now c.requires)))
    c.variant_sets_in.ensures

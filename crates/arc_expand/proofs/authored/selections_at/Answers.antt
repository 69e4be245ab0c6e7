use Rattle.std.proofs.Common.{◌∙◌, ap, List}
use Rattle.std.proofs.lemmas.Result.{IfOk-weaker}
use Rattle.composition.specs.Arcs.{Opinion, selections_of}
use Rattle.layer_set.specs.LookUps.{look_ups}
use Rattle.arc_expand.proofs.Authoring.{opinions_are, selections_are}
use Rattle.arc_expand.proofs.authored.selections_at.Goals as goal

pub returns : goal.returns
returns c =
    IfOk-weaker c.selections_in.result _ _
    (λ all is.
    is
    ∙ (ap (λ (os : List Opinion). selections_of os) c.as_slice.ensures
    ∙ selections_are (look_ups c.args.world.now) c.args.stack.now.name c.args.at.now c.in_ok-opinions.opinions
    (c.in_ok-opinions.ensures ∙ opinions_are (look_ups c.args.world.now) c.args.stack.now c.args.at.now c.requires)))
    c.selections_in.ensures

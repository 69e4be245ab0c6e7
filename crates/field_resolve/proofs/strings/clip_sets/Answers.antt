use Rattle.std.proofs.Common.{◌∙◌, ap}
use Rattle.std.proofs.lemmas.Result.{IfOk-weaker}
use Rattle.field_resolve.specs.Folding.{if_any}
use Rattle.field_resolve.proofs.Folded.{clips_are}
use Rattle.field_resolve.proofs.strings.clip_sets.Goals as goal

pub returns : goal.returns
returns c =
    IfOk-weaker c.if_any.result _ _
    (λ list is. is ∙ (ap if_any c.in_ok-opinions.ensures ∙ clips_are c.args.said.now))
    c.if_any.ensures

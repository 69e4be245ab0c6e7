use Rattle.std.proofs.Common.{◌∙◌, ap, List}
use Rattle.std.proofs.lemmas.Result.{IfOk-weaker}
use Rattle.list_ops.specs.declared.op.ListOp.{ListOp}
use Rattle.composition.specs.Texts.{Text}
use Rattle.field_resolve.specs.Folding.{folded_texts, texts_once}
use Rattle.field_resolve.proofs.Folded.{properties_are}
use Rattle.field_resolve.proofs.names.property_names_of.Goals as goal

pub returns : goal.returns
returns c =
    IfOk-weaker c.texts_once.result _ _
    (λ names is.
    is
    ∙ (ap texts_once c.in_ok-folded_texts.ensures
    ∙ (ap (λ (edits : List (ListOp Text)). texts_once (folded_texts edits)) c.in_ok-edits.ensures
    ∙ properties_are c.args.said.now)))
    c.texts_once.ensures

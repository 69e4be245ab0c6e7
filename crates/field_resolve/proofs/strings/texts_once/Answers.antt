use Rattle.std.proofs.Common.{◌∙◌, ap, Bool}
use Rattle.std.proofs.lemmas.Result.{IfOk-weaker}
use Rattle.list_ops.specs.ListEdits.{firsts}
use Rattle.composition.specs.Texts.{Text}
use Rattle.field_resolve.specs.Folding.{texts_once}
use Rattle.composition.proofs.Same.{text_tests_are}
use Rattle.field_resolve.proofs.strings.texts_once.Goals as goal

pub returns : goal.returns
unfolding texts_once
returns c =
    IfOk-weaker c.firsts.result _ _
    (λ list is. is ∙ ap (λ (test : Text → Text → Bool). firsts test c.args.texts) text_tests_are)
    c.firsts.ensures

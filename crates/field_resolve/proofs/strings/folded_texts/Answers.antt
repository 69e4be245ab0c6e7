use Rattle.std.proofs.Common.{◌∙◌, ap, Bool, reverse}
use Rattle.std.proofs.lemmas.Result.{IfOk-weaker}
use Rattle.list_ops.specs.ListEdits.{folded}
use Rattle.composition.specs.Texts.{Text}
use Rattle.field_resolve.specs.Folding.{folded_texts}
use Rattle.composition.proofs.Same.{text_tests_are}
use Rattle.field_resolve.proofs.strings.folded_texts.Goals as goal

pub returns : goal.returns
unfolding folded_texts
returns c =
    IfOk-weaker c.strongest_folded.result _ _
    (λ list is. is ∙ ap (λ (test : Text → Text → Bool). folded test (reverse c.args.edits.items)) text_tests_are)
    c.strongest_folded.ensures

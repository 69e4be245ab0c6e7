use Rattle.std.proofs.Common.{◌∙◌, ap, sym, Bool, List, reverse}
use Rattle.std.proofs.lemmas.Result.{IfOk-weaker}
use Rattle.list_ops.specs.declared.op.ListOp.{ListOp}
use Rattle.list_ops.specs.ListEdits.{folded}
use Rattle.composition.specs.Texts.{Text, same_text}
use Rattle.composition.proofs.Same.{text_tests_are}
use Rattle.arc_expand.proofs.Authoring.{sets_are}
use Rattle.arc_expand.proofs.NothingSaid.{no_sets}
use Rattle.arc_expand.proofs.authored.variant_sets_in.Goals as goal

pub returns-then-not-are_sets_said : goal.returns-then-not-are_sets_said
returns-then-not-are_sets_said c = c.new.ensures ∙ no_sets c.args.opinions.now (sym c.are_sets_said.ensures ∙ c.if-not-are_sets_said.true)

pub returns : goal.returns
returns c =
    IfOk-weaker c.strongest_folded.result _ _
    (λ sets is.
    is
    ∙ (ap (λ (test : Text → Text → Bool). folded test (reverse c.in_ok-set_edits.field-0.items)) text_tests_are
    ∙ (ap (λ (ops : List (ListOp Text)). folded same_text (reverse ops)) c.in_ok-set_edits.ensures ∙ sets_are c.args.opinions.now)))
    c.strongest_folded.ensures

use Rattle.std.proofs.Common.{◌∙◌, sym, ap}
use Rattle.std.proofs.lemmas.Result.{IfOk-weaker}
use Rattle.sdf_paths.specs.Reader.{path_of}
use Rattle.composition.specs.Texts.{Text}
use Rattle.arc_expand.proofs.Targets.{absolute_target, named_target}
use Rattle.arc_expand.proofs.target.default_target.Goals as goal

pub returns-then-is_absolute : goal.returns-then-is_absolute
returns-then-is_absolute c =
    IfOk-weaker c.path_of.result _ _ (λ t is. is ∙ absolute_target c.args.text.now (sym c.is_absolute.ensures ∙ c.if-is_absolute.true)) c.path_of.ensures.path

pub returns-in_ok-from_root : goal.returns-in_ok-from_root
returns-in_ok-from_root c =
    IfOk-weaker c.path_of-else-is_absolute.result _ _
    (λ t is.
    is
    ∙ (ap (λ (text : Text). path_of text) (c.as_str-else-is_absolute.ensures.same ∙ c.in_ok-from_root.ensures)
    ∙ named_target c.args.text.now (sym c.is_absolute.ensures ∙ c.if-is_absolute.false)))
    c.path_of-else-is_absolute.ensures.path

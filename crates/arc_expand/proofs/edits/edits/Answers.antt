use Rattle.std.proofs.Common.{◌∙◌, sym, ap, ◌∷◌, [], ◌++◌}
use Rattle.composition.specs.Texts.{Text}
use Rattle.composition.specs.Arcs.{Opinion}
use Rattle.arc_expand.specs.Authoring.{edit_of}
use Rattle.arc_expand.proofs.Kept.{kept_more, kept_same, edit_some, edit_none}
use Rattle.arc_expand.proofs.edits.edits.Goals as goal
use Rattle.arc_expand.proofs.edits.edits.Goals.{in-Some+in_ok-push_edit, in_default}

pub loop-opinion-preserved : goal.loop-opinion-preserved
loop-opinion-preserved c =
    elim c.match-branch-2.branch [
      | in-Some+in_ok-push_edit w ↦
          kept_more (edit_of c.args.kind) c.args.opinions.now c.loop-opinion.opinion-index c.opinion-item.result
          c.loop-opinion-test.true c.opinion-item.is (c.opinion-item.result.layer, w.in-Some.edit) c.loop-opinion.all c.match-branch-2.all
          (edit_some c.args.kind c.opinion-item.result w.in-Some.edit (sym c.in_ok-edit.ensures ∙ w.in-Some.is))
          (w.all-is ∙ (w.in_ok-push_edit.ensures ∙ ap (λ (l : Text). c.loop-opinion.all ++ (l, w.in-Some.edit) ∷ []) (ap (λ (o : Opinion). o.layer) c.opinion.view_is))) c.loop-opinion.invariant
      | in_default w ↦
          kept_same (edit_of c.args.kind) c.args.opinions.now c.loop-opinion.opinion-index c.opinion-item.result
          c.loop-opinion-test.true c.opinion-item.is c.loop-opinion.all c.match-branch-2.all
          (edit_none c.args.kind c.opinion-item.result (sym c.in_ok-edit.ensures ∙ w.in_default.is))
          w.all-is c.loop-opinion.invariant
    ]

use Rattle.std.proofs.Common.{◌∙◌, ap, List}
use Rattle.std.proofs.lemmas.Result.{IfOk-weaker}
use Rattle.sdf_values.specs.Scales.{Offset}
use Rattle.composition.specs.Texts.{Text}
use Rattle.layer_set.specs.LookUps.{look_ups}
use Rattle.prim_compose.specs.Composed.{named_by}
use Rattle.prim_compose.proofs.Rooted.{root_done}
use Rattle.prim_compose.proofs.root.root_view.Goals as goal

pub returns : goal.returns
returns c =
    let w = look_ups c.args.world.now in
    let names = c.as_slice-2.ensures ∙ (c.in_ok-names.ensures ∙ ap (λ (l : List (Text × Offset)). named_by w l) (c.as_slice.ensures ∙ c.in_ok-stack.ensures.layers)) in
    IfOk-weaker c.view_of.result _ _
    (λ view is. is ∙ root_done w c.in_ok-meta.meta c.as_slice-2.result.now c.in_ok-stack.stack.faults c.in_ok-meta.ensures names c.in_ok-stack.ensures.faults)
    c.view_of.ensures

use Rattle.std.proofs.Common.{◌∙◌, ap, arith, List}
use Rattle.std.specs.Prelude.{flat_map}
use Rattle.std.proofs.lemmas.List.{take_all}
use Rattle.std.proofs.lemmas.Result.{IfOk-weaker}
use Rattle.sdf_values.specs.Scales.{Offset}
use Rattle.composition.specs.Texts.{Text}
use Rattle.field_resolve.specs.Folding.{texts_once}
use Rattle.layer_set.specs.LookUps.{look_ups}
use Rattle.prim_compose.specs.Composed.{namings_of}
use Rattle.prim_compose.proofs.Rooted.{names_done}
use Rattle.prim_compose.proofs.root.root_names.Goals as goal

pub returns : goal.returns
returns c =
    let w = look_ups c.args.world.now in
    let all = c.loop-layer.invariant ∙ ap (λ (l : List (Text × Offset)). flat_map (λ e. namings_of (w.roots e.0)) l) (take_all c.loop-layer.layer-index c.args.layers.now (omega arith)) in
    IfOk-weaker c.texts_once.result _ _
    (λ names is. is ∙ (ap texts_once c.in_ok-folded_texts.ensures ∙ names_done w c.args.layers.now c.loop-layer.edits.items all))
    c.texts_once.ensures

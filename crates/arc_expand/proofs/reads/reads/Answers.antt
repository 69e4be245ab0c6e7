use Rattle.std.proofs.Common.{◌∙◌, ap, List, ◌++◌, map}
use Rattle.sdf_values.specs.Scales.{Offset}
use Rattle.composition.specs.Texts.{Text}
use Rattle.layer_set.specs.LookUps.{look_ups}
use Rattle.layer_set.specs.declared.key.Key.{Key}
use Rattle.layer_set.specs.declared.key.Key.TheVariants.{Head, Arcs}
use Rattle.layer_stack.specs.Meant.{each_once}
use Rattle.arc_expand.specs.Arcs.{reads}
use Rattle.arc_expand.proofs.Asking.{asked_agree}
use Rattle.arc_expand.proofs.reads.reads.Goals as goal

pub returns : goal.returns
unfolding reads
returns c =
    c.in_ok-push_heads.ensures
    ∙ (ap (λ (keys : List Key). keys ++ map Head c.as_slice-2.result.now) c.in_ok-keys.ensures
    ∙ (ap (λ (layers : List (Text × Offset)). map (λ e. Arcs e.0 c.args.at.now) layers ++ map Head c.as_slice-2.result.now) c.as_slice.ensures
    ∙ ap (λ (names : List Text). map (λ e. Arcs e.0 c.args.at.now) c.args.stack.now.layers ++ map Head names)
    (c.as_slice-2.ensures ∙ (c.in_ok-names.ensures ∙ (ap each_once c.in_ok-asked.ensures ∙ asked_agree (look_ups c.args.world.now) c.args.kind c.args.all.now)))))

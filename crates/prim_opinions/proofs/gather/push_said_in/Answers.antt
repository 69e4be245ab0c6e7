use Rattle.std.proofs.Common.{◌∙◌, ap, List, ◌++◌}
use Rattle.std.specs.Prelude.{option_to_list}
use Rattle.layer_set.specs.LookUps.{look_ups}
use Rattle.composition.specs.Opinions.{Said}
use Rattle.prim_opinions.specs.Gathering.{said_by}
use Rattle.prim_opinions.proofs.Gathered.{none_in, said_next}
use Rattle.prim_opinions.proofs.gather.push_said_in.Goals as goal

pub loop-layer-init : goal.loop-layer-init
loop-layer-init c = none_in (look_ups c.args.world.now) c.args.site.now c.args.out.now

pub loop-layer-preserved : goal.loop-layer-preserved
loop-layer-preserved c =
    c.in_ok-push_said_by.ensures
    ∙ (ap (λ (said : List Said). said ++ option_to_list (said_by (look_ups c.args.world.now) c.args.site.now c.loop-layer-item.result)) c.loop-layer.invariant
    ∙ said_next (look_ups c.args.world.now) c.args.site.now c.args.out.now c.args.layers.now c.loop-layer.layer-index c.loop-layer-item.result c.loop-layer-test.true c.loop-layer-item.is)

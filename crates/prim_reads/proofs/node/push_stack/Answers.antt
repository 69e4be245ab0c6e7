use Rattle.std.proofs.Common.{◌++◌, List, map, ap, ◌∙◌}
use Rattle.composition.specs.Texts.{Text}
use Rattle.sdf_values.specs.Scales.{Offset}
use Rattle.layer_set.specs.LookUps.{look_ups}
use Rattle.layer_set.specs.declared.key.Key.TheVariants.{Head}
use Rattle.prim_reads.specs.Gathered.{level_arcs}
use Rattle.prim_reads.proofs.Steps.{stack_told}
use Rattle.prim_reads.proofs.node.push_stack.Goals as goal

pub returns : goal.returns
returns c =
    stack_told (look_ups c.args.world.now) c.args.node.now c.in_ok-found.found.layers c.in_ok-found.found.asked c.args.out.now c.push_levels.new.out c.push_heads.new.out
    c.in_ok-found.ensures.layers c.in_ok-found.ensures.asked
    (c.in_ok-push_levels.ensures ∙ ap (λ (ls : List (Text × Offset)). c.args.out.now ++ level_arcs ls c.args.node.now.path) c.as_slice.ensures)
    (c.in_ok-push_heads.ensures ∙ ap (λ (names : List Text). c.push_levels.new.out ++ map Head names) c.as_slice-2.ensures)

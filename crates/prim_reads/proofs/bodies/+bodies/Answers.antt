use Rattle.std.proofs.Common.{◌++◌, List, map, ap, ◌∙◌}
use Rattle.layer_set.specs.LookUps.{look_ups}
use Rattle.prim_trees.specs.declared.tree.Child.{Child}
use Rattle.prim_trees.specs.Meant.{led}
use Rattle.prim_reads.specs.Gathered.{led_bodies}
use Rattle.prim_reads.proofs.Steps.{bodies_gathered}
use Rattle.prim_reads.proofs.bodies.+bodies.Goals as goal

pub push_tree-returns : goal.push_tree-returns
push_tree-returns t c =
    bodies_gathered (look_ups c.args.world.now) c.args.tree.now c.args.out.now c.push_bodies_at.new.out c.push_children.new.out c.push_children-2.new.out c.in_ok-push_bodies_at.ensures
    (c.in_ok-push_children.ensures ∙ ap (λ (cs : List Child). c.push_bodies_at.new.out ++ led_bodies (look_ups c.args.world.now) (map led cs)) c.as_slice.ensures)
    (c.in_ok-push_children-2.ensures ∙ ap (λ (cs : List Child). c.push_children.new.out ++ led_bodies (look_ups c.args.world.now) (map led cs)) c.as_slice-2.ensures)

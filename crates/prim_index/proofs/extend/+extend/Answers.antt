use Rattle.std.proofs.Common.{◌≡◌, ◌∙◌, sym, ap, refl, arith, ◌+◌, ◌-◌, List, drop, Some, None}
use Rattle.std.specs.Prelude.{option_map}
use Rattle.std.proofs.lemmas.Result.{IfOk-weaker}
use Rattle.prim_nodes.specs.declared.arcs.Branch.{Branch}
use Rattle.composition.specs.Paths.{limits}
use Rattle.composition.specs.Trees.{size, lifted_branches}
use Rattle.layer_set.specs.LookUps.{look_ups}
use Rattle.prim_trees.specs.declared.tree.Child.{Child}
use Rattle.prim_trees.specs.Meant.{meant, trees_of}
use Rattle.prim_index.specs.Extending.{arc_tree, grown_from, known_of, found_in}
use Rattle.prim_index.proofs.Grown.{at_item, past_items, room_next, room_cut}
use Rattle.prim_index.proofs.Extended.{all_below, none_below, next_below, extended_made, no_more_known, known_here, known_later, known_own, known_lifted, known_nowhere, known_not_yet}
use Rattle.prim_index.proofs.extend.+extend.Goals as goal
use Rattle.prim_index.proofs.extend.+extend.Goals.{child_below-then-branch-gt0+in_ok-own+in_default+in_ok-lifted+in_default-lifted, child_below-else-branch-gt0}

pub extended_tree_by-returns-in-Ok-grown_below : goal.extended_tree_by-returns-in-Ok-grown_below
extended_tree_by-returns-in-Ok-grown_below t c =
    let both = c.in-Ok-grown_below.grown in
    extended_made (look_ups c.args.world.now) c.args.frame.now c.args.name.now c.args.tree.now c.args.room c.saturating_sub-left.result c.in_ok-node.node c.in-Ok.here
    (trees_of both.0.children both.0.is_cut) (trees_of both.1.children both.1.is_cut) (meant c.joined_tree.result)
    c.in_ok-node.ensures c.in-Ok.ensures c.saturating_sub-left.ensures c.in-Ok-grown_below.ensures.own c.in-Ok-grown_below.ensures.lifted c.joined_tree.ensures

pub grown_below-returns-clause-own : goal.grown_below-returns-clause-own
grown_below-returns-clause-own t c =
    c.in_ok-own.ensures.trees
    ∙ ap (λ (bs : List Branch). grown_from (arc_tree (look_ups c.args.world.now) c.args.frame.now c.args.name.now (meant c.args.tree.now) c.args.node.now) c.args.room bs) (c.as_slice.ensures ∙ c.in_ok-arcs.ensures)

pub grown_below-returns-clause-lifted : goal.grown_below-returns-clause-lifted
grown_below-returns-clause-lifted t c =
    let more = c.as_slice-3.ensures ∙ c.in_ok-arcs-2.ensures c.in_ok-own.own.is_cut
    ∙ ap (λ (cs : List Child). lifted_branches limits c.args.node.now (trees_of cs c.in_ok-own.own.is_cut)) c.as_slice-2.ensures in
    c.in_ok-lifted.ensures.trees
    ∙ (λ i. grown_from (arc_tree (look_ups c.args.world.now) c.args.frame.now c.args.name.now (meant c.args.tree.now) c.args.node.now) (c.in_ok-own.ensures.room i) (more i))

pub children_below-returns-then-left-eq0-clause-trees : goal.children_below-returns-then-left-eq0-clause-trees
children_below-returns-then-left-eq0-clause-trees t c =
    let rest = at_item c.args.arcs.now c.loop-branch.branch-index c.branch-item.result (omega arith) c.branch-item.is in
    none_below (arc_tree (look_ups c.args.world.now) c.args.frame.now c.args.name.now (meant c.args.tree.now) c.args.node.now) c.loop-branch.children (drop c.loop-branch.branch-index c.args.arcs.now)
    c.branch-item.result (drop (c.loop-branch.branch-index + 1) c.args.arcs.now) c.loop-branch.left
    (grown_from (arc_tree (look_ups c.args.world.now) c.args.frame.now c.args.name.now (meant c.args.tree.now) c.args.node.now) c.args.room c.args.arcs.now)
    c.if-left-eq0.true rest c.loop-branch.invariant.trees

pub children_below-returns-then-left-eq0-clause-room : goal.children_below-returns-then-left-eq0-clause-room
children_below-returns-then-left-eq0-clause-room t c = room_cut c.loop-branch.children c.args.room c.loop-branch.left c.if-left-eq0.true c.loop-branch.invariant.room

pub children_below-loop-branch-preserved : goal.children_below-loop-branch-preserved
children_below-loop-branch-preserved t c =
    let rest = at_item c.args.arcs.now c.loop-branch.branch-index c.branch-item.result (omega arith) c.branch-item.is in
    let next : c.saturating_sub-left.result ≡ c.loop-branch.left - size (meant c.in_ok-below.below) =
    omega (arith, c.loop-branch.invariant.room, c.ranges.room.fits, c.size.ensures, c.saturating_sub-left.ensures) in
    record {
      trees = next_below (arc_tree (look_ups c.args.world.now) c.args.frame.now c.args.name.now (meant c.args.tree.now) c.args.node.now) c.loop-branch.children c.push.new.self c.in_ok-child.child
          c.branch-item.result (drop c.loop-branch.branch-index c.args.arcs.now) (drop (c.loop-branch.branch-index + 1) c.args.arcs.now) c.loop-branch.left c.saturating_sub-left.result
          (grown_from (arc_tree (look_ups c.args.world.now) c.args.frame.now c.args.name.now (meant c.args.tree.now) c.args.node.now) c.args.room c.args.arcs.now) (meant c.in_ok-below.below)
          (omega arith) c.in_ok-push.ensures.ok c.in_ok-child.ensures c.in_ok-below.ensures next rest c.loop-branch.invariant.trees;
      room = room_next c.loop-branch.children c.push.new.self c.in_ok-child.child c.branch-item.result c.args.room c.loop-branch.left c.saturating_sub-left.result (meant c.in_ok-below.below)
          c.loop-branch.invariant.room c.in_ok-push.ensures.ok c.in_ok-child.ensures next;
    }

pub children_below-returns-clause-trees : goal.children_below-returns-clause-trees
children_below-returns-clause-trees t c =
    all_below (arc_tree (look_ups c.args.world.now) c.args.frame.now c.args.name.now (meant c.args.tree.now) c.args.node.now) c.loop-branch.children (drop c.loop-branch.branch-index c.args.arcs.now)
    c.loop-branch.left (grown_from (arc_tree (look_ups c.args.world.now) c.args.frame.now c.args.name.now (meant c.args.tree.now) c.args.node.now) c.args.room c.args.arcs.now)
    (past_items c.args.arcs.now c.loop-branch.branch-index c.loop-branch-test.false) c.loop-branch.invariant.trees

pub child_below-returns-in-Some : goal.child_below-returns-in-Some
child_below-returns-in-Some t c =
    known_own (look_ups c.args.world.now) c.args.frame.now c.args.name.now c.args.tree.now c.args.node.now c.args.branch.now c.args.room (meant c.in-Some.below)
    (ap (λ o. option_map meant o) (sym c.in-Some.is) ∙ c.in_ok-own.ensures
    ∙ ap (λ (cs : List Child). found_in (known_of (look_ups c.args.world.now) c.args.frame.now c.args.name.now cs) c.args.branch.now c.args.room) c.as_slice.ensures)

pub child_below-returns-in-Some-lifted : goal.child_below-returns-in-Some-lifted
child_below-returns-in-Some-lifted t c =
    known_lifted (look_ups c.args.world.now) c.args.frame.now c.args.name.now c.args.tree.now c.args.node.now c.args.branch.now c.args.room (meant c.in-Some-lifted.below)
    (ap (λ o. option_map meant o) (sym c.in_default.is) ∙ c.in_ok-own.ensures
    ∙ ap (λ (cs : List Child). found_in (known_of (look_ups c.args.world.now) c.args.frame.now c.args.name.now cs) c.args.branch.now c.args.room) c.as_slice.ensures)
    (ap (λ o. option_map meant o) (sym c.in-Some-lifted.is) ∙ c.in_ok-lifted.ensures
    ∙ ap (λ (cs : List Child). found_in (known_of (look_ups c.args.world.now) c.args.frame.now c.args.name.now cs) c.args.branch.now c.args.room) c.as_slice-then-branch-gt0.ensures)

pub child_below-returns : goal.child_below-returns
child_below-returns t c =
    IfOk-weaker c.fresh_child.result _ _
    (λ x made. elim c.if-branch-gt0.branch [
      | child_below-then-branch-gt0+in_ok-own+in_default+in_ok-lifted+in_default-lifted w ↦
          known_nowhere (look_ups c.args.world.now) c.args.frame.now c.args.name.now c.args.tree.now c.args.node.now c.args.branch.now c.args.room (meant x)
          (ap (λ o. option_map meant o) (sym w.in_default.is) ∙ w.in_ok-own.ensures
          ∙ ap (λ (cs : List Child). found_in (known_of (look_ups c.args.world.now) c.args.frame.now c.args.name.now cs) c.args.branch.now c.args.room) w.as_slice.ensures)
          (ap (λ o. option_map meant o) (sym w.in_default-lifted.is) ∙ w.in_ok-lifted.ensures
          ∙ ap (λ (cs : List Child). found_in (known_of (look_ups c.args.world.now) c.args.frame.now c.args.name.now cs) c.args.branch.now c.args.room) w.as_slice-then-branch-gt0.ensures)
          made
      | child_below-else-branch-gt0 w ↦
          known_not_yet (look_ups c.args.world.now) c.args.frame.now c.args.name.now c.args.tree.now c.args.node.now c.args.branch.now c.args.room (meant x)
          (omega (arith, w.if-branch-gt0.false)) made
    ])
    c.fresh_child.ensures

pub known_below-returns-then-is_same_arc : goal.known_below-returns-then-is_same_arc
known_below-returns-then-is_same_arc t c =
    let rest = at_item c.args.children.now c.loop-child.child-index c.child-item.result (omega arith) c.child-item.is in
    known_here (look_ups c.args.world.now) c.args.frame.now c.args.name.now (drop (c.loop-child.child-index + 1) c.args.children.now) (drop c.loop-child.child-index c.args.children.now)
    c.child-item.result c.args.branch.now c.args.room c.is_same_arc.result (meant c.in_ok-below.below)
    (found_in (known_of (look_ups c.args.world.now) c.args.frame.now c.args.name.now c.args.children.now) c.args.branch.now c.args.room)
    rest c.is_same_arc.ensures c.if-is_same_arc.true c.in_ok-below.ensures c.loop-child.invariant

pub known_below-loop-child-preserved : goal.known_below-loop-child-preserved
known_below-loop-child-preserved t c =
    let rest = at_item c.args.children.now c.loop-child.child-index c.child-item.result (omega arith) c.child-item.is in
    known_later (look_ups c.args.world.now) c.args.frame.now c.args.name.now (drop (c.loop-child.child-index + 1) c.args.children.now) (drop c.loop-child.child-index c.args.children.now)
    c.child-item.result c.args.branch.now c.args.room c.is_same_arc.result
    (found_in (known_of (look_ups c.args.world.now) c.args.frame.now c.args.name.now c.args.children.now) c.args.branch.now c.args.room)
    rest c.is_same_arc.ensures c.if-is_same_arc.false c.loop-child.invariant

pub known_below-returns : goal.known_below-returns
known_below-returns t c =
    no_more_known (look_ups c.args.world.now) c.args.frame.now c.args.name.now (drop c.loop-child.child-index c.args.children.now) c.args.branch.now c.args.room
    (found_in (known_of (look_ups c.args.world.now) c.args.frame.now c.args.name.now c.args.children.now) c.args.branch.now c.args.room)
    (past_items c.args.children.now c.loop-child.child-index c.loop-child-test.false) c.loop-child.invariant

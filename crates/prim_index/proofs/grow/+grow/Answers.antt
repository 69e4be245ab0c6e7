use Rattle.std.proofs.Common.{◌≡◌, ◌∙◌, ap, refl, arith, ◌+◌, ◌-◌, List, drop}
use Rattle.prim_nodes.specs.declared.arcs.Branch.{Branch}
use Rattle.composition.specs.Trees.{size, lifted_branches}
use Rattle.prim_trees.specs.declared.tree.Child.{Child}
use Rattle.composition.specs.Paths.{limits}
use Rattle.layer_set.specs.LookUps.{look_ups}
use Rattle.prim_trees.specs.Meant.{meant, trees_of}
use Rattle.prim_index.specs.Loading.{loads}
use Rattle.prim_index.specs.Reading.{said}
use Rattle.prim_index.specs.Depths.{grown_below}
use Rattle.prim_index.proofs.Grown.{at_item, past_items, all_done, no_room, grown_next, room_next, room_cut}
use Rattle.prim_index.proofs.Steps.{variant_result, end_result, child_result, frames_end, frames_result, round_result, rounds_end, rounds_settled, rounds_result, tree_end, tree_made}
use Rattle.prim_index.proofs.grow.+grow.Goals as goal

pub child_at-returns-then-same_kind : goal.child_at-returns-then-same_kind
child_at-returns-then-same_kind t c =
    variant_result limits (said limits (look_ups c.args.world.now)) c.args.depth c.args.steps c.args.room c.args.node.now c.in_ok-chosen_child.field-0 c.args.branch.now
    c.same_kind.result c.tree_at.result c.same_kind.ensures c.if-same_kind.true c.in_ok-chosen_child.ensures c.tree_at.ensures

pub child_at-returns-then-depth-eq0 : goal.child_at-returns-then-depth-eq0
child_at-returns-then-depth-eq0 t c =
    end_result limits (said limits (look_ups c.args.world.now)) c.args.depth c.args.steps c.args.room c.args.node.now c.args.branch.now
    c.same_kind.result c.last_child.result c.same_kind.ensures c.if-same_kind.false c.if-depth-eq0.true c.last_child.ensures

pub child_at-returns : goal.child_at-returns
child_at-returns t c =
    child_result limits (said limits (look_ups c.args.world.now)) (look_ups c.args.world.now) c.args.depth c.args.steps c.args.room 4096 c.path_length-count.result c.args.node.now
    c.in_ok-target.target c.in_ok-child.child c.in-Ok.above c.args.branch.now c.same_kind.result c.tree_at-2.result c.same_kind.ensures c.if-same_kind.false (omega arith) refl
    c.in_ok-target.ensures c.path_length-count.ensures c.in-Ok.ensures c.in_ok-child.ensures c.tree_at-2.ensures

pub frames_at-returns-then-count-eq0 : goal.frames_at-returns-then-count-eq0
frames_at-returns-then-count-eq0 t c =
    frames_end limits (said limits (look_ups c.args.world.now)) c.args.depth c.args.count (loads (look_ups c.args.world.now) c.args.payloads) c.args.node.now c.new.result c.new.ensures c.if-count-eq0.true

pub frames_at-returns : goal.frames_at-returns
frames_at-returns t c =
    frames_result limits (said limits (look_ups c.args.world.now)) c.args.depth c.args.count 16 (loads (look_ups c.args.world.now) c.args.payloads) c.args.node.now c.in_ok-there.there
    c.in_ok-above.above c.in_ok-path.path c.first_frame-first.result c.in-Ok.frame c.in_ok-on.on c.with_first.result (omega arith) refl c.in_ok-above.ensures c.in_ok-path.ensures
    c.in_ok-on.ensures c.first_frame-first.ensures c.in_ok-there.ensures c.in-Ok.ensures c.with_first.ensures

pub round_at-returns : goal.round_at-returns
round_at-returns t c =
    round_result limits (said limits (look_ups c.args.world.now)) c.args.depth 4096 c.args.node.now c.in_ok-there.there c.args.above.now c.args.frame (meant c.in_ok-tree.tree)
    c.next_frame-next.result refl c.in_ok-there.ensures c.in_ok-tree.ensures c.next_frame-next.ensures

pub rounds_at-returns-then-rounds-eq0 : goal.rounds_at-returns-then-rounds-eq0
rounds_at-returns-then-rounds-eq0 t c =
    rounds_end limits (said limits (look_ups c.args.world.now)) c.args.depth c.args.rounds c.args.node.now c.args.above.now c.args.frame c.if-rounds-eq0.true

pub rounds_at-returns-then-settled : goal.rounds_at-returns-then-settled
rounds_at-returns-then-settled t c =
    rounds_settled limits (said limits (look_ups c.args.world.now)) c.args.depth c.args.rounds c.choice_count-count.result c.args.node.now c.args.above.now c.args.frame c.in_ok-next.next
    c.is_settled-settled.result (omega arith) c.in_ok-next.ensures c.choice_count-count.ensures c.is_settled-settled.ensures c.if-settled.true

pub rounds_at-returns : goal.rounds_at-returns
rounds_at-returns t c =
    rounds_result limits (said limits (look_ups c.args.world.now)) c.args.depth c.args.rounds c.choice_count-count.result c.args.node.now c.args.above.now c.args.frame c.in_ok-next.next
    c.is_settled-settled.result c.rounds_at.result (omega arith) c.in_ok-next.ensures c.choice_count-count.ensures c.is_settled-settled.ensures c.if-settled.false c.rounds_at.ensures

pub tree_at-returns-then-steps-eq0 : goal.tree_at-returns-then-steps-eq0
tree_at-returns-then-steps-eq0 t c =
    tree_end limits (said limits (look_ups c.args.world.now)) c.args.depth c.args.steps c.args.room c.args.node c.in-Ok.here (meant c.cut_tree.result) c.in-Ok.ensures
    c.if-steps-eq0.true c.cut_tree.ensures

pub tree_at-returns-in-Ok-grown_at : goal.tree_at-returns-in-Ok-grown_at
tree_at-returns-in-Ok-grown_at t c =
    let both = c.in-Ok-grown_at.grown in
    tree_made limits (said limits (look_ups c.args.world.now)) c.args.depth c.args.steps c.args.room c.saturating_sub-room.result _ c.args.node c.in-Ok.here
    (trees_of both.0.children both.0.is_cut) (trees_of both.1.children both.1.is_cut) _ _
    (meant c.joined_tree.result) (omega arith) c.in-Ok.ensures c.saturating_sub-room.ensures refl c.in-Ok-grown_at.ensures.own refl refl c.in-Ok-grown_at.ensures.lifted c.joined_tree.ensures

pub grown_at-returns-clause-own : goal.grown_at-returns-clause-own
grown_at-returns-clause-own t c =
    c.in_ok-own.ensures.trees
    ∙ ap (λ (bs : List Branch). grown_below limits (said limits (look_ups c.args.world.now)) c.args.depth c.args.steps c.args.node.now c.args.room bs) (c.as_slice.ensures ∙ c.in_ok-arcs.ensures)

pub grown_at-returns-clause-lifted : goal.grown_at-returns-clause-lifted
grown_at-returns-clause-lifted t c =
    let more = c.as_slice-3.ensures ∙ c.in_ok-arcs-2.ensures c.in_ok-own.own.is_cut
    ∙ ap (λ (cs : List Child). lifted_branches limits c.args.node.now (trees_of cs c.in_ok-own.own.is_cut)) c.as_slice-2.ensures in
    c.in_ok-lifted.ensures.trees
    ∙ (λ i. grown_below limits (said limits (look_ups c.args.world.now)) c.args.depth c.args.steps c.args.node.now (c.in_ok-own.ensures.room i) (more i))

pub children_at-returns-then-left-eq0-clause-trees : goal.children_at-returns-then-left-eq0-clause-trees
children_at-returns-then-left-eq0-clause-trees t c =
    let rest = at_item c.args.arcs.now c.loop-branch.branch-index c.branch-item.result (omega arith) c.branch-item.is in
    no_room limits (said limits (look_ups c.args.world.now)) c.args.depth c.args.steps c.args.node.now c.loop-branch.children (drop c.loop-branch.branch-index c.args.arcs.now)
    c.branch-item.result (drop (c.loop-branch.branch-index + 1) c.args.arcs.now) c.loop-branch.left
    (grown_below limits (said limits (look_ups c.args.world.now)) c.args.depth c.args.steps c.args.node.now c.args.room c.args.arcs.now)
    c.if-left-eq0.true rest c.loop-branch.invariant.trees

pub children_at-returns-then-left-eq0-clause-room : goal.children_at-returns-then-left-eq0-clause-room
children_at-returns-then-left-eq0-clause-room t c = room_cut c.loop-branch.children c.args.room c.loop-branch.left c.if-left-eq0.true c.loop-branch.invariant.room

pub children_at-loop-branch-preserved : goal.children_at-loop-branch-preserved
children_at-loop-branch-preserved t c =
    let rest = at_item c.args.arcs.now c.loop-branch.branch-index c.branch-item.result (omega arith) c.branch-item.is in
    let next : c.saturating_sub-left.result ≡ c.loop-branch.left - size (meant c.in_ok-tree.tree) =
    omega (arith, c.loop-branch.invariant.room, c.ranges.room.fits, c.size.ensures, c.saturating_sub-left.ensures) in
    record {
      trees = grown_next limits (said limits (look_ups c.args.world.now)) c.args.depth c.args.steps c.args.node.now c.loop-branch.children c.push.new.self c.in_ok-child.child
          c.branch-item.result (drop c.loop-branch.branch-index c.args.arcs.now) (drop (c.loop-branch.branch-index + 1) c.args.arcs.now) c.loop-branch.left c.saturating_sub-left.result
          (grown_below limits (said limits (look_ups c.args.world.now)) c.args.depth c.args.steps c.args.node.now c.args.room c.args.arcs.now) (meant c.in_ok-tree.tree)
          (omega arith) c.in_ok-push.ensures.ok c.in_ok-child.ensures c.in_ok-tree.ensures next rest c.loop-branch.invariant.trees;
      room = room_next c.loop-branch.children c.push.new.self c.in_ok-child.child c.branch-item.result c.args.room c.loop-branch.left c.saturating_sub-left.result (meant c.in_ok-tree.tree)
          c.loop-branch.invariant.room c.in_ok-push.ensures.ok c.in_ok-child.ensures next;
    }

pub children_at-returns-clause-trees : goal.children_at-returns-clause-trees
children_at-returns-clause-trees t c =
    all_done limits (said limits (look_ups c.args.world.now)) c.args.depth c.args.steps c.args.node.now c.loop-branch.children (drop c.loop-branch.branch-index c.args.arcs.now)
    c.loop-branch.left (grown_below limits (said limits (look_ups c.args.world.now)) c.args.depth c.args.steps c.args.node.now c.args.room c.args.arcs.now)
    (past_items c.args.arcs.now c.loop-branch.branch-index c.loop-branch-test.false) c.loop-branch.invariant.trees

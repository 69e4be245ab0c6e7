use Rattle.std.proofs.Common.{◌≡◌, ◌++◌, ◌-◌, ◌==◌, ℕ, Bool, List, map, length, ap, arith, refl, sym, ◌∙◌}
use Rattle.std.proofs.lemmas.Result.{IfOk-weaker}
use Rattle.composition.specs.Paths.{Path, limits}
use Rattle.composition.specs.Nodes.{Node}
use Rattle.layer_set.specs.LookUps.{look_ups}
use Rattle.layer_set.specs.declared.key.Key.{Key}
use Rattle.node_branches.specs.Children.{above_target, node_in_round}
use Rattle.prim_trees.specs.declared.tree.Child.{Child}
use Rattle.prim_trees.specs.declared.tree.Tree.{out-Tree}
use Rattle.prim_trees.specs.Meant.{led, meant}
use Rattle.prim_index.specs.Loading.{loads}
use Rattle.prim_index.specs.Reading.{said}
use Rattle.prim_index.specs.declared.grow.Payloads.TheVariants.{All}
use Rattle.prim_index.proofs.Steps.{frames_end, frames_result, round_result, rounds_end, rounds_settled, rounds_result}
use Rattle.prim_reads.specs.Gathered.{children_keys, names_keys, tree_keys}
use Rattle.prim_reads.proofs.Steps.{two_parts, nothing_more, tree_gathered, variant_none, variant_tree, arc_none, arc_tree, names_none, names_by, frames_read, rounds_none, round_read, rounds_ended, rounds_gone_on}
use Rattle.prim_reads.proofs.gather.+gather.Goals as goal

pub gather_tree-returns : goal.gather_tree-returns
gather_tree-returns t c =
    tree_gathered (look_ups c.args.world.now) c.args.depth c.args.steps c.args.tree.now c.args.out.now c.push_node.new.out c.gather_children.new.out c.gather_children-2.new.out c.in_ok-push_node.ensures
    (c.in_ok-gather_children.ensures ∙ ap (λ (cs : List Child). c.push_node.new.out ++ children_keys (look_ups c.args.world.now) c.args.depth c.args.steps (out-Tree c.args.tree.now).node (map led cs)) c.as_slice.ensures)
    (c.in_ok-gather_children-2.ensures ∙ ap (λ (cs : List Child). c.gather_children.new.out ++ children_keys (look_ups c.args.world.now) c.args.depth c.args.steps (out-Tree c.args.tree.now).node (map led cs)) c.as_slice-2.ensures)

pub gather_child-returns-then-steps-eq0 : goal.gather_child-returns-then-steps-eq0
gather_child-returns-then-steps-eq0 t c =
    nothing_more c.args.out.now c.args.out.now _ refl
    (variant_none (look_ups c.args.world.now) c.args.depth c.args.steps c.args.node.now (led c.args.child.now) c.same_kind.result c.same_kind.ensures c.if-same_kind.true c.if-steps-eq0.true)

pub gather_child-returns-then-same_kind : goal.gather_child-returns-then-same_kind
gather_child-returns-then-same_kind t c =
    c.in_ok-gather_tree.ensures
    ∙ sym (ap (λ (ks : List Key). c.args.out.now ++ ks)
    (variant_tree (look_ups c.args.world.now) c.args.depth c.args.steps c.args.node.now (led c.args.child.now) c.same_kind.result c.same_kind.ensures c.if-same_kind.true (omega (arith, c.if-steps-eq0.false))))

pub gather_child-returns-then-depth-eq0 : goal.gather_child-returns-then-depth-eq0
gather_child-returns-then-depth-eq0 t c =
    nothing_more c.args.out.now c.args.out.now _ refl
    (arc_none (look_ups c.args.world.now) c.args.depth c.args.steps c.args.node.now (led c.args.child.now) c.same_kind.result c.same_kind.ensures c.if-same_kind.false c.if-depth-eq0.true)

pub gather_child-returns : goal.gather_child-returns
gather_child-returns t c =
    two_parts c.args.out.now _ _ c.gather_frames.new.out c.gather_tree-2.new.out
    (frames_read (look_ups c.args.world.now) (c.args.depth - 1) c.path_length-count.result c.in_ok-target.target (above_target (c.args.depth - 1) c.args.node.now (led c.args.child.now).0) c.args.out.now
    c.gather_frames.new.out c.in_ok-target.ensures c.path_length-count.ensures c.in_ok-frames.ensures.read)
    c.in_ok-gather_tree-2.ensures
    ∙ sym (ap (λ (ks : List Key). c.args.out.now ++ ks)
    (arc_tree (look_ups c.args.world.now) c.args.depth c.args.steps c.args.node.now (led c.args.child.now) c.same_kind.result c.same_kind.ensures c.if-same_kind.false (omega (arith, c.if-depth-eq0.false))))

pub gather_frames-returns-then-count-eq0-clause-frames : goal.gather_frames-returns-then-count-eq0-clause-frames
gather_frames-returns-then-count-eq0-clause-frames t c =
    frames_end limits (said limits (look_ups c.args.world.now)) c.args.depth c.args.count (loads (look_ups c.args.world.now) c.args.payloads) c.args.node.now c.new.result c.new.ensures c.if-count-eq0.true

pub gather_frames-returns-then-count-eq0-clause-read : goal.gather_frames-returns-then-count-eq0-clause-read
gather_frames-returns-then-count-eq0-clause-read t c =
    nothing_more c.args.out.now c.args.out.now _ refl (names_none (look_ups c.args.world.now) c.args.depth (loads (look_ups c.args.world.now) c.args.payloads) c.args.node.now c.args.count c.if-count-eq0.true)

pub gather_frames-returns-clause-frames : goal.gather_frames-returns-clause-frames
gather_frames-returns-clause-frames t c =
    frames_result limits (said limits (look_ups c.args.world.now)) c.args.depth c.args.count 16 (loads (look_ups c.args.world.now) c.args.payloads) c.args.node.now c.in_ok-there.there
    c.in_ok-above.above c.in_ok-path.path c.first_frame-first.result c.in-Ok.frame c.in_ok-on.on c.with_first.result (omega (arith, c.if-count-eq0.false)) refl c.in_ok-above.ensures.frames c.in_ok-path.ensures
    c.in_ok-on.ensures c.first_frame-first.ensures c.in_ok-there.ensures c.in-Ok.ensures.frame c.with_first.ensures

pub gather_frames-returns-clause-read : goal.gather_frames-returns-clause-read
gather_frames-returns-clause-read t c =
    IfOk-weaker c.with_first.result _ _
    (λ frames made. names_by (look_ups c.args.world.now) c.args.depth c.args.count (loads (look_ups c.args.world.now) c.args.payloads) c.args.node.now c.in_ok-there.there c.in_ok-above.above
    c.in_ok-path.path c.first_frame-first.result c.in_ok-on.on c.args.out.now c.gather_frames.new.out c.gather_rounds.new.out (omega (arith, c.if-count-eq0.false)) c.in_ok-above.ensures.frames
    c.in_ok-path.ensures c.in_ok-on.ensures c.first_frame-first.ensures c.in_ok-there.ensures c.in_ok-above.ensures.read c.in-Ok.ensures.read)
    c.with_first.ensures

pub gather_round-returns-clause-frame : goal.gather_round-returns-clause-frame
gather_round-returns-clause-frame t c =
    round_result limits (said limits (look_ups c.args.world.now)) c.args.depth 4096 c.args.node.now c.in_ok-there.there c.args.above.now c.args.frame (meant c.in_ok-tree.tree)
    c.next_frame-next.result refl c.in_ok-there.ensures c.in_ok-tree.ensures c.next_frame-next.ensures

pub gather_round-returns-clause-read : goal.gather_round-returns-clause-read
gather_round-returns-clause-read t c =
    IfOk-weaker c.next_frame-next.result _ _
    (λ next made. round_read (look_ups c.args.world.now) c.args.depth 4096 c.args.node.now c.in_ok-there.there c.args.above.now c.args.frame (meant c.in_ok-tree.tree) c.args.out.now
    c.gather_tree.new.out refl c.in_ok-there.ensures c.in_ok-tree.ensures c.in_ok-gather_tree.ensures)
    c.next_frame-next.ensures

pub gather_rounds-returns-then-rounds-eq0-clause-frame : goal.gather_rounds-returns-then-rounds-eq0-clause-frame
gather_rounds-returns-then-rounds-eq0-clause-frame t c =
    rounds_end limits (said limits (look_ups c.args.world.now)) c.args.depth c.args.rounds c.args.node.now c.args.above.now c.args.frame c.if-rounds-eq0.true

pub gather_rounds-returns-then-rounds-eq0-clause-read : goal.gather_rounds-returns-then-rounds-eq0-clause-read
gather_rounds-returns-then-rounds-eq0-clause-read t c =
    nothing_more c.args.out.now c.args.out.now _ refl (rounds_none (look_ups c.args.world.now) c.args.depth c.args.node.now c.args.above.now c.args.frame c.args.rounds c.if-rounds-eq0.true)

pub gather_rounds-returns-then-settled-clause-frame : goal.gather_rounds-returns-then-settled-clause-frame
gather_rounds-returns-then-settled-clause-frame t c =
    rounds_settled limits (said limits (look_ups c.args.world.now)) c.args.depth c.args.rounds c.choice_count-count.result c.args.node.now c.args.above.now c.args.frame c.in_ok-next.next
    c.is_settled-settled.result (omega (arith, c.if-rounds-eq0.false)) c.in_ok-next.ensures.frame c.choice_count-count.ensures c.is_settled-settled.ensures c.if-settled.true

pub gather_rounds-returns-then-settled-clause-read : goal.gather_rounds-returns-then-settled-clause-read
gather_rounds-returns-then-settled-clause-read t c =
    rounds_ended (look_ups c.args.world.now) c.args.depth c.args.rounds c.choice_count-count.result c.args.node.now c.args.above.now c.args.frame c.in_ok-next.next c.is_settled-settled.result
    c.args.out.now c.gather_round.new.out (omega (arith, c.if-rounds-eq0.false)) c.in_ok-next.ensures.frame c.choice_count-count.ensures c.is_settled-settled.ensures c.if-settled.true c.in_ok-next.ensures.read

pub gather_rounds-returns-clause-frame : goal.gather_rounds-returns-clause-frame
gather_rounds-returns-clause-frame t c =
    rounds_result limits (said limits (look_ups c.args.world.now)) c.args.depth c.args.rounds c.choice_count-count.result c.args.node.now c.args.above.now c.args.frame c.in_ok-next.next
    c.is_settled-settled.result c.gather_rounds.result (omega (arith, c.if-rounds-eq0.false)) c.in_ok-next.ensures.frame c.choice_count-count.ensures c.is_settled-settled.ensures c.if-settled.false
    c.gather_rounds.ensures.frame

pub gather_rounds-returns-clause-read : goal.gather_rounds-returns-clause-read
gather_rounds-returns-clause-read t c =
    IfOk-weaker c.gather_rounds.result _ _
    (λ last made. rounds_gone_on (look_ups c.args.world.now) c.args.depth c.args.rounds c.choice_count-count.result c.args.node.now c.args.above.now c.args.frame c.in_ok-next.next
    c.is_settled-settled.result c.args.out.now c.gather_round.new.out c.gather_rounds.new.out (omega (arith, c.if-rounds-eq0.false)) c.in_ok-next.ensures.frame c.choice_count-count.ensures
    c.is_settled-settled.ensures c.if-settled.false c.in_ok-next.ensures.read made)
    c.gather_rounds.ensures.read

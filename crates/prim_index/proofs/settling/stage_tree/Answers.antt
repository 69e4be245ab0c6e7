use Rattle.std.proofs.Common.{refl, arith}
use Rattle.composition.specs.Paths.{limits}
use Rattle.layer_set.specs.LookUps.{look_ups}
use Rattle.prim_trees.specs.Meant.{meant}
use Rattle.prim_index.specs.Settling.{framed}
use Rattle.prim_index.proofs.Answering.{tree_made}
use Rattle.prim_index.proofs.Settled.{bare_stage, stage_framed}
use Rattle.prim_index.proofs.settling.stage_tree.Goals as goal

pub returns-then-count-eq0 : goal.returns-then-count-eq0
returns-then-count-eq0 c =
    tree_made limits (look_ups c.args.world.now) c.args.place.now 64 4096 c.in_ok-begun.begun (meant c.in_ok-tree.tree) refl refl
    (bare_stage limits (look_ups c.args.world.now) c.args.place.now c.path_length-count.result c.in_ok-begun.begun c.in_ok-begun.ensures c.path_length-count.ensures c.if-count-eq0.true)
    c.in_ok-tree.ensures

pub returns : goal.returns
returns c =
    tree_made limits (look_ups c.args.world.now) c.args.place.now 64 4096 (framed c.in_ok-begun.begun c.in-Ok-settled_at.settled.frame c.in-Ok.above) (meant c.in_ok-tree-2.tree) refl refl
    (stage_framed limits (look_ups c.args.world.now) c.args.place.now c.path_length-count.result 16 c.in_ok-begun.begun c.in-Ok.above c.first_frame-first.result c.in-Ok-settled_at.settled.frame
    c.in-Ok-is_loaded.on c.in_ok-begun.ensures c.path_length-count.ensures (omega arith) refl c.in-Ok.ensures c.in-Ok-is_loaded.ensures c.first_frame-first.ensures c.in-Ok-settled_at.ensures.frame)
    c.in_ok-tree-2.ensures

use Rattle.layer_set.specs.LookUps.{look_ups}
use Rattle.prim_index.proofs.Saying.{said_more, above_more}
use Rattle.prim_index.proofs.reading.said_at_levels.Goals as goal

pub loop-level-preserved : goal.loop-level-preserved
loop-level-preserved c = record {
  said = said_more (look_ups c.args.world.now) c.args.stack.now.name c.args.path.now c.loop-level.level c.loop-level.all c.push_said.new.out c.loop-level.author
      c.loop-level.invariant.said c.loop-level.invariant.author c.in_ok-push_said.ensures;
  author = above_more c.args.path.now c.loop-level.author c.in_ok-author-2.author c.loop-level.level c.loop-level.invariant.author c.in_ok-author-2.ensures;
}

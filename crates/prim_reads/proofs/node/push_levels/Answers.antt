use Rattle.std.proofs.Common.{ap, arith, ◌∙◌}
use Rattle.composition.specs.Paths.{levels}
use Rattle.prim_reads.proofs.Steps.{level_start, level_more, level_end}
use Rattle.prim_reads.proofs.node.push_levels.Goals as goal

pub loop-level-init : goal.loop-level-init
loop-level-init c = level_start c.args.layers.now c.args.path.now c.args.out.now

pub loop-level-preserved : goal.loop-level-preserved
loop-level-preserved c =
    level_more c.args.layers.now c.args.path.now c.in_ok-author.author c.loop-level.level c.args.out.now c.loop-level.out c.push_arcs.new.out c.loop-level.invariant c.in_ok-author.ensures
    c.in_ok-push_arcs.ensures

pub returns : goal.returns
returns c =
    level_end c.args.layers.now c.args.path.now c.loop-level.level c.levels-level-end.result c.args.out.now c.loop-level.out c.loop-level.invariant (omega (arith, c.loop-level-test.false, c.loop-level.auto.level-end))
    (c.levels-level-end.ensures ∙ ap levels c.elements.ensures.same)

use Rattle.std.proofs.Common.{◌∙◌, sym, ap, List, ◌++◌, append-nil}
use Rattle.composition.specs.Nodes.{Chosen}
use Rattle.prim_index.proofs.Saying.{chosen_unseen, frame_none}
use Rattle.prim_index.proofs.reading.push_chosen.Goals as goal

pub returns-in-None : goal.returns-in-None
returns-in-None c =
    sym (ap (λ (r : List Chosen). c.args.out.now ++ r)
    (chosen_unseen c.args.node.now c.args.level c.args.said.now (frame_none c.args.node.now.frames c.args.level c.in-None.ensures.value))
    ∙ append-nil c.args.out.now)

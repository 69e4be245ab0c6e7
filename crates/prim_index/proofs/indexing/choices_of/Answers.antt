use Rattle.std.proofs.Common.{◌∙◌, sym, ap}
use Rattle.composition.specs.Nodes.{Frame}
use Rattle.prim_index.proofs.Saying.{choices_some, frame_none}
use Rattle.prim_index.proofs.indexing.choices_of.Goals as goal

pub returns-in-Some : goal.returns-in-Some
returns-in-Some c = choices_some c.args.node.now.frames 0 c.in-Some.frame.now c.copy.result c.in-Some.ensures.value c.copy.ensures

pub returns-in-None : goal.returns-in-None
returns-in-None c = c.new.ensures ∙ sym (ap (λ (f : Frame). f.choices) (frame_none c.args.node.now.frames 0 c.in-None.ensures.value))

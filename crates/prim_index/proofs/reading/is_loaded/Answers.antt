use Rattle.std.proofs.Common.{sym, ap}
use Rattle.composition.specs.Nodes.{Frame}
use Rattle.prim_index.proofs.Saying.{frame_some, frame_none}
use Rattle.prim_index.proofs.reading.is_loaded.Goals as goal

pub returns-in-Some : goal.returns-in-Some
returns-in-Some c = sym (ap (λ (f : Frame). f.loaded) (frame_some c.args.node.now.frames c.args.level c.in-Some.frame.now c.in-Some.ensures.value))

pub returns-in-None : goal.returns-in-None
returns-in-None c = sym (ap (λ (f : Frame). f.loaded) (frame_none c.args.node.now.frames c.args.level c.in-None.ensures.value))

use Rattle.std.proofs.Common.{refl}
use Rattle.io_edges.proofs.Plans.{called_to_fail}
use Rattle.io_edges.proofs.memory.MemoryFilesLayerFiles.fetch.Goals as goal

pub returns-then-fails_now-clause-planned : goal.returns-then-fails_now-clause-planned
returns-then-fails_now-clause-planned c =
    rw (← c.self.view_is) (called_to_fail c.self.inside.plan c.fails_now.new.self refl c.if-fails_now.ensures.fails c.if-fails_now.ensures.after)

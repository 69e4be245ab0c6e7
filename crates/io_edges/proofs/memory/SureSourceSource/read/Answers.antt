use Rattle.std.proofs.Common.{arith}
use Rattle.std.proofs.lemmas.Grind.{common_steps}
use Rattle.io_edges.proofs.Buffers.{front_of_left}
use Rattle.io_edges.proofs.memory.SureSourceSource.read.Goals as goal

pub returns-clause-takes : goal.returns-clause-takes
returns-clause-takes c = rw (← c.self.view_is) (grind (arith, common_steps, front_of_left c.self.inside.bytes.items c.give-len.new.into c.self.inside.at c.give-len.result))

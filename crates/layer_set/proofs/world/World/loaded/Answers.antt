use Rattle.std.proofs.Common.{rules}
use Rattle.layer_set.proofs.Loading.{as_composed}
use Rattle.layer_set.proofs.world.World.loaded.Goals as goal

pub returns-clause-prim : goal.returns-clause-prim
returns-clause-prim c = λ plain. as_composed c.args.self.now c.args.p.now c.unwrap_or.result (search rules) plain

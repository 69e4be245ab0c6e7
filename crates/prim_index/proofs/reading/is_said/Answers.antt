use Rattle.std.proofs.Common.{ap, Bool}
use Rattle.std.specs.Prelude.{not}
use Rattle.prim_index.proofs.Saying.{empty_told}
use Rattle.prim_index.proofs.reading.is_said.Goals as goal

pub returns : goal.returns
returns c = ap (λ (b : Bool). not b) (empty_told c.args.opinions.now c.is_empty.result c.is_empty.ensures)

use Rattle.std.proofs.Common.{◌≡◌, drop}
use Rattle.flatten.specs.Flattened.{with_prims}
use Rattle.flatten.proofs.flat.put_prims.Given as goal

abbrev pub invariant-loop-i : goal.invariant-loop-i
invariant-loop-i l = with_prims (drop l.i l.view.items) l.specs ≡ with_prims l.view.items l.fn.specs

use Rattle.std.proofs.Common.{◌≡◌}
use Rattle.std.specs.Io.KnownBytes.{Keeps}
use Rattle.io_edges.proofs.adapters.StdSourceSource.read.Given as goal

abbrev pub invariant-loop : goal.invariant-loop
invariant-loop g l = record {
  count : l.self-inside.faults ≡ l.fn.self.faults;
  kept : Keeps (g.T.Read.remaining l.fn.self.inner) (g.T.Read.remaining l.self-inside.inner);
}

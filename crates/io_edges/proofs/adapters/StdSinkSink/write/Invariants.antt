use Rattle.std.proofs.Common.{◌≡◌}
use Rattle.std.specs.Io.KnownBytes.{Keeps}
use Rattle.io_edges.proofs.adapters.StdSinkSink.write.Given as goal

abbrev pub invariant-loop : goal.invariant-loop
invariant-loop g l = record {
  count : l.self-inside.faults ≡ l.fn.self.faults;
  kept : Keeps (g.W.Write.contents l.fn.self.inner) (g.W.Write.contents l.self-inside.inner);
}

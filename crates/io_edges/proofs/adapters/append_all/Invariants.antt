use Rattle.std.proofs.Common.{◌≡◌, ◌+◌, length, drop}
use Rattle.std.specs.Io.{StartsWith}
use Rattle.std.specs.Io.KnownBytes.{Consumes}
use Rattle.io_edges.specs.Edges.{most}
use Rattle.io_edges.proofs.adapters.append_all.Given as goal

abbrev pub invariant-loop : goal.invariant-loop
invariant-loop g l = record {
  front : StartsWith l.into.items l.fn.into.items;
  room : length l.into.items + l.left ≡ length l.fn.into.items + most;
  given : Consumes (g.T.Read.remaining l.fn.reader) (g.T.Read.remaining l.reader) (drop (length l.fn.into.items) l.into.items);
}

use Rattle.std.proofs.Common.{◌≡◌, drop, map}
use Rattle.io_edges.specs.Stores.{entry_of, file_named}
use Rattle.io_edges.proofs.memory.find_file.Given as goal

abbrev pub invariant-loop-key : goal.invariant-loop-key
invariant-loop-key l = file_named (map entry_of (drop l.key-index l.files)) l.name ≡ file_named (map entry_of l.files) l.name

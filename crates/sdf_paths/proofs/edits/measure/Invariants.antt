use Rattle.std.proofs.Common.{◌≡◌, ◌+◌, drop, length}
use Rattle.sdf_paths.specs.Paths.{written_all, ends_selected}
use Rattle.sdf_paths.proofs.edits.measure.Given as goal

abbrev pub invariant-loop-element : goal.invariant-loop-element
invariant-loop-element l = record {
  bytes : l.bytes + length (written_all l.after (drop l.element-index l.elements)) ≡ length (written_all l.start l.elements);
  last : ends_selected l.after (drop l.element-index l.elements) ≡ ends_selected l.start l.elements;
}

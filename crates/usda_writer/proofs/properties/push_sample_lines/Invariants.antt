use Rattle.std.proofs.Common.{◌≡◌, ◌++◌, string_bytes}
use Rattle.std.specs.List.{flat_map}
use Rattle.usda_writer.specs.Properties.{sample_line}
use Rattle.usda_writer.proofs.properties.push_sample_lines.Given as goal

abbrev pub invariant-loop-time : goal.invariant-loop-time
invariant-loop-time l = string_bytes l.out ++ flat_map (sample_line l.level) l.time-iterator ≡ string_bytes l.fn.out ++ flat_map (sample_line l.level) l.samples

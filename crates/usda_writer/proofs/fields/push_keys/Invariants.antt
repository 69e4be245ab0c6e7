use Rattle.std.proofs.Common.{◌≡◌, ◌++◌, string_bytes}
use Rattle.std.specs.List.{flat_map}
use Rattle.usda_writer.specs.Fields.{key_line}
use Rattle.usda_writer.proofs.fields.push_keys.Given as goal

abbrev pub invariant-loop-key : goal.invariant-loop-key
invariant-loop-key l = string_bytes l.out ++ flat_map (key_line l.level) l.key-iterator ≡ string_bytes l.fn.out ++ flat_map (key_line l.level) l.meta

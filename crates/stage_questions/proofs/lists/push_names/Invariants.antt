use Rattle.std.proofs.Common.{◌≡◌, ◌++◌, drop, string_bytes}
use Rattle.sdf_values.specs.Print.{quoted}
use Rattle.usda_writer.specs.Texts.{listed, listed_from}
use Rattle.stage_questions.proofs.lists.push_names.Given as goal

abbrev pub invariant-loop-name : goal.invariant-loop-name
invariant-loop-name l = string_bytes l.out ++ listed_from l.is_first quoted (drop l.name-index l.names) ≡ string_bytes l.fn.out ++ listed quoted l.names

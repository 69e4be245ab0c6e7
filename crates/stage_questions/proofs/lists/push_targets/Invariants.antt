use Rattle.std.proofs.Common.{◌≡◌, ◌++◌, drop, string_bytes}
use Rattle.sdf_paths.specs.Paths.{path_text}
use Rattle.usda_writer.specs.Texts.{listed, listed_from}
use Rattle.stage_questions.proofs.lists.push_targets.Given as goal

abbrev pub invariant-loop-path : goal.invariant-loop-path
invariant-loop-path l = string_bytes l.out ++ listed_from l.is_first path_text (drop l.path-index l.paths) ≡ string_bytes l.fn.out ++ listed path_text l.paths

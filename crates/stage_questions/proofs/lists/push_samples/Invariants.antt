use Rattle.std.proofs.Common.{◌≡◌, ◌++◌, string_bytes}
use Rattle.usda_writer.specs.Texts.{listed, listed_from}
use Rattle.stage_questions.specs.Texts.{sample_text}
use Rattle.stage_questions.proofs.lists.push_samples.Given as goal

abbrev pub invariant-loop-time : goal.invariant-loop-time
invariant-loop-time l = string_bytes l.out ++ listed_from l.is_first sample_text l.time-iterator ≡ string_bytes l.fn.out ++ listed sample_text l.samples

use Rattle.std.proofs.Common.{◌≡◌, length}
use Rattle.usda_machine.specs.Stacks.{stack_of}
use Rattle.usda_words.specs.Sources.{words_left}
use Rattle.usda_reader.specs.Reading.{run_from}
use Rattle.usda_reader.proofs.words.take_words.Given as goal

abbrev pub invariant-loop-word : goal.invariant-loop-word
invariant-loop-word l = run_from l.end (stack_of l.initial.stack) l.initial.draft (words_left l.initial.words) ≡ run_from l.end (stack_of l.stack) l.draft (words_left l.words)

abbrev pub decreases-loop-word : goal.decreases-loop-word
decreases-loop-word l = length (words_left l.words)

-- Lines that ask: they compute.
use Rattle.std.proofs.Common.{refl}
use Rattle.line_examples.proofs.Computing.{of_lines}
use Rattle.line_examples.specs.Questions.{QuestionsAreTold, BadQuestionsAreTold, AreTold}

questions : QuestionsAreTold
unfolding of_lines
questions = record {
  value = refl;
  least_step = refl;
  default = refl;
  samples = refl;
  targets = refl;
  root_sites = refl;
  children = refl;
  faults = refl;
  flatten = refl;
}

bad_questions : BadQuestionsAreTold
unfolding of_lines
bad_questions = record {
  no_time = refl;
  infinite_time = refl;
  fine_time = refl;
  more = refl;
  prim = refl;
  relative = refl;
  no_path = refl;
  brackets = refl;
  blank = refl;
}

pub are_told : AreTold
are_told = record { questions = questions; bad_questions = bad_questions }

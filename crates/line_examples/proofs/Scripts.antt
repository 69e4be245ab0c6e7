-- Scripts with their steps: they compute.
use Rattle.std.proofs.Common.{refl}
use Rattle.line_examples.proofs.Computing.{of_scripts}
use Rattle.line_examples.specs.Scripts.{ScriptsAreTold, RefusalsAreTold, AreTold}

scripts : ScriptsAreTold
unfolding of_scripts
scripts = record {
  nothing = refl;
  question = refl;
  batch = refl;
  empty_batch = refl;
  opened = refl;
}

refusals : RefusalsAreTold
unfolding of_scripts
refusals = record {
  bad_line = refl;
  outside = refl;
  question_inside = refl;
  begin_twice = refl;
  only_commit = refl;
  unfinished = refl;
}

pub are_told : AreTold
are_told = record { scripts = scripts; refusals = refusals }

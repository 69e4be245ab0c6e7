use Rattle.line_examples.proofs.Scripts.{are_told}
use Rattle.line_examples.proofs.laws.scripts_are_told.Goals as goal

pub returns : goal.returns
returns c = are_told

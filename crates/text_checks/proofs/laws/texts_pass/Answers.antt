use Rattle.text_checks.proofs.Checks.{texts_pass}
use Rattle.text_checks.proofs.laws.texts_pass.Goals as goal

pub returns : goal.returns
returns c = texts_pass

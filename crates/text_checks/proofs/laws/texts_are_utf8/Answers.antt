use Rattle.text_checks.proofs.Checks.{texts_are_utf8}
use Rattle.text_checks.proofs.laws.texts_are_utf8.Goals as goal

pub returns : goal.returns
returns c = texts_are_utf8

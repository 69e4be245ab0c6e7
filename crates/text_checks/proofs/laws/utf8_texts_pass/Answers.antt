use Rattle.text_checks.proofs.Checks.{utf8_texts_pass}
use Rattle.text_checks.proofs.laws.utf8_texts_pass.Goals as goal

pub returns : goal.returns
returns c = utf8_texts_pass

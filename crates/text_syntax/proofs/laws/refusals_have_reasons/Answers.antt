use Rattle.text_syntax.proofs.Reasons.{reasons}
use Rattle.text_syntax.proofs.laws.refusals_have_reasons.Goals as goal

pub returns : goal.returns
returns c = reasons

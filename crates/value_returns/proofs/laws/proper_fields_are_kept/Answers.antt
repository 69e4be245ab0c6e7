use Rattle.value_returns.proofs.Fields.{fields_kept}
use Rattle.value_returns.proofs.laws.proper_fields_are_kept.Goals as goal

pub returns : goal.returns
returns c = fields_kept

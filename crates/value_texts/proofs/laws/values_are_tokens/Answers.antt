use Rattle.value_texts.proofs.ValueCuts.{value_cut}
use Rattle.value_texts.proofs.laws.values_are_tokens.Goals as goal

pub returns : goal.returns
returns c = λ v w indent at rest follows. value_cut v w indent at rest follows

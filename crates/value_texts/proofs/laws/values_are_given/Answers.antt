use Rattle.value_texts.proofs.ValuesGiven.{value_given}
use Rattle.value_texts.proofs.laws.values_are_given.Goals as goal

pub returns : goal.returns
returns c = value_given

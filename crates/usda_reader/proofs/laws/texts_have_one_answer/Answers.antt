use Rattle.usda_reader.proofs.Exact.{one_answer}
use Rattle.usda_reader.proofs.laws.texts_have_one_answer.Goals as goal

pub returns : goal.returns
returns c = one_answer

use Rattle.usda_grammar.proofs.Parsing.{taken}
use Rattle.usda_grammar.proofs.laws.taken_has_text.Goals as goal

pub returns : goal.returns
returns c = taken

use Rattle.usda_grammar.proofs.Parsing.{one_derivation}
use Rattle.usda_grammar.proofs.laws.text_has_one_derivation.Goals as goal

pub returns : goal.returns
returns c = one_derivation

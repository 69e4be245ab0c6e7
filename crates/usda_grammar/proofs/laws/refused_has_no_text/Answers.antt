use Rattle.usda_grammar.proofs.Parsing.{refused}
use Rattle.usda_grammar.proofs.laws.refused_has_no_text.Goals as goal

pub returns : goal.returns
returns c = refused

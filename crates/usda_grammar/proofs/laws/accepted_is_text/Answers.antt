use Rattle.usda_grammar.proofs.Parsing.{accepted, text}
use Rattle.usda_grammar.proofs.laws.accepted_is_text.Goals as goal

pub returns : goal.returns
returns c = record { accepted = accepted; text = text }

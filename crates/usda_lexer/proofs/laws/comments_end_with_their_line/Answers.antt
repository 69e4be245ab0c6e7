use Rattle.usda_lexer.proofs.Whole.{has_token}
use Rattle.usda_lexer.proofs.laws.comments_end_with_their_line.Goals as goal

pub returns : goal.returns
returns c = has_token

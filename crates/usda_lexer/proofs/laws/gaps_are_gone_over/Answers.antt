use Rattle.usda_lexer.proofs.Whole.{gap_is_whole}
use Rattle.usda_lexer.proofs.laws.gaps_are_gone_over.Goals as goal

pub returns : goal.returns
returns c = gap_is_whole

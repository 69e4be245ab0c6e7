use Rattle.script_words.proofs.ReadAlone.{line_values_are_read}
use Rattle.script_words.proofs.laws.line_values_are_read.Goals as goal

pub returns : goal.returns
returns c = line_values_are_read

use Rattle.usda_grammar.specs.Table.{layer}
use Rattle.usda_productions.proofs.Simulation.{text_written, text_read}
use Rattle.usda_productions.proofs.table_is_productions.Goals as goal

pub returns : goal.returns
returns c = record { written = text_written layer; read = text_read layer }

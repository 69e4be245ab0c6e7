use Rattle.layer_texts.proofs.Fields.{meta_spelled, selections_spelled, spec_spelled}
use Rattle.layer_texts.proofs.Lines.{block_spelled}
use Rattle.layer_texts.proofs.laws.metadata_is_spelled.Goals as goal

pub returns : goal.returns
returns c = record { entries = meta_spelled; selections = selections_spelled; spec = spec_spelled; block = block_spelled }

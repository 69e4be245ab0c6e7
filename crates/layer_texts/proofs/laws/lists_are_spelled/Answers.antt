use Rattle.layer_texts.proofs.Fields.{strings_spelled, paths_spelled, references_spelled, sublayers_spelled}
use Rattle.layer_texts.proofs.Lists.{reference_spelled, sublayer_spelled}
use Rattle.layer_texts.proofs.laws.lists_are_spelled.Goals as goal

pub returns : goal.returns
returns c = record { reference = reference_spelled; sublayer = sublayer_spelled; strings = strings_spelled; paths = paths_spelled; references = references_spelled; sublayers = sublayers_spelled }

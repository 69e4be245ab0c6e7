use Rattle.usda_writer.specs.Canonical.{canonical}
use Rattle.layer_texts.specs.LayerWords.{layer_words}
use Rattle.layer_texts.proofs.Layers.{all_told, layer_spelled}
use Rattle.layer_texts.proofs.laws.layers_are_spelled.Goals as goal

pub returns : goal.returns
returns c = λ layer h. all_told (canonical layer) (layer_words layer) (layer_spelled layer h)

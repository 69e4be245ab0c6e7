-- What the canonical text of a layer says to the reader of texts.
use Rattle.std.proofs.Common.{length, sym}
use Rattle.usda_reader.proofs.Exact.{words_make}
use Rattle.usda_reader.specs.Texts.{syntax_at}
use Rattle.usda_writer.specs.Canonical.{canonical}
use Rattle.layer_returns.specs.Texts.{TextsSayTheirLayers}
use Rattle.layer_returns.proofs.Theorem.{layers_come_back}

pub texts_say_their_layers : TextsSayTheirLayers
texts_say_their_layers layer writable kept tree passes =
    let t = layers_come_back layer writable kept tree (syntax_at (length (canonical layer))) in
    record { passes = passes; draft = t.0; makes = words_make (canonical layer) t.0 t.1; says = sym t.2 }

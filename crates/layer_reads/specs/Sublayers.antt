-- Sublayers that come back from their text.
use Rattle.std.specs.Prelude.{Bool, false, List, []}
use Rattle.sdf_values.specs.Scales.{IsOffset}
use Rattle.spec_parts.specs.declared.items.SubLayer.{SubLayer}
use Rattle.usda_grammar.specs.declared.symbols.Symbol.TheVariants as symbol
use Rattle.layer_texts.specs.FieldWords.{sublayers_words}
use Rattle.value_texts.specs.Each.{AreAll}
use Rattle.layer_reads.specs.Items.{AreItems}
use Rattle.layer_reads.specs.Kept.{has_items}
use Rattle.layer_reads.specs.Standing.{Standing, IsAt}

-- its offset is within its limits
abbrev pub IsSublayerKept : SubLayer → Type 0
IsSublayerKept s = IsOffset s.offset

-- a layer with these sublayers, where `given` tells whether they were said
abbrev pub with_sublayers : List SubLayer → Bool → Standing → Standing
with_sublayers sublayers given s = record s { sublayers = sublayers; has_sublayers = given }

-- The words of sublayers, of which none are said yet, make them those of the layer, in their order and repeats too.
abbrev pub AreSublayersRead : Type 0
AreSublayersRead =
    (sublayers : List SubLayer) (at : Standing) → AreAll IsSublayerKept sublayers
    → AreItems symbol.HeadItems (sublayers_words sublayers) (IsAt (with_sublayers [] false at)) (IsAt (with_sublayers sublayers (has_items sublayers) at))

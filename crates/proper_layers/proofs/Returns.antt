-- The canonical text of a proper layer says the layer.
use Rattle.std.proofs.Common.{◌≡◌, ◌⊎◌, true, inl, inr, Result, Ok, Err, ap, sym, refl, subst}
use Rattle.sdf_specs.specs.Layers.{LayerTable}
use Rattle.usda_reader.specs.Reading.{IsRead}
use Rattle.usda_reader.specs.Texts.{IsText}
use Rattle.usda_reader.specs.declared.fault.LayerFault.{LayerFault}
use Rattle.usda_reader.specs.declared.fault.LayerFault.TheVariants as fault
use Rattle.usda_reader.proofs.Exact.{one_answer}
use Rattle.usda_writer.specs.Canonical.{canonical}
use Rattle.layer_texts.specs.Writable.{is_writable_layer}
use Rattle.text_checks.proofs.Checks.{texts_pass}
use Rattle.layer_returns.proofs.Texts.{texts_say_their_layers}
use Rattle.proper_layers.specs.Laws.{ProperLayersReturn, ProperTextsDiffer}
use Rattle.proper_layers.proofs.Kept.{proper_kept}
use Rattle.proper_layers.proofs.Tree.{proper_tree}
use Rattle.proper_layers.proofs.Valid.{proper_valid}
use Rattle.proper_layers.proofs.Written.{proper_written}

pub proper_layers_return : ProperLayersReturn
proper_layers_return layer p =
    let written : is_writable_layer layer ≡ true = proper_written layer p in
    texts_say_their_layers layer written (proper_kept layer p) (proper_tree layer p) (texts_pass layer written (proper_valid layer p) p.size)

pub proper_texts_differ : ProperTextsDiffer
proper_texts_differ a b p q same = (one_answer (canonical a)).one_layer a b (proper_layers_return a p) (subst (λ t. IsText t b) (sym same) (proper_layers_return b q))

-- what is answered where a layer is read
pub read_or_no_memory : (r : Result LayerTable LayerFault) (layer : LayerTable) → IsRead r layer → (r ≡ Ok layer) ⊎ (r ≡ Err fault.NoMemory)
read_or_no_memory (Ok l) layer same = inl (ap Ok same)
read_or_no_memory (Err (fault.Refused r)) layer bad = absurd bad
read_or_no_memory (Err fault.NoMemory) layer u = inr refl

use Rattle.std.proofs.Common.{◌≡◌, ◌∙◌, ap, sym, subst, Err, rules}
use Rattle.layer_apply.specs.Edits.{layer_or_fault}
use Rattle.usda_reader.specs.Reading.{read, Reads}
use Rattle.usda_reader.specs.declared.fault.LayerFault.{LayerFault}
use Rattle.usda_reader.specs.declared.fault.LayerFault.TheVariants.{Refused}
use Rattle.usda_reader.proofs.Exact.{text_read, refusal_read}
use Rattle.layer_apply.proofs.worlds.read_text.Goals as goal

pub returns-in-Ok : goal.returns-in-Ok
returns-in-Ok c = ap layer_or_fault (sym (ap read c.as_bytes.ensures.same) ∙ text_read c.as_bytes.result.now c.in-Ok.layer c.in-Ok.ensures.found)

pub returns-in-Err-Refused : goal.returns-in-Err-Refused
returns-in-Err-Refused c =
    let is : c.in-Err-Refused.field-0 ≡ Refused c.in-Err-Refused.refusal = search rules in
    ap layer_or_fault
    (sym (ap read c.as_bytes.ensures.same)
    ∙ refusal_read c.as_bytes.result.now c.in-Err-Refused.refusal (subst (λ (f : LayerFault). Reads (Err f) c.as_bytes.result.now) is c.in-Err-Refused.ensures.found))

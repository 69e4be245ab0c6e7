use Rattle.std.proofs.Common.{ap, sym, ◌∙◌, ℕ, Some}
use Rattle.std.proofs.lemmas.Str.{is_utf8-from_IsUtf8}
use Rattle.sdf_values.specs.declared.refusal.RefusalKind.TheVariants.{NotUtf8}
use Rattle.usda_drafts.specs.Refusals.{refused}
use Rattle.usda_lexer.proofs.Cuts.{not_utf8}
use Rattle.usda_reader.proofs.FirstBytes.{text_is_utf8, text_is_not}
use Rattle.usda_reader.proofs.checks.text_check.Goals as goal

pub returns-in-Ok : goal.returns-in-Ok
returns-in-Ok c = c.header_check.ensures ∙ sym (text_is_utf8 c.args.bytes.now (is_utf8-from_IsUtf8 c.args.bytes.now c.in-Ok.ensures.cases.1))

pub returns-in-Err : goal.returns-in-Err
returns-in-Err c =
    c.refused_at.ensures ∙ ap (λ (n : ℕ). Some (refused NotUtf8 n)) (c.valid_up_to.ensures ∙ c.in-Err.ensures.valid_len)
    ∙ sym (text_is_not c.args.bytes.now (not_utf8 c.args.bytes.now c.in-Err.ensures.cases.0))

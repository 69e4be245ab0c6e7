use Rattle.std.proofs.Common.{◌≡◌, ◌∙◌, sym, ap, subst, Some}
use Rattle.std.specs.Str.{IsUtf8}
use Rattle.std.specs.String.{string_bytes}
use Rattle.std.proofs.lemmas.Str.{IsUtf8-string_bytes}
use Rattle.usda_lexer.proofs.Backslashes.{is_text, is_no_text}
use Rattle.usda_lexer.proofs.escapes.text_of.Goals as goal

pub returns-in-Ok : goal.returns-in-Ok
returns-in-Ok c =
    let same : string_bytes c.in-Ok.text ≡ c.args.bytes.items = ap (λ v. v.items) c.in-Ok.ensures.ok in
    ap Some (c.from_string.ensures ∙ same) ∙ sym (is_text c.args.bytes.items (subst IsUtf8 same (IsUtf8-string_bytes c.in-Ok.text)))

pub returns : goal.returns
returns c = sym (is_no_text c.args.bytes.items (λ (u : IsUtf8 c.args.bytes.items). (let f = c.in-Err.ensures.succeeds u in cc)))

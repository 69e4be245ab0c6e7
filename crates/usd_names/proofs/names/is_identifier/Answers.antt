use Rattle.std.proofs.Common.{◌∙◌, ap, sym, ◌&&◌}
use Rattle.std.specs.Str.{chars}
use Rattle.std.proofs.lemmas.Str.{is_utf8-from_IsUtf8}
use Rattle.usd_names.specs.Names.{is_identifier, spells_identifier}
use Rattle.usd_names.proofs.names.is_identifier.Goals as goal

pub returns : goal.returns
unfolding is_identifier
returns c = c.spells_identifier.ensures ∙ ap (λ b. b && spells_identifier (chars c.args.text.now)) (sym (is_utf8-from_IsUtf8 c.args.text.now c.utf8.text))

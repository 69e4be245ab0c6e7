use Rattle.std.proofs.Common.{◌∙◌, ap, sym, ◌&&◌}
use Rattle.std.specs.Str.{chars}
use Rattle.std.proofs.lemmas.Str.{is_utf8-from_IsUtf8}
use Rattle.usd_names.specs.Names.{is_variant, spells_variant}
use Rattle.sdf_paths.proofs.variants.is_variant.Goals as goal

pub returns : goal.returns
unfolding is_variant
returns c = c.spells_variant.ensures ∙ ap (λ b. b && spells_variant (chars c.args.text.now)) (sym (is_utf8-from_IsUtf8 c.args.text.now c.utf8.text))

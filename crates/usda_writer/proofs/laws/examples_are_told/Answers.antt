use Rattle.std.proofs.Common.{refl}
use Rattle.std.specs.Fmt.{digits}
use Rattle.usda_writer.specs.Fields.{spec_lines}
use Rattle.usda_writer.specs.Canonical.{canonical, body_text, first_line, set_word, spec_block}
use Rattle.usda_writer.proofs.laws.examples_are_told.Goals as goal

pub returns : goal.returns
unfolding digits canonical body_text first_line set_word spec_block spec_lines
returns c = record { empty = refl; each_form = refl }

use Rattle.std.proofs.Common.{refl}
use Rattle.std.specs.Fmt.{digits}
use Rattle.std.specs.Str.{chars, is_utf8}
use Rattle.usda_writer.specs.Canonical.{body_text, canonical, first_line}
use Rattle.layer_texts.specs.Writable.{is_writable_spec, is_writable_layer}
use Rattle.text_checks.specs.Utf8.{is_utf8_spec, is_utf8_layer}
use Rattle.text_checks.proofs.laws.examples_are_told.Goals as goal

pub returns : goal.returns
unfolding digits chars is_utf8 body_text canonical first_line is_writable_spec is_writable_layer is_utf8_spec is_utf8_layer lib.Utf8.encode
returns c = record { forms_utf8 = refl; other_written = refl; other_layer = refl; other_text = refl }

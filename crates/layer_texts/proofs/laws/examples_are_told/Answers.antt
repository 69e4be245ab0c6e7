use Rattle.std.proofs.Common.{refl}
use Rattle.std.specs.Fmt.{digits}
use Rattle.std.specs.Str.{chars, is_utf8}
use Rattle.unicode_ident.proofs.Computing.{unicode_ident}
use Rattle.usd_names.specs.Names.{is_start, is_identifier, is_variant, is_variant_character}
use Rattle.sdf_values.specs.Print.{fraction_digits}
use Rattle.sdf_values.proofs.Values.{of_text, of_word, of_block}
use Rattle.usda_lexer.specs.Words.{next_word, found, left}
use Rattle.layer_texts.specs.FieldWords.{spec_words}
use Rattle.layer_texts.specs.LayerWords.{body_words, layer_words}
use Rattle.layer_texts.specs.Writable.{is_word, is_writable_spec, is_writable_layer}
use Rattle.layer_texts.proofs.laws.examples_are_told.Goals as goal

pub returns : goal.returns
unfolding digits chars is_utf8 unicode_ident is_start is_identifier is_variant is_variant_character fraction_digits next_word found left spec_words body_words layer_words is_word is_writable_spec is_writable_layer lib.Utf8.encode
returns c = record {
  layer = refl;
  property = simp (of_text, of_word, of_block);
  small_written = refl;
  forms_written = refl;
  joined_name = refl;
  keyword_name = refl;
  number_name = refl;
  meant = refl;
  read = refl;
  blank_name = refl;
  closed_path = refl;
}

use Rattle.std.proofs.Common.{refl}
use Rattle.std.specs.Fmt.{digits}
use Rattle.std.specs.Str.{chars, is_utf8}
use Rattle.unicode_ident.proofs.Computing.{unicode_ident}
use Rattle.usd_names.specs.Names.{is_start}
use Rattle.sdf_values.specs.Print.{fraction_digits}
use Rattle.sdf_values.proofs.Values.{of_bool, of_whole, of_number, of_time, of_word, of_block, of_tuple, of_array, of_dict, of_item}
use Rattle.usda_values.specs.Scalars.{whole_of, is_plain, decimal_of_whole, tens_out}
use Rattle.value_texts.proofs.ReadingSteps.{reads_bool, reads_whole, reads_number, reads_time, reads_word, reads_block, reads_tuple, reads_array, reads_dict}
use Rattle.value_texts.proofs.laws.examples_are_told.Goals as goal

pub returns : goal.returns
unfolding digits chars is_utf8 unicode_ident is_start fraction_digits whole_of is_plain decimal_of_whole tens_out lib.Utf8.encode
returns c = record {
  whole = (simp of_whole, simp reads_whole, simp reads_whole);
  number_is_whole = (simp of_number, simp reads_number, simp reads_number);
  fraction = (simp of_number, simp reads_number, simp reads_number);
  exponent = (simp of_whole, simp reads_whole, simp reads_whole);
  number_with_exponent = (simp of_number, simp reads_number, simp reads_number);
  long = simp of_whole;
  truth = (simp of_bool, simp reads_bool, simp reads_bool);
  time = (simp of_time, simp reads_time, simp reads_time);
  truth_of_type = simp reads_bool;
  block = (simp of_block, simp reads_block, simp reads_block);
  none = (simp of_word, simp reads_word, simp reads_word);
  word = (simp of_word, simp reads_word, simp reads_word);
  infinite = simp of_word;
  empty_tuple = (simp of_tuple, simp reads_tuple, simp reads_tuple);
  empty_array = (simp of_array, simp reads_array, simp reads_array);
  ats = refl;
  three_ats = refl;
  entries = (simp (of_whole, of_dict, of_item), simp (reads_whole, reads_dict, of_item), simp (reads_whole, reads_dict, of_item));
  disorder = (simp (of_whole, of_dict, of_item), simp (reads_dict, of_item), simp (reads_dict, of_item));
  other_type = (simp (of_whole, of_dict, of_item), simp (reads_whole, reads_dict, of_item), simp (reads_whole, reads_dict, of_item));
  block_inside = (simp (of_block, of_dict, of_item), simp (reads_block, reads_dict, of_item), simp (reads_block, reads_dict, of_item));
  levels = simp (of_whole, of_array);
}

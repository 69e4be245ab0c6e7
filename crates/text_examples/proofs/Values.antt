-- Values that are read, and values that are refused.
use Rattle.std.proofs.Common.{refl}
use Rattle.text_examples.proofs.Computing.{of_values}
use Rattle.text_examples.specs.Values.{UntypedAreTold, NestedAreTold, TypedAreTold, ShapesAreTold, RefusalsAreTold, AreTold}

untyped : UntypedAreTold
unfolding of_values
untyped = record {
  word = refl;
  block = refl;
  string = refl;
  asset = refl;
  path = refl;
  whole_number = refl;
  pointed = refl;
  infinite = refl;
  metadata = refl;
  metadata_pointed = refl;
}

nested : NestedAreTold
unfolding of_values
nested = record {
  tuple = refl;
  empty_array = refl;
  nested = refl;
  dictionary = refl;
  dictionary_array = refl;
}

typed : TypedAreTold
unfolding of_values
typed = record {
  bool_word = refl;
  bool_bit = refl;
  uchar = refl;
  float = refl;
  timecode = refl;
  token = refl;
  ints = refl;
  color = refl;
  matrix = refl;
  tuples = refl;
  block = refl;
}

shapes : ShapesAreTold
unfolding of_values
shapes = record {
  short_tuple = (_, refl);
  long_tuple = (_, refl);
  short_row = (_, refl);
  uchar = (_, refl);
  negative = (_, refl);
  int = (_, refl);
  pointed = (_, refl);
  word = (_, refl);
  token = (_, refl);
  quoted = (_, refl);
  block_inside = (_, refl);
  no_array = (_, refl);
  no_dictionary = (_, refl);
  entry = (_, refl);
}

refusals : RefusalsAreTold
unfolding of_values
refusals = record {
  empty_text = (_, refl);
  empty_tuple = (_, refl);
  no_comma = (_, refl);
  open_tuple = (_, refl);
  wrong_bracket = (_, refl);
  path = (_, refl);
  unclosed = (_, refl);
  not_utf8 = (_, refl);
  long_number = (_, refl);
  misplaced_number = (_, refl);
  time = (_, refl);
  fine_time = (_, refl);
  type = (_, refl);
  key_twice = (_, refl);
}

pub are_told : AreTold
are_told = record { untyped = untyped; nested = nested; typed = typed; shapes = shapes; refusals = refusals }

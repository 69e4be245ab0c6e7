-- The tokens of texts, and what they mean.
use Rattle.std.proofs.Common.{refl}
use Rattle.text_examples.proofs.Computing.{of_tokens}
use Rattle.text_examples.specs.Tokens.{NamesAreTold, NumbersAreTold, QuotedAreTold, AssetsAreTold, CommentsAreTold, StringsAreTold, MeaningsAreTold, PlacesAreTold, AreTold}

names : NamesAreTold
unfolding of_tokens
names = record {
  plain = refl;
  joined = refl;
  two_colons = refl;
  colon_behind = refl;
  point = refl;
  point_digit = refl;
  letter = refl;
}

numbers : NumbersAreTold
unfolding of_tokens
numbers = record {
  whole = refl;
  points = refl;
  points_twice = refl;
  exponent = refl;
  no_exponent = refl;
  words = refl;
  longer_word = refl;
  minus_word = refl;
  plus_word = refl;
  too_long = refl;
  long = refl;
  great = refl;
  too_great = refl;
}

quoted : QuotedAreTold
unfolding of_tokens
quoted = record {
  double = refl;
  single = refl;
  empty = refl;
  escaped = refl;
  tripled = refl;
  no_end = refl;
  over_lines = refl;
  three_quotes = refl;
  asset_and_path = refl;
  empty_asset = refl;
  path_no_end = refl;
}

assets : AssetsAreTold
unfolding of_tokens
assets = record {
  tripled = refl;
  closed_by_four = refl;
  closed_by_six = refl;
  over_lines = refl;
}

comments : CommentsAreTold
unfolding of_tokens
comments = record {
  hash = refl;
  slashes = refl;
  block = refl;
  open_block = refl;
  one_slash = refl;
  quoted = refl;
}

strings : StringsAreTold
unfolding of_tokens
strings = record {
  plain = refl;
  tripled = refl;
  letters = refl;
  others = refl;
  hexadecimal = refl;
  octal = refl;
  letter = refl;
  half_a_letter = refl;
}

meanings : MeaningsAreTold
unfolding of_tokens
meanings = record {
  asset = refl;
  asset_empty = refl;
  asset_tripled = refl;
  path = refl;
  path_empty = refl;
  point = refl;
  hundreds = refl;
  exponent = refl;
  zero = refl;
  infinite = refl;
  no_number = refl;
  too_great = refl;
}

places : PlacesAreTold
unfolding of_tokens
places = record {
  first = refl;
  line_feed = refl;
  second_line = refl;
  end = refl;
  carriage_return = refl;
  letter = refl;
}

pub are_told : AreTold
are_told = record { names = names; numbers = numbers; quoted = quoted; assets = assets; comments = comments; strings = strings; meanings = meanings; places = places }

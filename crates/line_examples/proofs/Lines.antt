-- Lines that stand alone: they compute.
use Rattle.std.proofs.Common.{refl}
use Rattle.line_examples.proofs.Computing.{of_lines}
use Rattle.line_examples.specs.Lines.{BlanksAreTold, WordsAreTold, BadLinesAreTold, AreTold}

blanks : BlanksAreTold
unfolding of_lines
blanks = record {
  empty = refl;
  blanks = refl;
  hash = refl;
  slashes = refl;
  block = refl;
  behind_a_comment = refl;
}

words : WordsAreTold
unfolding of_lines
words = record {
  begin = refl;
  with_feed = refl;
  with_return = refl;
  commit = refl;
  publish = refl;
  opened = refl;
  opened_tripled = refl;
}

bad_lines : BadLinesAreTold
unfolding of_lines
bad_lines = record {
  word = refl;
  longer_word = refl;
  capital = refl;
  begin_more = refl;
  publish_more = refl;
  path = refl;
  string = refl;
  open_comment = refl;
  open_comment_behind = refl;
  no_asset = refl;
  empty_asset = refl;
  string_asset = refl;
  not_utf8 = refl;
}

pub are_told : AreTold
are_told = record { blanks = blanks; words = words; bad_lines = bad_lines }

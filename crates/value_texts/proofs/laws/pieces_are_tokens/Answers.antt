use Rattle.std.proofs.lemmas.Bool.{and_parts}
use Rattle.value_texts.proofs.Pieces.{nothing_cut, blank_cut, both_cut}
use Rattle.value_texts.proofs.TokenCuts as cut
use Rattle.value_texts.specs.Follows.{ends_name, ends_number}
use Rattle.value_texts.proofs.WordCuts.{cut_worded, both_worded}
use Rattle.value_texts.proofs.ListCuts.{bracketed_cut, line_cut}
use Rattle.value_texts.proofs.Dotted.{dotted}
use Rattle.value_texts.proofs.laws.pieces_are_tokens.Goals as goal

pub returns : goal.returns
returns c = record {
  nothing = λ at rest h. nothing_cut at rest;
  blank = λ c is at rest h. blank_cut at c rest is;
  joined = both_cut;
  as_words = cut_worded;
  words_joined = both_worded;
  name = λ t u is at rest h. cut.word_cut at t rest u is h;
  digits = λ t d is value at rest h. cut.digits_cut at t rest d is value h;
  number = λ x w at rest h. (let p = and_parts (ends_name rest) (ends_number rest) h in cut.number_cut at x rest w p.0 p.1);
  whole = λ n w at rest h. cut.whole_cut at n rest w h;
  time = λ t w at rest h. cut.time_cut at t rest w h;
  string = λ t at rest h. cut.string_cut at t rest h;
  asset = λ t w at rest h. cut.asset_cut at t rest w h;
  path = λ t w at rest h. cut.path_cut at t rest w;
  open_paren_mark = λ at rest h. cut.open_paren_cut at rest;
  close_paren_mark = λ at rest h. cut.close_paren_cut at rest;
  open_bracket_mark = λ at rest h. cut.open_bracket_cut at rest;
  close_bracket_mark = λ at rest h. cut.close_bracket_cut at rest;
  open_brace_mark = λ at rest h. cut.open_brace_cut at rest;
  close_brace_mark = λ at rest h. cut.close_brace_cut at rest;
  comma_mark = λ at rest h. cut.comma_cut at rest;
  semicolon_mark = λ at rest h. cut.semicolon_cut at rest;
  equals_mark = λ at rest h. cut.equals_cut at rest;
  point = cut.dot_cut;
  bracketed = bracketed_cut;
  line = line_cut;
  dotted = dotted;
}

use Rattle.std.proofs.Common.{◌≡◌, ◌<◌, ◌+◌, ◌++◌, length, Some}
use Rattle.std.specs.Str.{encode_utf8_all, IsUtf8}
use Rattle.std.specs.Str.Iter.{chars_rest}
use Rattle.sdf_paths.specs.Reader.{after}
use Rattle.sdf_paths.proofs.reader.read.Given as goal

abbrev pub invariant-loop-c : goal.invariant-loop-c
invariant-loop-c l = record {
  ran : after l.yielded ≡ Some l.reader;
  place : l.at ≡ length (encode_utf8_all l.yielded);
  whole : l.text ≡ encode_utf8_all l.yielded ++ chars_rest l.c-iterator;
  utf8 : IsUtf8 (chars_rest l.c-iterator);
  short : l.at < 4096 + 4;
}

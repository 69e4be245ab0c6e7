use Rattle.value_texts.proofs.Leaves.{number_read, timed_read}
use Rattle.value_texts.proofs.WholeLeaves.{whole_read, small_writable}
use Rattle.value_texts.proofs.DecimalTests.{decimal_test}
use Rattle.value_texts.proofs.StringTokens.{string_means}
use Rattle.value_texts.proofs.AssetTokens.{asset_means, path_means}
use Rattle.value_texts.proofs.PathsWritable.{path_writable}
use Rattle.value_texts.proofs.laws.tokens_are_meant.Goals as goal

pub returns : goal.returns
returns c = record {
  number = number_read;
  whole = whole_read;
  time = λ t w. (let k = timed_read t w in (k.0, k.3, k.2));
  decimals_are_writable = decimal_test;
  wholes_are_writable = small_writable;
  string = string_means;
  asset = asset_means;
  path = path_means;
  paths_are_writable = path_writable;
}

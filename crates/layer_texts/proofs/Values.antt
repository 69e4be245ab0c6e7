-- The text of a value has words.
use Rattle.std.proofs.Common.{◌≡◌, ℕ, true, false, List, ap}
use Rattle.sdf_values.specs.Print.{print}
use Rattle.sdf_values.specs.declared.value.Value.{Value}
use Rattle.sdf_values.proofs.Values.{by_cases}
use Rattle.value_texts.specs.Cuts.{Said}
use Rattle.value_texts.specs.Follows.{may_follow}
use Rattle.value_texts.specs.ValueWords.{words_of_value, said_step, said_item}
use Rattle.value_texts.specs.Writable.{is_writable}
use Rattle.sdf_values.proofs.Values as fold
use Rattle.value_texts.proofs.WordCuts.{value_worded}
use Rattle.layer_texts.specs.Spelled.{IsSpelled, is_nothing}

pub value_spelled : (v : Value) → is_writable v ≡ true → (level : ℕ) → IsSpelled may_follow (print v level) (words_of_value v)
value_spelled v h level = record { worded = λ at b rest n k. value_worded v h level at b rest n k }

abbrev HasWords : Value → Type 0
HasWords v = is_nothing (words_of_value v) ≡ false

pub value_has_words : (v : Value) → HasWords v
value_has_words = by_cases HasWords (λ item. Unit {0}) (record {
  bool = λ b. ap is_nothing (fold.of_bool (List Said) (List Said) said_step said_item b);
  whole = λ n. ap is_nothing (fold.of_whole (List Said) (List Said) said_step said_item n);
  number = λ x. ap is_nothing (fold.of_number (List Said) (List Said) said_step said_item x);
  time = λ t. ap is_nothing (fold.of_time (List Said) (List Said) said_step said_item t);
  text = λ t. ap is_nothing (fold.of_text (List Said) (List Said) said_step said_item t);
  asset = λ t. ap is_nothing (fold.of_asset (List Said) (List Said) said_step said_item t);
  path = λ t. ap is_nothing (fold.of_path (List Said) (List Said) said_step said_item t);
  word = λ t. ap is_nothing (fold.of_word (List Said) (List Said) said_step said_item t);
  block = ap is_nothing (fold.of_block (List Said) (List Said) said_step said_item);
  tuple = λ vs each. ap is_nothing (fold.of_tuple (List Said) (List Said) said_step said_item vs);
  array = λ vs each. ap is_nothing (fold.of_array (List Said) (List Said) said_step said_item vs);
  dict = λ items each. ap is_nothing (fold.of_dict (List Said) (List Said) said_step said_item items);
  item = λ k t v h. tt;
})

-- What holds of every text.
use Rattle.std.specs.Prelude.{List, ℕ}
use Rattle.usda_reader.specs.Texts.{HaveOneAnswer}

-- each text has one answer: one layer, or one first refusal
abbrev pub TextsHaveOneAnswer : Type 0
TextsHaveOneAnswer = (bytes : List ℕ) → HaveOneAnswer bytes

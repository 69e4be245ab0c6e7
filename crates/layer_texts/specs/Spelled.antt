-- Texts that spell words.
use Rattle.std.specs.Prelude.{◌≡◌, ℕ, Bool, true, false, List, [], ◌∷◌}
use Rattle.usda_words.specs.declared.word.Before.{Before}
use Rattle.value_texts.specs.Cuts.{Said}
use Rattle.value_texts.specs.Follows.{anything}
use Rattle.value_texts.specs.Words.{IsWorded}

-- A text that is these words at each place, behind any word but a `.`, and before each rest that may follow.
pub record IsSpelled (may_follow : List ℕ → Bool) (text : List ℕ) (said : List Said) : Type 0 where
  pub worded : (at : ℕ) (before : Before) (rest : List ℕ) → before.is_dot ≡ false → may_follow rest ≡ true → IsWorded at before text said rest

-- there are no bytes, or no words
abbrev pub is_nothing : {T : Type 0} → List T → Bool
is_nothing [] = true
is_nothing (x ∷ xs) = false

-- whole lines: anything may follow them, and they have words where there are any
pub record AreLines (text : List ℕ) (said : List Said) : Type 0 where
  pub spelled : IsSpelled anything text said
  pub both_some : is_nothing text ≡ is_nothing said

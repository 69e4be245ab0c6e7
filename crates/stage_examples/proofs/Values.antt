-- What is made of a value by its case. The variants of values that nest do not compute, so each is opened by a lemma.
use Rattle.std.proofs.Common.{◌≡◌, ◌∙◌, ℕ, Bool, true, false, List, Option, Some, None, sym, ap}
use Rattle.std.specs.Prelude.{ℤ}
use Rattle.flatten.specs.Flattened.{text_of, text_step}
use Rattle.sdf_values.specs.Conforms.{is_block, is_block_step, is_block_item}
use Rattle.sdf_values.specs.declared.value.Value.{Value, fold-roll-Value}
use Rattle.sdf_values.specs.declared.value.Value.TheOpen.{Value-F}
use Rattle.sdf_values.specs.declared.value.Value.TheVariants as value
use Rattle.sdf_values.specs.declared.value.Value.TheVariants.{rolls-Whole, rolls-Text, rolls-Block}
use Rattle.stage_query.specs.Answers.{decided}
use Rattle.stage_query.specs.declared.answer.Answer.{Answer}
use Rattle.stage_query.specs.declared.answer.Answer.TheVariants.{Is, Blocked}

-- a value that decides, by whether it is a block
abbrev told : Value → Bool → Answer Value
told v blocks = elim blocks [ true ↦ Blocked | false ↦ Is v ]

-- a number is told, and a block is told as such
pub whole_decides : (n : ℤ) → decided (Some (value.Whole n)) ≡ Is (value.Whole n)
whole_decides n = ap (told (value.Whole n)) (ap is_block (sym (rolls-Whole n)) ∙ fold-roll-Value Bool Bool is_block_step is_block_item (Value-F.Whole n))

pub block_decides : decided (Some value.Block) ≡ Blocked
block_decides = ap (told value.Block) (ap is_block (sym rolls-Block) ∙ fold-roll-Value Bool Bool is_block_step is_block_item Value-F.Block)

-- a string has its text, and a number has none
pub text_is : (t : List ℕ) → text_of (value.Text t) ≡ Some t
text_is t = ap text_of (sym (rolls-Text t)) ∙ fold-roll-Value (Option (List ℕ)) (Option (List ℕ)) text_step (λ item. None) (Value-F.Text t)

pub whole_is_none : (n : ℤ) → text_of (value.Whole n) ≡ None
whole_is_none n = ap text_of (sym (rolls-Whole n)) ∙ fold-roll-Value (Option (List ℕ)) (Option (List ℕ)) text_step (λ item. None) (Value-F.Whole n)

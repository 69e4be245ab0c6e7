-- Values whose tuples have members, as the grammar wants them, and the kinds of words.
use Rattle.std.specs.Prelude.{◌≡◌, Bool, true, false, ◌&&◌, List, [], ◌∷◌, ◌++◌, map, Some}
use Rattle.sdf_values.specs.Proper.{all_true}
use Rattle.sdf_values.specs.declared.value.DictItem.{DictItem, fold-DictItem}
use Rattle.sdf_values.specs.declared.value.Value.{Value, fold-Value}
use Rattle.sdf_values.specs.declared.value.Value.TheOpen.{Value-F, DictItem-F}
use Rattle.usda_grammar.specs.declared.kinds.WordKind.{WordKind}
use Rattle.usda_grammar.specs.declared.symbols.Symbol.{Symbol}
use Rattle.usda_grammar.specs.Machine.{steps}
use Rattle.value_texts.specs.Cuts.{Said}
use Rattle.value_texts.specs.Words.{as_word}

-- there is a member
abbrev pub are_some : List Bool → Bool
are_some [] = false
are_some (b ∷ bs) = true

-- the grammar has no tuple without members; arrays and dictionaries may be empty
abbrev pub membered_step : Value-F Bool Bool → Bool
membered_step (Value-F.Tuple bs) = are_some bs && all_true bs
membered_step (Value-F.Array bs) = all_true bs
membered_step (Value-F.Dict bs) = all_true bs
membered_step v = true

abbrev pub membered_item : DictItem-F Bool Bool → Bool
membered_item item = item.value

-- each tuple in the value has a member
abbrev pub is_membered : Value → Bool
is_membered = fold-Value Bool Bool membered_step membered_item

-- each tuple in the value of an entry has a member
abbrev pub is_membered_item : DictItem → Bool
is_membered_item = fold-DictItem Bool Bool membered_step membered_item

-- what the words are to the grammar
abbrev pub kinds_of : List Said → List WordKind
kinds_of said = map (λ s. (as_word s).kind) said

-- the grammar takes these words from symbols to others, whatever stands below
abbrev pub AreSteps : List Symbol → List Said → List Symbol → Type 0
AreSteps from said to = (below : List Symbol) → steps (from ++ below) (kinds_of said) ≡ Some (to ++ below)

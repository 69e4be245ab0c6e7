-- Sound values are proper where they stand.
use Rattle.std.specs.Prelude.{◌≡◌, ℕ, Bool, true, List, Some, Ok}
use Rattle.sdf_values.specs.declared.type_name.TypeName.{TypeName}
use Rattle.sdf_values.specs.declared.value.Value.{Value}
use Rattle.sdf_values.specs.declared.value.Value.TheVariants as value
use Rattle.usda_fields.specs.Keys.{comment_key, key_rule, rule_shape, judged}
use Rattle.usda_grammar.specs.Words.{keyword_of}
use Rattle.usda_grammar.specs.declared.kinds.Keyword.{Keyword}
use Rattle.usda_lexer.specs.Meanings.{string_text}
use Rattle.usda_values.specs.declared.shape.Shape.TheVariants.{Typed}
use Rattle.layer_texts.specs.Writable.{is_word}
use Rattle.value_returns.specs.Proper.{IsProperValue, IsProperEntry}
use Rattle.values_read.specs.Sound.{IsSound}

-- A value that is sound where a type is expected is a proper default or sample of that type. One that is sound where the value of a key
-- is expected, and that the key takes, is a proper value of the key; so is the comment, a string that stands alone.
pub record SoundValuesAreProper : Type 0 where
  pub typed : (ty : TypeName) (v : Value) → IsSound 0 (Typed ty) true v → IsProperValue ty v
  pub entry : (is_name : Keyword → Bool) (key : List ℕ) (v w : Value) → is_word key ≡ true → is_name (keyword_of key) ≡ true → IsSound 0 (rule_shape (key_rule key)) true v → judged (key_rule key) v ≡ Ok w → IsProperEntry is_name (key, w)
  pub comment : (is_name : Keyword → Bool) (token text : List ℕ) → string_text token ≡ Some text → IsProperEntry is_name (comment_key, value.Text text)

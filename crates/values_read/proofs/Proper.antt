-- Sound values are proper where they stand.
use Rattle.std.proofs.Common.{◌≡◌, ◌∙◌, ℕ, Bool, true, List, Some, Ok, ap, sym, refl, subst, arith}
use Rattle.sdf_values.specs.declared.type_name.TypeName.{TypeName}
use Rattle.sdf_values.specs.declared.value.Value.{Value}
use Rattle.sdf_values.specs.declared.value.Value.TheVariants as value
use Rattle.usda_fields.specs.Keys.{comment_key, key_rule, rule_shape, judged}
use Rattle.usda_fields.specs.declared.keys.KeyRule.{KeyRule}
use Rattle.usda_fields.specs.declared.keys.KeyRule.TheVariants.{Relocates, Comment, Boolean, DefaultPrim, Free}
use Rattle.usda_grammar.specs.Words.{keyword_of}
use Rattle.usda_grammar.specs.declared.kinds.Keyword.{Keyword}
use Rattle.usda_lexer.specs.Meanings.{string_text}
use Rattle.usda_values.specs.declared.shape.Shape.TheVariants.{Typed}
use Rattle.layer_texts.specs.Writable.{is_word}
use Rattle.value_texts.specs.Readable.{is_read_as}
use Rattle.value_texts.proofs.TypesRead.{types_read}
use Rattle.value_returns.specs.Proper.{IsProperValue, IsProperKey, IsProperEntry}
use Rattle.value_returns.proofs.Entries.{judged_same, entry_of_key}
use Rattle.values_read.specs.Proper.{SoundValuesAreProper}
use Rattle.values_read.specs.Sound.{IsSound, is_kept_as}
use Rattle.values_read.proofs.Leaves.{string_utf8}

typed : (ty : TypeName) (v : Value) → IsSound 0 (Typed ty) true v → IsProperValue ty v
typed ty v is = record { typed = sym (types_read v ty) ∙ is.kept; writable = is.writable; utf8 = is.utf8 }

-- the value of a key is always expected to be something
pub kept_read : (rule : KeyRule) (v : Value) → is_kept_as v (rule_shape rule) true ≡ true → is_read_as v (rule_shape rule) true ≡ true
kept_read Relocates v h = h
kept_read Comment v h = h
kept_read Boolean v h = h
kept_read DefaultPrim v h = h
kept_read Free v h = h

key : (is_name : Keyword → Bool) (k : List ℕ) (v w : Value) → is_word k ≡ true → is_name (keyword_of k) ≡ true → IsSound 0 (rule_shape (key_rule k)) true v → judged (key_rule k) v ≡ Ok w → IsProperKey is_name k w
key is_name k v w word name is h =
    subst (IsProperKey is_name k) same (record {
      word = word;
      name = name;
      taken = h ∙ ap Ok (sym same);
      writable = is.writable;
      read = kept_read (key_rule k) v is.kept;
      deep = (let d = is.deep in omega (arith, d));
      full = is.full;
      utf8 = is.utf8;
    })
  where
    same : v ≡ w
    same = judged_same (key_rule k) v w h

entry : (is_name : Keyword → Bool) (key : List ℕ) (v w : Value) → is_word key ≡ true → is_name (keyword_of key) ≡ true → IsSound 0 (rule_shape (key_rule key)) true v → judged (key_rule key) v ≡ Ok w → IsProperEntry is_name (key, w)
entry is_name k v w word name is h = entry_of_key is_name k w (key is_name k v w word name is h)

comment : (is_name : Keyword → Bool) (token text : List ℕ) → string_text token ≡ Some text → IsProperEntry is_name (comment_key, value.Text text)
comment is_name token text h = record { text = text; is = refl; utf8 = string_utf8 token text h }

pub sound_proper : SoundValuesAreProper
sound_proper = record { typed = typed; entry = entry; comment = comment }

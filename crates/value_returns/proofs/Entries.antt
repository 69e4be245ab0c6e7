-- A key with a value that it takes is an entry of metadata, the comment too.
use Rattle.std.proofs.Common.{◌≡◌, ◌∙◌, ℕ, Bool, true, false, List, Ok, Err, ap, sym, refl}
use Rattle.std.specs.Prelude.{codes, if◌then◌else◌}
use Rattle.std.specs.Str.{is_utf8}
use Rattle.plain_data.specs.Exact.{text_same}
use Rattle.sdf_values.specs.declared.refusal.RefusalKind.TheVariants.{ValueShape}
use Rattle.sdf_values.specs.declared.value.Value.{Value}
use Rattle.sdf_values.specs.declared.value.Value.TheVariants as value
use Rattle.sdf_values.proofs.Values.{of_text}
use Rattle.usda_fields.specs.Keys.{key_rule, judged, is_default_prim}
use Rattle.usda_fields.specs.declared.keys.KeyRule.{KeyRule}
use Rattle.usda_fields.specs.declared.keys.KeyRule.TheVariants.{Comment, Boolean, DefaultPrim, Free}
use Rattle.usda_grammar.specs.declared.kinds.Keyword.{Keyword}
use Rattle.usda_writer.specs.Fields.{is_comment}
use Rattle.value_texts.specs.Writable.{is_writable, writable_step, writable_item}
use Rattle.layer_reads.specs.Meta.{IsCommentKept}
use Rattle.value_returns.specs.Proper.{IsProperKey, IsProperAs, IsProperEntry}

-- a value that a rule takes is taken as it is
pub judged_same : (rule : KeyRule) (v w : Value) → judged rule v ≡ Ok w → v ≡ w
judged_same Comment (value.Text text) w h = cc h
judged_same Boolean (value.Bool b) w h = cc h
judged_same DefaultPrim (value.Text text) w h = test (is_default_prim text) h
  where
    test : (b : Bool) → (if b then Ok (value.Text text) else Err ValueShape) ≡ Ok w → value.Text text ≡ w
    test true g = cc g
    test false g = absurd cc
judged_same Free v w h = cc h
judged_same _ v w h = absurd cc

-- a text that can be written is UTF-8
pub text_writable : (text : List ℕ) → is_writable (value.Text text) ≡ true → is_utf8 text ≡ true
text_writable text h = sym (of_text Bool Bool writable_step writable_item text) ∙ h

-- the comment takes texts alone
comment_kept : (v w : Value) → judged Comment v ≡ Ok w → is_writable v ≡ true → IsCommentKept v
comment_kept (value.Text text) w h writable = record { text = text; is = refl; utf8 = text_writable text writable }
comment_kept v w h writable = absurd cc

-- a proper key with its value is a proper entry, where the key is that of the comment too
pub entry_of_key : (is_name : Keyword → Bool) (key : List ℕ) (v : Value) → IsProperKey is_name key v → IsProperEntry is_name (key, v)
entry_of_key is_name key v p = by (is_comment key) refl
  where
    by : (b : Bool) → is_comment key ≡ b → IsProperAs b is_name key v
    by true e = comment_kept v v (ap (λ k. judged (key_rule k) v) (sym (text_same key (codes "comment") e)) ∙ p.taken) p.writable
    by false e = p

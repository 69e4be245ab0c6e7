-- The proper keys of a layer come back, its default prim among them.
use Rattle.std.proofs.Common.{◌≡◌, ◌∙◌, ℕ, Bool, true, List, [], Option, Some, None, Ok, Err, ap, refl, arith}
use Rattle.std.specs.Prelude.{codes, if◌then◌else◌}
use Rattle.std.proofs.lemmas.Cmp.{nat_list_cmp_total}
use Rattle.std.proofs.lemmas.Map.Lookups.{exact_bytes}
use Rattle.sdf_paths.specs.Order.{text_cmp}
use Rattle.sdf_values.specs.declared.refusal.RefusalKind.TheVariants.{ValueShape}
use Rattle.sdf_values.specs.declared.value.Value.{Value}
use Rattle.sdf_values.specs.declared.value.Value.TheVariants as value
use Rattle.spec_properties.specs.Entries.{MetaEntries}
use Rattle.usda_fields.specs.Keys.{judged_prim, key_rule, rule_shape, is_default_prim}
use Rattle.usda_writer.specs.Canonical.{with_default_prim}
use Rattle.value_texts.specs.Readable.{depth, depth_step, depth_item}
use Rattle.value_texts.specs.Writable.{writable_step, writable_item}
use Rattle.value_texts.proofs.ReadingSteps.{reads_text}
use Rattle.sdf_values.proofs.Values as fold
use Rattle.layer_texts.proofs.Metadata.{default_word}
use Rattle.text_checks.specs.Utf8.{utf8_step, utf8_item}
use Rattle.layer_reads.specs.Keys.{is_plain_head_key}
use Rattle.value_returns.specs.Fields.{IsPrimText, IsProperDefaultPrim}
use Rattle.value_returns.specs.FullPaths.{full_step, full_item}
use Rattle.value_returns.specs.Laws.{ProperHeadKeysAreKept}
use Rattle.value_returns.specs.Proper.{IsProperKey, IsProperEntry, IsProperMeta}
use Rattle.value_returns.proofs.Kept.{metadata_kept}
use Rattle.value_returns.proofs.Tables.{all_with}
use Rattle.shared_tables.proofs.Order.{table_with}

-- ---- the default prim

judged_so : (text : List ℕ) → is_default_prim text ≡ true → judged_prim text ≡ Ok (value.Text text)
judged_so text h = ap (λ b. if b then Ok (value.Text text) else Err ValueShape) h

default_key : (text : List ℕ) → IsPrimText text → IsProperEntry is_plain_head_key (codes "defaultPrim", value.Text text)
default_key text p =
    let v : Value = value.Text text in
    let level : depth v ≡ 0 = fold.of_text ℕ ℕ depth_step depth_item text in
    let key : IsProperKey is_plain_head_key (codes "defaultPrim") v = record {
      word = default_word;
      name = refl;
      taken = judged_so text p.prim;
      writable = fold.of_text Bool Bool writable_step writable_item text ∙ p.utf8;
      read = reads_text text (rule_shape (key_rule (codes "defaultPrim"))) true;
      deep = omega (arith, level);
      full = fold.of_text Bool Bool full_step full_item text;
      utf8 = fold.of_text Bool Bool utf8_step utf8_item text;
    } in
    key

with_default : (o : Option (List ℕ)) (meta : MetaEntries) → IsProperMeta is_plain_head_key meta → IsProperDefaultPrim o → IsProperMeta is_plain_head_key (with_default_prim o meta)
with_default None meta p h = p
with_default (Some text) meta p h = record {
  ordered = table_with nat_list_cmp_total (codes "defaultPrim") (value.Text text) meta p.ordered;
  each = all_with text_cmp exact_bytes (IsProperEntry is_plain_head_key) (codes "defaultPrim") (value.Text text) meta (default_key text h) p.each;
}

pub head_keys_kept : ProperHeadKeysAreKept
head_keys_kept head p = metadata_kept is_plain_head_key (with_default_prim head.default_prim head.meta) (with_default head.default_prim head.meta p.keys p.default_prim) []

-- Keys and their values, and the comment.
use Rattle.std.proofs.Common.{◌≡◌, ◌∙◌, ℕ, Bool, true, false, List, Result, Ok, Err, ap, sym, refl, subst}
use Rattle.std.specs.Prelude.{if◌then◌else◌}
use Rattle.std.proofs.lemmas.Cmp.{nat_list_cmp_total}
use Rattle.std.proofs.lemmas.Map.Lookups.{exact_bytes}
use Rattle.sdf_paths.specs.Order.{text_cmp}
use Rattle.sdf_values.specs.declared.refusal.RefusalKind.{RefusalKind}
use Rattle.sdf_values.specs.declared.refusal.RefusalKind.TheVariants as refusal
use Rattle.sdf_values.specs.declared.value.Value.{Value}
use Rattle.sdf_values.specs.declared.value.Value.TheVariants as value
use Rattle.spec_properties.specs.Entries.{MetaEntries}
use Rattle.spec_tables.specs.Tables.{with_key}
use Rattle.usda_fields.specs.Keys as keys
use Rattle.usda_fields.specs.Keys.{comment_key, key_rule, judged, has_key, unless_taken}
use Rattle.usda_fields.specs.Names.{text_of}
use Rattle.usda_fields.specs.Owners.{with_meta}
use Rattle.usda_fields.specs.declared.keys.KeyRule.{KeyRule}
use Rattle.usda_fields.specs.declared.keys.KeyRule.TheVariants.{Relocates, Comment, Boolean, DefaultPrim, Free}
use Rattle.usda_fields.specs.declared.owner.OwnerDraft.{OwnerDraft}
use Rattle.usda_grammar.specs.declared.kinds.Keyword.{Keyword}
use Rattle.usda_lists.specs.Acts.{and_then}
use Rattle.layer_reads.specs.Meta.{IsCommentKept}
use Rattle.value_returns.specs.Fields.{IsText}
use Rattle.value_returns.specs.Proper.{IsProperEntry, IsProperMeta}
use Rattle.value_returns.proofs.Tables.{all_with}
use Rattle.value_returns.proofs.Entries.{judged_same, entry_of_key}
use Rattle.fields_read.specs.Laws.{IsReadFor, ReadMetadataIsProper, ReadKeysAreProper}
use Rattle.fields_read.specs.Sound.{IsSaid}
use Rattle.fields_read.proofs.Beside.{beside_of, said_beside}
use Rattle.fields_read.proofs.FieldActs.{text_such}
use Rattle.shared_tables.proofs.Order.{table_with}

-- ---- the rule of a key

rule_so : (key : List ℕ) (meta : MetaEntries) (rule : KeyRule) → keys.key_act key meta ≡ Ok rule → rule ≡ key_rule key
rule_so key meta rule h = by (has_key key meta) (key_rule key) h
  where
    by : (taken : Bool) (r : KeyRule) → unless_taken taken r ≡ Ok rule → rule ≡ r
    by taken Relocates g = absurd cc
    by true Comment g = absurd cc
    by true Boolean g = absurd cc
    by true DefaultPrim g = absurd cc
    by true Free g = absurd cc
    by false Comment g = cc
    by false Boolean g = cc
    by false DefaultPrim g = cc
    by false Free g = cc

-- ---- values that a key takes

module _ (is_name : Keyword → Bool) where
  entry_proper : (key : List ℕ) (v : Value) → IsReadFor is_name key v → judged (key_rule key) v ≡ Ok v → IsProperEntry is_name (key, v)
  entry_proper key v read taken =
      entry_of_key is_name key v (record { word = read.word; name = read.name; taken = taken; writable = read.writable; read = read.read; deep = read.deep; full = read.full; utf8 = read.utf8 })

  meta_with : (key : List ℕ) (v : Value) (meta : MetaEntries) → IsProperMeta is_name meta → IsProperEntry is_name (key, v) → IsProperMeta is_name (with_key text_cmp key v meta)
  meta_with key v meta proper here = record {
    ordered = table_with nat_list_cmp_total key v meta proper.ordered;
    each = all_with text_cmp exact_bytes (IsProperEntry is_name) key v meta here proper.each;
  }

  -- ---- metadata, whoever says it

  meta_valued : (key : List ℕ) (v : Value) (meta next : MetaEntries) → IsProperMeta is_name meta → IsReadFor is_name key v → keys.value_act key v meta ≡ Ok next → IsProperMeta is_name next
  meta_valued key v meta next proper read h = by (judged (key_rule key) v) refl h
    where
      by : (r : Result Value RefusalKind) → judged (key_rule key) v ≡ r → and_then r (λ w. Ok (with_key text_cmp key w meta)) ≡ Ok next → IsProperMeta is_name next
      by (Ok w) e g =
          let as_it_is : v ≡ w = judged_same (key_rule key) v w e in
          let taken : judged (key_rule key) v ≡ Ok v = e ∙ ap Ok (sym as_it_is) in
          let with_it : with_key text_cmp key w meta ≡ next = cc in
          let so : with_key text_cmp key v meta ≡ next = ap (λ x. with_key text_cmp key x meta) as_it_is ∙ with_it in
          subst (IsProperMeta is_name) so (meta_with key v meta proper (entry_proper key v read taken))
      by (Err k) e g = absurd cc

  meta_commented : (token : List ℕ) (meta next : MetaEntries) → IsProperMeta is_name meta → keys.comment_act token meta ≡ Ok next → IsProperMeta is_name next
  meta_commented token meta next proper h = by (text_of token) refl h
    where
      new : (text : List ℕ) → IsText text → (taken : Bool) → (if taken then Err refusal.DuplicateSpec else Ok (with_key text_cmp comment_key (value.Text text) meta)) ≡ Ok next → IsProperMeta is_name next
      new text utf8 true g = absurd cc
      new text utf8 false g =
          let so : with_key text_cmp comment_key (value.Text text) meta ≡ next = cc in
          let kept : IsCommentKept (value.Text text) = record { text = text; is = refl; utf8 = utf8 } in
          subst (IsProperMeta is_name) so (meta_with comment_key (value.Text text) meta proper kept)

      by : (t : Result (List ℕ) RefusalKind) → text_of token ≡ t
          → and_then t (λ text. if has_key comment_key meta then Err refusal.DuplicateSpec else Ok (with_key text_cmp comment_key (value.Text text) meta)) ≡ Ok next → IsProperMeta is_name next
      by (Ok text) e g = new text (text_such token text e) (has_key comment_key meta) g
      by (Err k) e g = absurd cc

  pub metadata_read : ReadMetadataIsProper is_name
  metadata_read = record { rule = rule_so; value = meta_valued; comment = meta_commented }

  -- ---- the metadata of an owner

  said_meta : (meta : MetaEntries) (d : OwnerDraft) → IsSaid is_name d → IsProperMeta is_name meta → IsSaid is_name (with_meta meta d)
  said_meta meta d said proper =
      said_beside is_name (record (beside_of d) { meta = meta }) d said (record { keys = proper; selections = said.selections; child_order = said.child_order; property_order = said.property_order })

  -- what an act makes of the keys of an owner
  owner_acted : (r : Result MetaEntries RefusalKind) (d next : OwnerDraft) → IsSaid is_name d → ((meta : MetaEntries) → r ≡ Ok meta → IsProperMeta is_name meta)
      → and_then r (λ meta. Ok (with_meta meta d)) ≡ Ok next → IsSaid is_name next
  owner_acted (Ok meta) d next said proper h =
      let so : with_meta meta d ≡ next = cc in
      subst (IsSaid is_name) so (said_meta meta d said (proper meta refl))
  owner_acted (Err k) d next said proper h = absurd cc

  pub keys_read : ReadKeysAreProper is_name
  keys_read = record {
    rule = λ key d rule h. rule_so key d.spec.body.meta rule h;
    value = λ key v d next said read h. owner_acted (keys.value_act key v d.spec.body.meta) d next said (λ meta g. meta_valued key v d.spec.body.meta meta said.keys read g) h;
    comment = λ token d next said h. owner_acted (keys.comment_act token d.spec.body.meta) d next said (λ meta g. meta_commented token d.spec.body.meta meta said.keys g) h;
  }

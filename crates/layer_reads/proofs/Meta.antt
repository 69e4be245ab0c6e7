-- Metadata: the comment first, and then each other key with its value, whatever owns it.
use Rattle.std.proofs.Common.{◌≡◌, ◌∙◌, ℕ, Bool, true, false, List, [], ◌∷◌, ◌++◌, append_assoc, append-nil, None, Ok, ap, sym, refl, subst}
use Rattle.std.specs.Prelude.{if◌then◌else◌, codes}
use Rattle.std.specs.List.{flat_map}
use Rattle.std.specs.Option.{is_some}
use Rattle.std.specs.Str.{is_utf8}
use Rattle.std.proofs.lemmas.Cmp.{nat_list_cmp_total}
use Rattle.plain_data.specs.Exact.{text_same}
use Rattle.sdf_paths.specs.Order.{text_cmp}
use Rattle.sdf_paths.specs.declared.element.Element.{Element}
use Rattle.sdf_values.specs.Print.{quoted}
use Rattle.sdf_values.specs.declared.value.Value.{Value}
use Rattle.sdf_values.specs.declared.value.Value.TheVariants as value
use Rattle.spec_properties.specs.Entries.{MetaEntries}
use Rattle.spec_tables.specs.Tables.{IsTable, at_key, with_key}
use Rattle.std.specs.declared.cmp.Ordering.TheVariants.{Less}
use Rattle.usda_fields.specs.Keys.{comment_key, key_rule, key_act, value_act, judged, unless_taken}
use Rattle.usda_fields.specs.declared.keys.KeyRule.{KeyRule}
use Rattle.usda_fields.specs.declared.keys.KeyRule.TheVariants.{Relocates, Comment, Boolean, DefaultPrim, Free}
use Rattle.usda_grammar.specs.declared.kinds.Keyword.{Keyword}
use Rattle.usda_grammar.specs.declared.symbols.Symbol.{Symbol}
use Rattle.usda_grammar.specs.declared.symbols.Symbol.TheVariants as symbol
use Rattle.usda_lists.specs.Acts.{and_then}
use Rattle.usda_writer.specs.Fields.{is_comment}
use Rattle.usda_drafts.specs.declared.draft.Draft.{Draft}
use Rattle.value_texts.specs.Cuts.{Said}
use Rattle.value_texts.specs.ValueWords.{words_of_value, said_step, said_item, name_said, string_said, equals}
use Rattle.value_texts.specs.Each.{AreAll}
use Rattle.sdf_values.proofs.Values as fold
use Rattle.layer_texts.specs.FieldWords.{comment_words, key_words, meta_words}
use Rattle.layer_reads.specs.Taking.{AreTaken}
use Rattle.layer_reads.specs.Items.{AreItems}
use Rattle.layer_reads.specs.Meta.{IsCommentKept, IsKeyKept, IsKeptAs, IsEntryKept, IsMetaKept}
use Rattle.layer_reads.proofs.Items.{no_items, items_both, one_item}
use Rattle.layer_reads.proofs.Tables.{AllBehind, AllAfter, none_at, put_between, after_nothing, first_behind, others, after_more, never_before_itself}

-- ---- a key that is not taken yet, and its value

rule_given : (rule : KeyRule) (v : Value) → judged rule v ≡ Ok v → unless_taken false rule ≡ Ok rule
rule_given Relocates v h = absurd cc
rule_given Comment v h = refl
rule_given Boolean v h = refl
rule_given DefaultPrim v h = refl
rule_given Free v h = refl

pub key_given : (key : List ℕ) (v : Value) (meta : MetaEntries) → at_key text_cmp key meta ≡ None → judged (key_rule key) v ≡ Ok v → key_act key meta ≡ Ok (key_rule key)
key_given key v meta none taken = ap (λ o. unless_taken (is_some o) (key_rule key)) none ∙ rule_given (key_rule key) v taken

pub value_given : (key : List ℕ) (v : Value) (meta : MetaEntries) → judged (key_rule key) v ≡ Ok v → value_act key v meta ≡ Ok (with_key text_cmp key v meta)
value_given key v meta taken = ap (λ r. and_then r (λ v. Ok (with_key text_cmp key v meta))) taken

-- ---- the comment among the entries

abbrev comments : MetaEntries → MetaEntries
comments [] = []
comments (e ∷ es) = if is_comment e.0 then e ∷ comments es else comments es

is_the_comment : (key : List ℕ) → is_comment key ≡ true → key ≡ codes "comment"
is_the_comment key h = text_same key (codes "comment") h

-- behind the comment is none
no_more_comments : (key : List ℕ) → key ≡ codes "comment" → (es : MetaEntries) → AllBehind text_cmp es key → (comments es ≡ []) × (flat_map comment_words es ≡ [])
no_more_comments key k [] h = (refl, refl)
no_more_comments key k (e ∷ es) h =
    let p = no_more_comments key k es h.1 in (
      ap (λ b. if b then e ∷ comments es else comments es) none ∙ p.0,
      ap (λ b. (if b then words_of_value e.1 else []) ++ flat_map comment_words es) none ∙ p.1,
    )
  where
    by : (b : Bool) → is_comment e.0 ≡ b → b ≡ false
    by false i = refl
    by true i = absurd (never_before_itself text_cmp nat_list_cmp_total key (subst (λ q. text_cmp key q ≡ Less) (is_the_comment e.0 i ∙ sym k) h.0))

    none : is_comment e.0 ≡ false
    none = by (is_comment e.0) refl

behind_comments : (es : MetaEntries) (key : List ℕ) → AllBehind text_cmp es key → AllBehind text_cmp (comments es) key
behind_comments [] key h = tt
behind_comments (e ∷ es) key h = by (is_comment e.0) (behind_comments es key h.1)
  where
    by : (b : Bool) → AllBehind text_cmp (comments es) key → AllBehind text_cmp (if b then e ∷ comments es else comments es) key
    by true more = (h.0, more)
    by false more = more

-- ---- metadata of an owner: `Says` is a draft in which these entries stand

module _ (s : Symbol) (is_plain : Keyword → Bool) (base : List Element) (Says : MetaEntries → Draft → Type 0)
    (comment_taken : (t : List ℕ) (d : Draft) → is_utf8 t ≡ true → Says [] d → AreTaken (s ∷ []) d (string_said (quoted t) ∷ []) (symbol.MaybeSemicolon ∷ s ∷ []) (Says ((comment_key, value.Text t) ∷ [])))
    (key_taken : (key : List ℕ) (v : Value) (meta : MetaEntries) (d : Draft) → at_key text_cmp key meta ≡ None → IsKeyKept is_plain base key v → Says meta d
    → AreTaken (s ∷ []) d (name_said key ∷ equals ∷ words_of_value v) (symbol.MaybeSemicolon ∷ s ∷ []) (Says (with_key text_cmp key v meta))) where
  comment_items : (e : List ℕ × Value) → is_comment e.0 ≡ true → IsCommentKept e.1 → AreItems s (words_of_value e.1) (Says []) (Says (e ∷ []))
  comment_items e is kept =
      subst (λ v. AreItems s (words_of_value v) (Says []) (Says ((e.0, v) ∷ []))) (sym kept.is)
      (subst (λ l. AreItems s l (Says []) (Says ((e.0, value.Text kept.text) ∷ []))) (sym (fold.of_text (List Said) (List Said) said_step said_item kept.text))
      (subst (λ k. AreItems s (string_said (quoted kept.text) ∷ []) (Says []) (Says ((k, value.Text kept.text) ∷ []))) (sym (is_the_comment e.0 is))
      (one_item s (string_said (quoted kept.text)) [] (Says []) (Says ((comment_key, value.Text kept.text) ∷ [])) refl (λ d h. comment_taken kept.text d kept.utf8 h))))

  comments_items : (es : MetaEntries) → IsTable text_cmp es → AreAll (IsEntryKept is_plain base) es → AreItems s (flat_map comment_words es) (Says []) (Says (comments es))
  comments_items [] sorted each = no_items s (Says []) (Says []) (λ d h. h)
  comments_items (e ∷ es) sorted each = by (is_comment e.0) refl each.0 (comments_items es (others text_cmp e es sorted) each.1)
    where
      by : (b : Bool) → is_comment e.0 ≡ b → IsKeptAs b is_plain base e.0 e.1 → AreItems s (flat_map comment_words es) (Says []) (Says (comments es))
          → AreItems s ((if b then words_of_value e.1 else []) ++ flat_map comment_words es) (Says []) (Says (if b then e ∷ comments es else comments es))
      by true is kept more =
          let none = no_more_comments e.0 (is_the_comment e.0 is) es (first_behind text_cmp e es sorted) in
          subst (λ l. AreItems s (words_of_value e.1 ++ l) (Says []) (Says (e ∷ comments es))) (sym none.1)
          (subst (λ l. AreItems s l (Says []) (Says (e ∷ comments es))) (sym (append-nil (words_of_value e.1)))
          (subst (λ l. AreItems s (words_of_value e.1) (Says []) (Says (e ∷ l))) (sym none.0) (comment_items e is kept)))
      by false is kept more = more

  keys_items : (done es : MetaEntries) → AllAfter text_cmp done es → IsTable text_cmp es → AreAll (IsEntryKept is_plain base) es → AreItems s (flat_map key_words es) (Says (done ++ comments es)) (Says (done ++ es))
  keys_items done [] after sorted each = no_items s (Says (done ++ [])) (Says (done ++ [])) (λ d h. h)
  keys_items done (e ∷ es) after sorted each =
      let behind : AllBehind text_cmp es e.0 = first_behind text_cmp e es sorted in
      by (is_comment e.0) each.0 behind
      (subst (λ l. AreItems s (flat_map key_words es) (Says l) (Says (done ++ e ∷ es))) (append_assoc done (e ∷ []) (comments es))
      (subst (λ l. AreItems s (flat_map key_words es) (Says ((done ++ e ∷ []) ++ comments es)) (Says l)) (append_assoc done (e ∷ []) es)
      (keys_items (done ++ e ∷ []) es (after_more text_cmp nat_list_cmp_total done e es after.1 behind) (others text_cmp e es sorted) each.1)))
    where
      by : (b : Bool) → IsKeptAs b is_plain base e.0 e.1 → AllBehind text_cmp es e.0 → AreItems s (flat_map key_words es) (Says (done ++ e ∷ comments es)) (Says (done ++ e ∷ es))
          → AreItems s ((if b then [] else (name_said e.0 ∷ equals ∷ words_of_value e.1)) ++ flat_map key_words es) (Says (done ++ (if b then e ∷ comments es else comments es))) (Says (done ++ e ∷ es))
      by true kept behind more = more
      by false kept behind more =
          items_both s (name_said e.0 ∷ equals ∷ words_of_value e.1) (flat_map key_words es) (Says (done ++ comments es)) (Says (done ++ e ∷ comments es)) (Says (done ++ e ∷ es))
          (one_item s (name_said e.0) (equals ∷ words_of_value e.1) (Says (done ++ comments es)) (Says (done ++ e ∷ comments es)) refl
          (λ d h.
          subst (λ m. AreTaken (s ∷ []) d (name_said e.0 ∷ equals ∷ words_of_value e.1) (symbol.MaybeSemicolon ∷ s ∷ []) (Says m)) (put_between text_cmp done (comments es) e.0 e.1 after.0 (behind_comments es e.0 behind))
          (key_taken e.0 e.1 (done ++ comments es) d (none_at text_cmp done (comments es) e.0 after.0 (behind_comments es e.0 behind)) kept h)))
          more

  pub meta_items : (meta : MetaEntries) → IsMetaKept is_plain base meta → AreItems s (meta_words meta) (Says []) (Says meta)
  meta_items meta kept =
      items_both s (flat_map comment_words meta) (flat_map key_words meta) (Says []) (Says (comments meta)) (Says meta)
      (comments_items meta kept.ordered kept.each) (keys_items [] meta (after_nothing text_cmp meta) kept.ordered kept.each)

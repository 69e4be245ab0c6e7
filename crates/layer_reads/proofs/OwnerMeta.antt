-- Metadata of a prim, a variant or a layer.
use Rattle.std.proofs.Common.{◌≡◌, ◌∙◌, ℕ, Bool, true, false, List, [], ◌∷◌, Some, None, Result, Ok, Err, ap, sym, refl, subst}
use Rattle.std.specs.Str.{is_utf8}
use Rattle.std.specs.Prelude.{if◌then◌else◌}
use Rattle.sdf_paths.specs.Order.{text_cmp}
use Rattle.sdf_values.specs.Print.{quoted}
use Rattle.sdf_values.specs.declared.refusal.RefusalKind.{RefusalKind}
use Rattle.sdf_values.specs.declared.refusal.RefusalKind.TheVariants.{DuplicateSpec}
use Rattle.sdf_values.specs.declared.value.Value.{Value}
use Rattle.sdf_values.specs.declared.value.Value.TheVariants as value
use Rattle.spec_properties.specs.Entries.{MetaEntries}
use Rattle.spec_tables.specs.Tables.{at_key, with_key}
use Rattle.usda_fields.specs.Keys as keys
use Rattle.usda_fields.specs.Keys.{comment_key, key_rule}
use Rattle.usda_fields.specs.Names.{if_utf8}
use Rattle.usda_fields.specs.Owners as owner
use Rattle.usda_fields.specs.Owners.{with_meta}
use Rattle.usda_fields.specs.declared.keys.KeyRule.{KeyRule}
use Rattle.usda_fields.specs.declared.owner.OwnerDraft.{OwnerDraft}
use Rattle.usda_grammar.specs.Machine.{step}
use Rattle.usda_grammar.specs.Words.{keyword_of}
use Rattle.usda_grammar.specs.declared.kinds.Keyword.{Keyword}
use Rattle.usda_grammar.specs.declared.symbols.Symbol.{Symbol}
use Rattle.usda_grammar.specs.declared.symbols.Symbol.TheVariants as symbol
use Rattle.usda_lists.specs.Acts.{and_then}
use Rattle.usda_words.specs.Words.{Word}
use Rattle.usda_drafts.specs.Acts.{bodies_act, prims_act, layers_act}
use Rattle.usda_drafts.specs.Metadata.{comment_act, prim_item_act, head_item_act}
use Rattle.usda_drafts.specs.Refusals.{then_with}
use Rattle.usda_drafts.specs.Values.{with_said, aimed_at_key}
use Rattle.usda_drafts.specs.declared.draft.Draft.{Draft}
use Rattle.value_texts.specs.ValueWords.{words_of_value, name_said, string_said, equals}
use Rattle.value_texts.specs.Words.{as_word}
use Rattle.value_texts.proofs.StringTokens.{string_means}
use Rattle.layer_texts.specs.FieldWords.{meta_words}
use Rattle.layer_reads.specs.Fixed.{AreFixed}
use Rattle.layer_reads.specs.Keys.{IsLineTaken, is_plain_key, is_plain_head_key, is_edit_word, noted, behind_key}
use Rattle.layer_reads.specs.Taking.{AreTaken}
use Rattle.layer_reads.proofs.Keys.{first_prim_line_taken, first_head_line_taken}
use Rattle.layer_reads.proofs.Taking.{weaker}
use Rattle.layer_reads.specs.Items.{AreItems}
use Rattle.layer_reads.specs.Meta.{IsKeyKept, IsMetaKept, AreMetaRead}
use Rattle.layer_reads.specs.Standing.{Standing, saying, IsAt}
use Rattle.layer_reads.proofs.EditedLists.{said_at}
use Rattle.layer_reads.proofs.Meta.{meta_items, key_given, value_given}
use Rattle.layer_reads.proofs.Words.{saying_word, word_taken}

-- what is said behind the line of a key, where an edit word is noted or none is
said_behind : (b : Bool) (key : List ℕ) (rule : KeyRule) (a next : OwnerDraft) (at : Standing) (start : ℕ) (d : Draft) → IsAt (saying a at) d → IsAt (saying next at) (behind_key key rule next (noted b key start d))
unfolding aimed_at_key
said_behind true key rule a next at start d h = record { stands = ap (saying next) h.stands; free = h.free; shut = refl; shallow = h.shallow }
said_behind false key rule a next at start d h = record { stands = ap (saying next) h.stands; free = h.free; shut = refl; shallow = h.shallow }

module _ (sym_of : Symbol) (is_plain : Keyword → Bool) (line : IsLineTaken is_plain sym_of (sym_of ∷ []))
    (comment_step : (t : List ℕ) (below : List Symbol) → step (sym_of ∷ below) (as_word (string_said t)).kind ≡ Some (sym_of, symbol.MaybeSemicolon ∷ sym_of ∷ below))
    (comment_acts : (t : List ℕ) (w : Word) (d : Draft) → bodies_act sym_of (saying_word (string_said t) w) d ≡ comment_act (saying_word (string_said t) w) d) (s : OwnerDraft) (at : Standing) where
  abbrev Says : MetaEntries → Draft → Type 0
  Says meta = IsAt (saying (with_meta meta s) at)

  comment_taken : (t : List ℕ) (d : Draft) → is_utf8 t ≡ true → Says [] d
      → AreTaken (sym_of ∷ []) d (string_said (quoted t) ∷ []) (symbol.MaybeSemicolon ∷ sym_of ∷ []) (Says ((comment_key, value.Text t) ∷ []))
  unfolding comment_act
  comment_taken t d utf8 h =
      word_taken (sym_of ∷ []) (symbol.MaybeSemicolon ∷ sym_of ∷ []) sym_of d (string_said (quoted t)) (Says ((comment_key, value.Text t) ∷ [])) h.shut (comment_step (quoted t))
      (λ w. (
        with_said d (with_meta ((comment_key, value.Text t) ∷ []) s),
        said_at (with_meta [] s) (with_meta ((comment_key, value.Text t) ∷ []) s) at d h,
        comment_acts (quoted t) w d
            ∙ ap (λ u. then_with w.start (owner.comment_act (quoted t) u) (with_said d)) (ap (λ (a : Standing). a.owner.said) h.stands)
            ∙ ap (λ o. then_with w.start (and_then (and_then (if_utf8 o) put) (λ meta. Ok (with_meta meta (with_meta [] s)))) (with_said d)) (string_means t utf8),
      ))
    where
      put : List ℕ → Result MetaEntries RefusalKind
      put text = if keys.has_key comment_key [] then Err DuplicateSpec else Ok (with_key text_cmp comment_key (value.Text text) [])

  key_taken : (key : List ℕ) (v : Value) (meta : MetaEntries) (d : Draft) → at_key text_cmp key meta ≡ None → IsKeyKept is_plain s.base key v → Says meta d
      → AreTaken (sym_of ∷ []) d (name_said key ∷ equals ∷ words_of_value v) (symbol.MaybeSemicolon ∷ sym_of ∷ []) (Says (with_key text_cmp key v meta))
  key_taken key v meta d none kept h =
      let next : OwnerDraft = with_meta (with_key text_cmp key v meta) s in
      let said : d.owner.said ≡ with_meta meta s = ap (λ (a : Standing). a.owner.said) h.stands in
      weaker (sym_of ∷ []) (symbol.MaybeSemicolon ∷ sym_of ∷ []) d (name_said key ∷ equals ∷ words_of_value v) (λ e. (start : ℕ) × (e ≡ behind_key key (key_rule key) next (noted (is_edit_word sym_of (keyword_of key)) key start d))) (Says (with_key text_cmp key v meta))
      (line key v (key_rule key) d next kept.plain h.shut (ap (owner.key_act key) said ∙ key_given key v meta none kept.taken)
      (ap (owner.value_act key v) said ∙ ap (λ r. and_then r (λ m. Ok (with_meta m (with_meta meta s)))) (value_given key v meta kept.taken)) kept.membered kept.writable kept.read kept.deep
      (subst (λ b. AreFixed b (words_of_value v)) (sym (ap (λ (u : OwnerDraft). u.base) said)) kept.fixed))
      (λ e k. subst (Says (with_key text_cmp key v meta)) (sym k.1) (said_behind (is_edit_word sym_of (keyword_of key)) key (key_rule key) (with_meta meta s) next at k.0 d h))

  pub owner_meta : (meta : MetaEntries) → IsMetaKept is_plain s.base meta → AreItems sym_of (meta_words meta) (Says []) (Says meta)
  owner_meta = meta_items sym_of is_plain s.base Says comment_taken key_taken

pub prim_meta : AreMetaRead symbol.PrimMetadata is_plain_key
unfolding bodies_act prims_act prim_item_act
prim_meta meta s at kept = owner_meta symbol.PrimMetadata is_plain_key first_prim_line_taken (λ t below. refl) (λ t w d. refl) s at meta kept

pub head_meta : AreMetaRead symbol.HeadItems is_plain_head_key
unfolding bodies_act prims_act layers_act head_item_act
head_meta meta s at kept = owner_meta symbol.HeadItems is_plain_head_key first_head_line_taken (λ t below. refl) (λ t w d. refl) s at meta kept

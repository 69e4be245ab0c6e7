-- Lines of metadata: a key and its value.
use Rattle.std.proofs.Common.{◌≡◌, ◌∙◌, ◌≤◌, ℕ, Bool, true, false, List, [], ◌∷◌, ◌++◌, Some, Ok, ap, sym, refl, subst}
use Rattle.sdf_values.specs.declared.value.Value.{Value}
use Rattle.usda_fields.specs.Keys.{rule_shape}
use Rattle.usda_fields.specs.Owners as owner
use Rattle.usda_fields.specs.declared.keys.KeyRule.{KeyRule}
use Rattle.usda_fields.specs.declared.owner.OwnerDraft.{OwnerDraft}
use Rattle.usda_grammar.specs.declared.kinds.Keyword.{Keyword}
use Rattle.usda_grammar.specs.declared.kinds.Keyword.TheVariants as word
use Rattle.usda_grammar.specs.declared.kinds.WordKind.TheVariants as token
use Rattle.usda_grammar.specs.declared.symbols.Symbol.{Symbol}
use Rattle.usda_grammar.specs.declared.symbols.Symbol.TheVariants as symbol
use Rattle.usda_grammar.specs.Machine.{step}
use Rattle.usda_grammar.specs.Words.{keyword_of}
use Rattle.usda_statements.specs.OpenValues.{no_value, is_open}
use Rattle.usda_words.specs.Words.{Word}
use Rattle.usda_drafts.specs.Acts.{bodies_act, prims_act, layers_act}
use Rattle.usda_drafts.specs.Metadata.{key_act, edit_act, edited_act, prim_item_act, head_item_act}
use Rattle.usda_drafts.specs.Refusals.{then_with}
use Rattle.usda_drafts.specs.Values.{aimed_at_key, completed, is_selections, with_said}
use Rattle.usda_drafts.specs.declared.aim.Goal.TheVariants as goal
use Rattle.usda_drafts.specs.declared.draft.Draft.{Draft}
use Rattle.value_texts.specs.Readable.{is_read_as, depth}
use Rattle.value_texts.specs.ValueWords.{words_of_value, name_said, equals}
use Rattle.value_texts.specs.Words.{Told}
use Rattle.value_texts.specs.Writable.{is_writable}
use Rattle.layer_reads.specs.Fixed.{AreFixed}
use Rattle.layer_reads.specs.Keys.{IsLineTaken, is_plain_key, is_plain_head_key, is_edit_word, noted, behind_key}
use Rattle.layer_reads.specs.Membered.{is_membered}
use Rattle.layer_reads.specs.Taking.{AreTaken}
use Rattle.layer_reads.proofs.FieldLists.{plain_act}
use Rattle.layer_reads.proofs.OpenValues.{value_taken}
use Rattle.layer_reads.proofs.Taking.{taken_one, together, weaker, above}

keyed : (key : List ℕ) (at : ℕ) (rule : KeyRule) (d : Draft) → owner.key_act key d.owner.said ≡ Ok rule → key_act key at d ≡ Ok (aimed_at_key goal.OwnerKey key rule d)
unfolding key_act
keyed key at rule d h = ap (λ r. then_with at r (λ rule. aimed_at_key goal.OwnerKey key rule d)) h

pub equals_act : (w : Word) (d : Draft) → bodies_act symbol.Equals w d ≡ Ok d
unfolding bodies_act prims_act layers_act
equals_act w d = refl

abbrev Behind : Symbol → List Symbol
Behind s = symbol.MaybeSemicolon ∷ s ∷ []

module _ (key : List ℕ) (v : Value) (rule : KeyRule) (d : Draft) (said : OwnerDraft) (shut : is_open d.value ≡ false) (keys : owner.key_act key d.owner.said ≡ Ok rule) (values : owner.value_act key v d.owner.said ≡ Ok said)
    (membered : is_membered v ≡ true) (writable : is_writable v ≡ true) (read : is_read_as v (rule_shape rule) true ≡ true) (deep : depth v ≤ 64) (fixed : AreFixed d.owner.said.base (words_of_value v)) where
  abbrev Aimed : Draft
  Aimed = aimed_at_key goal.OwnerKey key rule d

  aimed_shut : is_open Aimed.value ≡ false
  unfolding aimed_at_key
  aimed_shut = shut

  valued : AreTaken (symbol.Value ∷ []) Aimed (words_of_value v) [] (λ e. e ≡ behind_key key rule said d)
  unfolding aimed_at_key is_selections completed
  valued = value_taken v Aimed (behind_key key rule said d) shut refl membered writable read deep fixed (λ at. ap (λ r. then_with at r (with_said (record Aimed { value = no_value }))) values)

  -- behind `=`
  value_behind : (s : Symbol) → AreTaken (symbol.Value ∷ Behind s) Aimed (words_of_value v) (Behind s) (λ e. e ≡ behind_key key rule said d)
  value_behind s = above (symbol.Value ∷ []) [] (Behind s) Aimed (words_of_value v) (λ e. e ≡ behind_key key rule said d) valued

  line_taken : (s : Symbol) (from : List Symbol) → ((below : List Symbol) → step (from ++ below) (token.Word (keyword_of key)) ≡ Some (s, symbol.Equals ∷ symbol.Value ∷ Behind s ++ below))
      → ((w : Word) → bodies_act s (record w { kind = token.Word (keyword_of key) }) d ≡ key_act w.text w.start d) → AreTaken from d (name_said key ∷ equals ∷ words_of_value v) (Behind s) (λ e. e ≡ behind_key key rule said d)
  line_taken s from goes acts =
      let R : Draft → Type 0 = λ e. e ≡ behind_key key rule said d in
      let back : List Symbol = Behind s in
      together from (symbol.Equals ∷ symbol.Value ∷ back) back d (name_said key ∷ []) (equals ∷ words_of_value v) (λ e. e ≡ Aimed) R
      (taken_one from (symbol.Equals ∷ symbol.Value ∷ back) s d (name_said key) (λ e. e ≡ Aimed) goes
      (λ w told. (
        Aimed,
        refl,
        plain_act s w (name_said key) d told shut
            ∙ ap (λ (t : Told). bodies_act s (record w { kind = t.kind }) d) told
            ∙ acts w
            ∙ ap (λ (t : Told). key_act t.text w.start d) told
            ∙ keyed key w.start rule d keys,
      )))
      (λ e h.
      subst (λ e. AreTaken (symbol.Equals ∷ symbol.Value ∷ back) e (equals ∷ words_of_value v) back R) (sym h)
      (together (symbol.Equals ∷ symbol.Value ∷ back) (symbol.Value ∷ back) back Aimed (equals ∷ []) (words_of_value v) (λ e. e ≡ Aimed) R
      (taken_one (symbol.Equals ∷ symbol.Value ∷ back) (symbol.Value ∷ back) symbol.Equals Aimed equals (λ e. e ≡ Aimed) (λ below. refl)
      (λ w told. (Aimed, refl, plain_act symbol.Equals w equals Aimed told aimed_shut ∙ equals_act w Aimed)))
      (λ f k. subst (λ f. AreTaken (symbol.Value ∷ back) f (words_of_value v) back R) (sym k) (value_behind s))))

-- ---- prims and variants

edit_step : (k : Keyword) → is_edit_word symbol.PrimMetadata k ≡ true → (below : List Symbol) → step (symbol.PrimMetadata ∷ below) (token.Word k) ≡ Some (symbol.PrimMetadata, symbol.EditedField ∷ Behind symbol.PrimMetadata ++ below)
edit_step word.Edit h below = refl
edit_step word.Reorder h below = refl
edit_step _ h below = absurd cc

edit_noted : (k : Keyword) → is_edit_word symbol.PrimMetadata k ≡ true → (w : Word) (d : Draft) → bodies_act symbol.PrimMetadata (record w { kind = token.Word k }) d ≡ Ok (noted true w.text w.start d)
unfolding bodies_act prims_act prim_item_act edit_act
edit_noted word.Edit h w d = refl
edit_noted word.Reorder h w d = refl
edit_noted _ h w d = absurd cc

-- `=` behind an edit word
edited : (key : List ℕ) (at : ℕ) (w : Word) (d : Draft) → bodies_act symbol.EditedField (record w { kind = token.Equals }) (noted true key at d) ≡ key_act key at (noted true key at d)
unfolding bodies_act prims_act edited_act
edited key at w d = refl

prim_step : (k : Keyword) → is_plain_key k ≡ true → is_edit_word symbol.PrimMetadata k ≡ false → (below : List Symbol)
    → step (symbol.PrimMetadata ∷ below) (token.Word k) ≡ Some (symbol.PrimMetadata, symbol.Equals ∷ symbol.Value ∷ Behind symbol.PrimMetadata ++ below)
prim_step word.StringField h e below = absurd cc
prim_step word.PathField h e below = absurd cc
prim_step word.ReferenceField h e below = absurd cc
prim_step word.Edit h e below = absurd cc
prim_step word.Reorder h e below = absurd cc
prim_step word.Variants h e below = absurd cc
prim_step _ h e below = refl

prim_key : (k : Keyword) → is_plain_key k ≡ true → is_edit_word symbol.PrimMetadata k ≡ false → (w : Word) (d : Draft) → bodies_act symbol.PrimMetadata (record w { kind = token.Word k }) d ≡ key_act w.text w.start d
unfolding bodies_act prims_act prim_item_act
prim_key word.StringField h e w d = absurd cc
prim_key word.PathField h e w d = absurd cc
prim_key word.ReferenceField h e w d = absurd cc
prim_key word.Edit h e w d = absurd cc
prim_key word.Reorder h e w d = absurd cc
prim_key word.Variants h e w d = absurd cc
prim_key _ h e w d = refl

module _ (key : List ℕ) (v : Value) (rule : KeyRule) (d : Draft) (said : OwnerDraft) (plain : is_plain_key (keyword_of key) ≡ true) (shut : is_open d.value ≡ false) (keys : owner.key_act key d.owner.said ≡ Ok rule)
    (values : owner.value_act key v d.owner.said ≡ Ok said) (membered : is_membered v ≡ true) (writable : is_writable v ≡ true) (read : is_read_as v (rule_shape rule) true ≡ true) (deep : depth v ≤ 64)
    (fixed : AreFixed d.owner.said.base (words_of_value v)) where
  -- the draft behind the line, where it begins with an edit word or does not
  abbrev Behind_line : Bool → Draft → Type 0
  Behind_line b e = (at : ℕ) × (e ≡ behind_key key rule said (noted b key at d))

  -- `=` and a value behind an edit word
  edited_taken : (at : ℕ) → AreTaken (symbol.EditedField ∷ Behind symbol.PrimMetadata) (noted true key at d) (equals ∷ words_of_value v) (Behind symbol.PrimMetadata) (Behind_line true)
  edited_taken at =
      let back : List Symbol = Behind symbol.PrimMetadata in
      let f : Draft = noted true key at d in
      let aimed : Draft = aimed_at_key goal.OwnerKey key rule f in
      together (symbol.EditedField ∷ back) (symbol.Value ∷ back) back f (equals ∷ []) (words_of_value v) (λ e. e ≡ aimed) (Behind_line true)
      (taken_one (symbol.EditedField ∷ back) (symbol.Value ∷ back) symbol.EditedField f equals (λ e. e ≡ aimed) (λ below. refl)
      (λ w told. (
        aimed,
        refl,
        plain_act symbol.EditedField w equals f told shut
            ∙ ap (λ (t : Told). bodies_act symbol.EditedField (record w { kind = t.kind }) f) told
            ∙ edited key at w d
            ∙ keyed key at rule f keys,
      )))
      (λ e h.
      subst (λ e. AreTaken (symbol.Value ∷ back) e (words_of_value v) back (Behind_line true)) (sym h)
      (weaker (symbol.Value ∷ back) back aimed (words_of_value v) (λ e. e ≡ behind_key key rule said f) (Behind_line true)
      (value_behind key v rule f said shut keys values membered writable read deep fixed symbol.PrimMetadata) (λ e k. (at, k))))

  by_word : (b : Bool) (from : List Symbol) → is_edit_word symbol.PrimMetadata (keyword_of key) ≡ b
      → ((below : List Symbol) → step (from ++ below) (token.Word (keyword_of key)) ≡ step (symbol.PrimMetadata ∷ below) (token.Word (keyword_of key)))
      → AreTaken from d (name_said key ∷ equals ∷ words_of_value v) (Behind symbol.PrimMetadata) (Behind_line b)
  by_word true from is same =
      together from (symbol.EditedField ∷ Behind symbol.PrimMetadata) (Behind symbol.PrimMetadata) d (name_said key ∷ []) (equals ∷ words_of_value v) (λ e. (at : ℕ) × (e ≡ noted true key at d)) (Behind_line true)
      (taken_one from (symbol.EditedField ∷ Behind symbol.PrimMetadata) symbol.PrimMetadata d (name_said key) (λ e. (at : ℕ) × (e ≡ noted true key at d)) (λ below. same below ∙ edit_step (keyword_of key) is below)
      (λ w told. (
        noted true key w.start d,
        (w.start, refl),
        plain_act symbol.PrimMetadata w (name_said key) d told shut
            ∙ ap (λ (t : Told). bodies_act symbol.PrimMetadata (record w { kind = t.kind }) d) told
            ∙ edit_noted (keyword_of key) is w d
            ∙ ap (λ (t : Told). Ok (noted true t.text w.start d)) told,
      )))
      (λ e h. subst (λ e. AreTaken (symbol.EditedField ∷ Behind symbol.PrimMetadata) e (equals ∷ words_of_value v) (Behind symbol.PrimMetadata) (Behind_line true)) (sym h.1) (edited_taken h.0))
  by_word false from is same =
      weaker from (Behind symbol.PrimMetadata) d (name_said key ∷ equals ∷ words_of_value v) (λ e. e ≡ behind_key key rule said d) (Behind_line false)
      (line_taken key v rule d said shut keys values membered writable read deep fixed symbol.PrimMetadata from (λ below. same below ∙ prim_step (keyword_of key) plain is below) (λ w. prim_key (keyword_of key) plain is w d))
      (λ e k. (0, k))

pub prim_line_taken : IsLineTaken is_plain_key symbol.PrimMetadata (symbol.MaybeSemicolon ∷ symbol.PrimMetadata ∷ [])
prim_line_taken key v rule d said plain shut keys values membered writable read deep fixed =
    by_word key v rule d said plain shut keys values membered writable read deep fixed (is_edit_word symbol.PrimMetadata (keyword_of key)) (symbol.MaybeSemicolon ∷ symbol.PrimMetadata ∷ []) refl (λ below. refl)

pub first_prim_line_taken : IsLineTaken is_plain_key symbol.PrimMetadata (symbol.PrimMetadata ∷ [])
first_prim_line_taken key v rule d said plain shut keys values membered writable read deep fixed =
    by_word key v rule d said plain shut keys values membered writable read deep fixed (is_edit_word symbol.PrimMetadata (keyword_of key)) (symbol.PrimMetadata ∷ []) refl (λ below. refl)

-- ---- the layer

head_step : (k : Keyword) → is_plain_head_key k ≡ true → (below : List Symbol) → step (symbol.HeadItems ∷ below) (token.Word k) ≡ Some (symbol.HeadItems, symbol.Equals ∷ symbol.Value ∷ Behind symbol.HeadItems ++ below)
head_step word.SubLayers h below = absurd cc
head_step _ h below = refl

head_key : (k : Keyword) → is_plain_head_key k ≡ true → (w : Word) (d : Draft) → bodies_act symbol.HeadItems (record w { kind = token.Word k }) d ≡ key_act w.text w.start d
unfolding bodies_act prims_act layers_act head_item_act
head_key word.SubLayers h w d = absurd cc
head_key _ h w d = refl

pub head_line_taken : IsLineTaken is_plain_head_key symbol.HeadItems (symbol.MaybeSemicolon ∷ symbol.HeadItems ∷ [])
head_line_taken key v rule d said plain shut keys values membered writable read deep fixed =
    let from : List Symbol = symbol.MaybeSemicolon ∷ symbol.HeadItems ∷ [] in
    weaker from (Behind symbol.HeadItems) d (name_said key ∷ equals ∷ words_of_value v) (λ e. e ≡ behind_key key rule said d) (λ e. (at : ℕ) × (e ≡ behind_key key rule said d))
    (line_taken key v rule d said shut keys values membered writable read deep fixed symbol.HeadItems from (head_step (keyword_of key) plain) (λ w. head_key (keyword_of key) plain w d)) (λ e k. (0, k))

pub first_head_line_taken : IsLineTaken is_plain_head_key symbol.HeadItems (symbol.HeadItems ∷ [])
first_head_line_taken key v rule d said plain shut keys values membered writable read deep fixed =
    let from : List Symbol = symbol.HeadItems ∷ [] in
    weaker from (Behind symbol.HeadItems) d (name_said key ∷ equals ∷ words_of_value v) (λ e. e ≡ behind_key key rule said d) (λ e. (at : ℕ) × (e ≡ behind_key key rule said d))
    (line_taken key v rule d said shut keys values membered writable read deep fixed symbol.HeadItems from (head_step (keyword_of key) plain) (λ w. head_key (keyword_of key) plain w d)) (λ e k. (0, k))

-- The default, the samples and the metadata of the property in hand.
use Rattle.std.proofs.Common.{◌≡◌, ◌∙◌, ◌≤◌, ℕ, true, false, List, [], ◌∷◌, ◌++◌, append_assoc, append-nil, Some, None, Result, Ok, Err, ap, sym, refl, subst, arith}
use Rattle.std.specs.Prelude.{if◌then◌else◌, codes, ℤ, ◌^◌, unsigned_abs, nat_le}
use Rattle.std.specs.List.{flat_map}
use Rattle.std.specs.Option.{is_some}
use Rattle.std.specs.Ordering.{int_cmp}
use Rattle.std.specs.Str.{is_utf8}
use Rattle.std.proofs.lemmas.Bool.Decides.{nat_tests}
use Rattle.std.proofs.lemmas.Cmp.{int_cmp_total}
use Rattle.sdf_paths.specs.Order.{text_cmp}
use Rattle.sdf_values.specs.Print.{quoted, time_text}
use Rattle.sdf_values.specs.declared.refusal.RefusalKind.{RefusalKind}
use Rattle.sdf_values.specs.declared.refusal.RefusalKind.TheVariants.{DuplicateSpec, TooDeep}
use Rattle.sdf_values.specs.declared.type_name.TypeName.{TypeName}
use Rattle.sdf_values.specs.declared.value.Value.{Value}
use Rattle.sdf_values.specs.declared.value.Value.TheVariants as value
use Rattle.spec_properties.specs.Entries.{MetaEntries, SampleEntries}
use Rattle.spec_tables.specs.Tables.{IsTable, at_key, with_key}
use Rattle.usda_fields.specs.Keys as keys
use Rattle.usda_fields.specs.Keys.{comment_key, key_rule}
use Rattle.usda_fields.specs.Names.{if_utf8}
use Rattle.usda_grammar.specs.Machine.{step}
use Rattle.usda_grammar.specs.declared.symbols.Symbol.{Symbol}
use Rattle.usda_grammar.specs.declared.symbols.Symbol.TheVariants as symbol
use Rattle.usda_lists.specs.Acts.{and_then}
use Rattle.usda_statements.specs.OpenValues.{no_value}
use Rattle.usda_statements.specs.PropertyDrafts.{default_act, with_default, samples_act, with_sample, with_meta, meta_comment_act, meta_key_act, meta_act}
use Rattle.usda_statements.specs.declared.property.PropertyDraft.{PropertyDraft}
use Rattle.usda_words.specs.Words.{Word}
use Rattle.usda_drafts.specs.Acts.{bodies_act, prims_act, layers_act}
use Rattle.usda_drafts.specs.Bodies.{tail_act, dot_act, default_begun, samples_begun, sample_act}
use Rattle.usda_drafts.specs.Metadata.{property_item_act, property_key_act, property_rule}
use Rattle.usda_drafts.specs.Prims.{open_act}
use Rattle.usda_drafts.specs.Refusals.{refused, then_with}
use Rattle.usda_values.specs.Scalars.{finite_time}
use Rattle.usda_drafts.specs.Values.{with_property, aimed_at_key, aimed_at_default, aimed_at_sample, shape_of, completed, is_selections, time_act, time_of_number, in_range}
use Rattle.usda_drafts.specs.declared.aim.Goal.TheVariants as goal
use Rattle.usda_drafts.specs.declared.draft.Draft.{Draft}
use Rattle.value_texts.specs.Cuts.{Said}
use Rattle.value_texts.specs.ValueWords.{words_of_value, name_said, number_said, string_said, comma, equals, dot, open_brace, close_brace, open_paren, close_paren}
use Rattle.value_texts.specs.Readable.{is_read_as}
use Rattle.value_texts.specs.Words.{as_word}
use Rattle.value_texts.proofs.Leaves.{timed_read}
use Rattle.value_texts.proofs.StringTokens.{string_means}
use Rattle.value_texts.specs.Each.{AreAll}
use Rattle.layer_texts.specs.FieldWords.{block_words, meta_words}
use Rattle.layer_texts.specs.PropertyWords.{colon, sample_words}
use Rattle.layer_reads.specs.Fixed.{AreFixed}
use Rattle.layer_reads.specs.Taking.{AreTaken}
use Rattle.layer_reads.proofs.OpenValues.{value_taken}
use Rattle.layer_reads.proofs.Taking.{together, weaker, above}
use Rattle.layer_reads.specs.Items.{Left, AreItems}
use Rattle.layer_reads.specs.Meta.{IsKeyKept, IsMetaKept}
use Rattle.layer_reads.specs.Standing.{Standing}
use Rattle.layer_reads.proofs.EditedLists.{equals_taken}
use Rattle.layer_reads.proofs.Items.{nothing_left, step_left}
use Rattle.layer_reads.proofs.Meta.{meta_items, key_given, value_given}
use Rattle.layer_reads.proofs.Tables.{AllBefore, AllAfter, put_between, after_nothing, first_behind, others, after_more}
use Rattle.layer_reads.proofs.Words.{saying_word, word_taken, word_then, last_word}
use Rattle.layer_reads.specs.Properties.{Marks, InHand, IsValueKept, IsSampleKept, is_any_key}
use Rattle.layer_reads.proofs.Headings.{Back}

module _ (name : List ℕ) (at : Standing) (marks : Marks) where
  abbrev Hand : PropertyDraft → Draft → Type 0
  Hand p = InHand name at marks p

  -- a draft that says more of the property
  hand_with : (p q : PropertyDraft) (d : Draft) → Hand p d → Hand q (with_property d q)
  hand_with p q d h = record { stands = h.stands; hand = refl; shut = h.shut; shallow = h.shallow }

  base_of : (p : PropertyDraft) (d : Draft) → Hand p d → d.owner.said.base ≡ at.owner.said.base
  base_of p d h = ap (λ (s : Standing). s.owner.said.base) h.stands

  -- ---- the default

  pub default_taken : (p : PropertyDraft) (ty : TypeName) (v : Value) (to : List Symbol) (d : Draft) → p.ty ≡ Some ty → p.default ≡ None → IsValueKept at.owner.said.base ty v → Hand p d
      → AreTaken (symbol.MaybeAttributeTail ∷ to) d (equals ∷ words_of_value v) (symbol.MaybePropertyMetadata ∷ to) (Hand (record p { default = Some v }))
  unfolding bodies_act tail_act default_begun aimed_at_default shape_of is_selections completed
  default_taken p ty v to d typed none kept h =
      let back : List Symbol = symbol.MaybePropertyMetadata ∷ to in
      let begun : Draft = aimed_at_default (with_property d p) in
      let next : Draft = with_property (record begun { value = no_value }) (with_default v p) in
      word_then (symbol.MaybeAttributeTail ∷ to) (symbol.Value ∷ back) back symbol.MaybeAttributeTail d begun equals (words_of_value v) (Hand (record p { default = Some v })) h.shut (λ below. refl)
      (λ w.
      ap (λ q. then_with d.name_at (default_act q) (λ q. aimed_at_default (with_property d q))) h.hand
      ∙ ap (λ b. then_with d.name_at (if b then Err DuplicateSpec else Ok p) (λ q. aimed_at_default (with_property d q))) (ap is_some none))
      (above (symbol.Value ∷ []) [] back begun (words_of_value v) (Hand (record p { default = Some v }))
      (weaker (symbol.Value ∷ []) [] begun (words_of_value v) (λ e. e ≡ next) (Hand (record p { default = Some v }))
      (value_taken v begun next h.shut refl kept.membered kept.writable (subst (λ t. is_read_as v (shape_of t) true ≡ true) (sym typed) kept.read) kept.deep (subst (λ b. AreFixed b (words_of_value v)) (sym (base_of p d h)) kept.fixed) (λ at. refl))
      (λ e k. subst (Hand (record p { default = Some v })) (sym k) (record { stands = h.stands; hand = refl; shut = refl; shallow = h.shallow }))))

  -- ---- metadata

  module _ (p : PropertyDraft) where
    abbrev Says : MetaEntries → Draft → Type 0
    Says meta = Hand (record p { meta = meta })

    comment_taken : (t : List ℕ) (d : Draft) → is_utf8 t ≡ true → Says [] d
        → AreTaken (symbol.PropertyMetadata ∷ []) d (string_said (quoted t) ∷ []) (symbol.MaybeSemicolon ∷ symbol.PropertyMetadata ∷ []) (Says ((comment_key, value.Text t) ∷ []))
    unfolding bodies_act property_item_act
    comment_taken t d utf8 h =
        word_taken (symbol.PropertyMetadata ∷ []) (symbol.MaybeSemicolon ∷ symbol.PropertyMetadata ∷ []) symbol.PropertyMetadata d (string_said (quoted t)) (Says ((comment_key, value.Text t) ∷ [])) h.shut (λ below. refl)
        (λ w. (
          with_property d (record p { meta = (comment_key, value.Text t) ∷ [] }),
          hand_with (record p { meta = [] }) (record p { meta = (comment_key, value.Text t) ∷ [] }) d h,
          ap (λ q. then_with w.start (meta_comment_act (quoted t) q) (with_property d)) h.hand
              ∙ ap (λ o. then_with w.start (and_then (and_then (if_utf8 o) put) (λ meta. Ok (with_meta meta (record p { meta = [] })))) (with_property d)) (string_means t utf8),
        ))
      where
        put : List ℕ → Result MetaEntries RefusalKind
        put text = if keys.has_key comment_key [] then Err DuplicateSpec else Ok (with_key text_cmp comment_key (value.Text text) [])

    key_taken : (key : List ℕ) (v : Value) (meta : MetaEntries) (d : Draft) → at_key text_cmp key meta ≡ None → IsKeyKept is_any_key at.owner.said.base key v → Says meta d
        → AreTaken (symbol.PropertyMetadata ∷ []) d (name_said key ∷ equals ∷ words_of_value v) (symbol.MaybeSemicolon ∷ symbol.PropertyMetadata ∷ []) (Says (with_key text_cmp key v meta))
    unfolding bodies_act property_item_act property_key_act property_rule aimed_at_key is_selections completed
    key_taken key v meta d none kept h =
        let back : List Symbol = symbol.MaybeSemicolon ∷ symbol.PropertyMetadata ∷ [] in
        let begun : Draft = aimed_at_key goal.PropertyKey key (key_rule key) d in
        let q : PropertyDraft = record p { meta = with_key text_cmp key v meta } in
        let next : Draft = with_property (record begun { value = no_value }) q in
        word_then (symbol.PropertyMetadata ∷ []) (symbol.Equals ∷ symbol.Value ∷ back) back symbol.PropertyMetadata d begun (name_said key) (equals ∷ words_of_value v) (Says (with_key text_cmp key v meta)) h.shut (λ below. refl)
        (λ w.
        ap (λ q. then_with w.start (meta_key_act key q) (λ rule. aimed_at_key goal.PropertyKey key rule d)) h.hand
        ∙ ap (λ r. then_with w.start r (λ rule. aimed_at_key goal.PropertyKey key rule d)) (key_given key v meta none kept.taken))
        (together (symbol.Equals ∷ symbol.Value ∷ back) (symbol.Value ∷ back) back begun (equals ∷ []) (words_of_value v) (λ e. e ≡ begun) (Says (with_key text_cmp key v meta)) (equals_taken (symbol.Value ∷ back) begun h.shut (λ e. e ≡ begun) refl)
        (λ e same.
        subst (λ e. AreTaken (symbol.Value ∷ back) e (words_of_value v) back (Says (with_key text_cmp key v meta))) (sym same)
        (above (symbol.Value ∷ []) [] back begun (words_of_value v) (Says (with_key text_cmp key v meta))
        (weaker (symbol.Value ∷ []) [] begun (words_of_value v) (λ e. e ≡ next) (Says (with_key text_cmp key v meta))
        (value_taken v begun next h.shut refl kept.membered kept.writable kept.read kept.deep (subst (λ b. AreFixed b (words_of_value v)) (sym (base_of (record p { meta = meta }) d h)) kept.fixed)
        (λ at.
        ap (λ q. then_with at (meta_act key v q) (with_property (record begun { value = no_value }))) h.hand
        ∙ ap (λ r. then_with at (and_then r (λ m. Ok (with_meta m (record p { meta = meta })))) (with_property (record begun { value = no_value }))) (value_given key v meta kept.taken)))
        (λ e k. subst (Says (with_key text_cmp key v meta)) (sym k) (record { stands = h.stands; hand = refl; shut = refl; shallow = h.shallow }))))))

    metadata_items : (meta : MetaEntries) → IsMetaKept is_any_key at.owner.said.base meta → AreItems symbol.PropertyMetadata (meta_words meta) (Says []) (Says meta)
    metadata_items = meta_items symbol.PropertyMetadata is_any_key at.owner.said.base Says comment_taken key_taken

  -- metadata between brackets, by a symbol that opens them
  pub block_taken : (p : PropertyDraft) (s : Symbol) (meta : MetaEntries) (x : Said) (words : List Said) (to : List Symbol) (d : Draft) → meta_words meta ≡ x ∷ words → IsMetaKept is_any_key at.owner.said.base meta
      → ((below : List Symbol) → step (s ∷ below) (as_word open_paren).kind ≡ Some (s, symbol.PropertyMetadata ∷ symbol.CloseParen ∷ below)) → ((w : Word) (d : Draft) → bodies_act s (saying_word open_paren w) d ≡ Ok d) → Hand (record p { meta = [] }) d
      → AreTaken (s ∷ to) d (block_words (x ∷ words)) to (Hand (record p { meta = meta }))
  unfolding bodies_act prims_act layers_act
  block_taken p s meta x words to d is kept opens acts h =
      let items : AreItems symbol.PropertyMetadata (x ∷ words) (Hand (record p { meta = [] })) (Hand (record p { meta = meta })) =
      subst (λ l. AreItems symbol.PropertyMetadata l (Hand (record p { meta = [] })) (Hand (record p { meta = meta }))) is (metadata_items p meta kept) in
      let back : List Symbol = symbol.CloseParen ∷ to in
      let l : Left = items.left nothing_left in
      word_then (s ∷ to) (symbol.PropertyMetadata ∷ back) to s d d open_paren _ (Hand (record p { meta = meta })) h.shut (λ below. opens (to ++ below)) (λ w. acts w d)
      (together (symbol.PropertyMetadata ∷ back) ((l.symbols ++ symbol.PropertyMetadata ∷ []) ++ back) to d (x ∷ words) (close_paren ∷ []) (Hand (record p { meta = meta })) (Hand (record p { meta = meta }))
      (above (symbol.PropertyMetadata ∷ []) (l.symbols ++ symbol.PropertyMetadata ∷ []) back d (x ∷ words) (Hand (record p { meta = meta })) (items.taken nothing_left d h))
      (λ e k.
      last_word ((l.symbols ++ symbol.PropertyMetadata ∷ []) ++ back) to symbol.CloseParen e e close_paren (Hand (record p { meta = meta })) k.shut
      (λ below. step_left l.symbols symbol.PropertyMetadata back below (as_word close_paren).kind l.each refl) (λ w. refl) k))

  -- the same where there is none
  pub no_metadata : (p : PropertyDraft) (meta : MetaEntries) (d : Draft) → meta_words meta ≡ [] → IsMetaKept is_any_key at.owner.said.base meta → Hand (record p { meta = [] }) d → Hand (record p { meta = meta }) d
  no_metadata p meta d is kept h = (metadata_items p meta kept).unsaid is d h

  -- ---- samples

  -- a time is read as the time
  time_read : (t : ℤ) (w : Word) (d : Draft) → unsigned_abs t ≤ 10 ^ 30 → time_act (time_text t) w.start d ≡ Ok (aimed_at_sample t d)
  unfolding time_act time_of_number finite_time
  time_read t w d h =
      let r = timed_read t (let b : nat_le (unsigned_abs t) (10 ^ 30) ≡ true = grind (arith, nat_tests) in b) in
      ap (λ o. then_with w.start (time_of_number o) (λ time. aimed_at_sample time d)) r.3 ∙ ap (λ o. then_with w.start (in_range o) (λ time. aimed_at_sample time d)) r.2

  module _ (p : PropertyDraft) (ty : TypeName) (typed : p.ty ≡ Some ty) where
    abbrev Sampled : SampleEntries → PropertyDraft
    Sampled samples = record p { samples = samples }

    sample_taken : (done : SampleEntries) (s : ℤ × Value) (said : List Said) (to : List Symbol) (After : Draft → Type 0) (d : Draft) → AllBefore int_cmp done s.0 → IsSampleKept at.owner.said.base ty s → Hand (Sampled done) d
        → ((e : Draft) → Hand (Sampled (done ++ s ∷ [])) e → AreTaken (symbol.SamplesOrEnd ∷ to) e said to After) → AreTaken (symbol.SamplesOrEnd ∷ to) d (sample_words s ++ said) to After
    unfolding bodies_act prims_act layers_act sample_act shape_of is_selections completed
    sample_taken done s said to After d before kept h rest =
        let more : List Symbol = symbol.MoreSamples ∷ to in
        let begun : Draft = aimed_at_sample s.0 d in
        let q : PropertyDraft = Sampled (done ++ s ∷ []) in
        let next : Draft = with_property (record begun { value = no_value }) q in
        let v : Value = s.1 in
        subst (λ l. AreTaken (symbol.SamplesOrEnd ∷ to) d (number_said (time_text s.0) ∷ colon ∷ l) to After) (sym (append_assoc (words_of_value v) (comma ∷ []) said))
        (word_then (symbol.SamplesOrEnd ∷ to) (symbol.Colon ∷ symbol.Value ∷ more) to symbol.SamplesOrEnd d begun (number_said (time_text s.0)) (colon ∷ (words_of_value v ++ comma ∷ said)) After h.shut (λ below. refl)
        (λ w. time_read s.0 (saying_word (number_said (time_text s.0)) w) d kept.0)
        (word_then (symbol.Colon ∷ symbol.Value ∷ more) (symbol.Value ∷ more) to symbol.Colon begun begun colon (words_of_value v ++ comma ∷ said) After h.shut (λ below. refl) (λ w. refl)
        (together (symbol.Value ∷ more) more to begun (words_of_value v) (comma ∷ said) (λ e. e ≡ next) After
        (above (symbol.Value ∷ []) [] more begun (words_of_value v) (λ e. e ≡ next)
        (value_taken v begun next h.shut refl kept.1.membered kept.1.writable (subst (λ t. is_read_as v (shape_of t) true ≡ true) (sym (ap (λ (q : PropertyDraft). q.ty) h.hand ∙ typed)) kept.1.read) kept.1.deep
        (subst (λ b. AreFixed b (words_of_value v)) (sym (base_of (Sampled done) d h)) kept.1.fixed)
        (λ at.
        ap (λ q. Ok (with_property (record begun { value = no_value }) (with_sample s.0 v q))) h.hand
        ∙ ap (λ l. Ok (with_property (record begun { value = no_value }) (Sampled l))) (ap (with_key int_cmp s.0 v) (sym (append-nil done)) ∙ put_between int_cmp done [] s.0 v before tt))))
        (λ e same.
        subst (λ e. AreTaken more e (comma ∷ said) to After) (sym same)
        (word_then more (symbol.SamplesOrEnd ∷ to) to symbol.MoreSamples next next comma said After refl (λ below. refl) (λ w. refl)
        (rest next (record { stands = h.stands; hand = refl; shut = refl; shallow = h.shallow })))))))

    samples_taken : (done ss : SampleEntries) (to : List Symbol) (d : Draft) → AllAfter int_cmp done ss → IsTable int_cmp ss → AreAll (IsSampleKept at.owner.said.base ty) ss → Hand (Sampled done) d
        → AreTaken (symbol.SamplesOrEnd ∷ to) d (flat_map sample_words ss ++ close_brace ∷ []) to (Hand (Sampled (done ++ ss)))
    unfolding bodies_act sample_act
    samples_taken done [] to d after sorted kept h =
        last_word (symbol.SamplesOrEnd ∷ to) to symbol.SamplesOrEnd d d close_brace (Hand (Sampled (done ++ []))) h.shut (λ below. refl) (λ w. refl) (subst (λ l. Hand (Sampled l) d) (sym (append-nil done)) h)
    samples_taken done (s ∷ ss) to d after sorted kept h =
        subst (λ l. AreTaken (symbol.SamplesOrEnd ∷ to) d l to (Hand (Sampled (done ++ s ∷ ss)))) (sym (append_assoc (sample_words s) (flat_map sample_words ss) (close_brace ∷ [])))
        (sample_taken done s (flat_map sample_words ss ++ close_brace ∷ []) to (Hand (Sampled (done ++ s ∷ ss))) d after.0 kept.0 h
        (λ e k.
        subst (λ l. AreTaken (symbol.SamplesOrEnd ∷ to) e (flat_map sample_words ss ++ close_brace ∷ []) to (Hand (Sampled l))) (append_assoc done (s ∷ []) ss)
        (samples_taken (done ++ s ∷ []) ss to e (after_more int_cmp int_cmp_total done s ss after.1 (first_behind int_cmp s ss sorted)) (others int_cmp s ss sorted) kept.1 k)))

  -- `.timeSamples`, `=` and the samples between braces, behind the name of an attribute
  pub all_samples_taken : (p : PropertyDraft) (ty : TypeName) (ss : SampleEntries) (d : Draft) → p.ty ≡ Some ty → p.samples ≡ [] → p.marks.sampled ≡ false → IsTable int_cmp ss → AreAll (IsSampleKept at.owner.said.base ty) ss → Hand p d
      → AreTaken (symbol.MaybeAttributeTail ∷ Back) d (dot ∷ name_said (codes "timeSamples") ∷ equals ∷ open_brace ∷ (flat_map sample_words ss ++ close_brace ∷ [])) Back (Hand (record p { samples = ss; marks = record p.marks { sampled = true } }))
  unfolding bodies_act prims_act layers_act tail_act dot_act samples_begun open_act
  all_samples_taken p ty ss d typed none unsampled sorted kept h =
      let q : PropertyDraft = record p { marks = record p.marks { sampled = true } } in
      let begun : Draft = with_property d q in
      let hand : Hand q begun = hand_with p q d h in
      let After : Draft → Type 0 = Hand (record q { samples = ss }) in
      let said : List Said = flat_map sample_words ss ++ close_brace ∷ [] in
      word_then (symbol.MaybeAttributeTail ∷ Back) (symbol.AfterDot ∷ Back) Back symbol.MaybeAttributeTail d d dot (name_said (codes "timeSamples") ∷ equals ∷ open_brace ∷ said) After h.shut (λ below. refl) (λ w. refl)
      (word_then (symbol.AfterDot ∷ Back) (symbol.Equals ∷ symbol.OpenBrace ∷ symbol.SamplesOrEnd ∷ Back) Back symbol.AfterDot d begun (name_said (codes "timeSamples")) (equals ∷ open_brace ∷ said) After h.shut (λ below. refl)
      (λ w.
      ap (λ x. then_with d.name_at (samples_act x) (with_property d)) h.hand
      ∙ ap (λ b. then_with d.name_at (if b then Err DuplicateSpec else Ok q) (with_property d)) unsampled)
      (word_then (symbol.Equals ∷ symbol.OpenBrace ∷ symbol.SamplesOrEnd ∷ Back) (symbol.OpenBrace ∷ symbol.SamplesOrEnd ∷ Back) Back symbol.Equals begun begun equals (open_brace ∷ said) After h.shut (λ below. refl) (λ w. refl)
      (word_then (symbol.OpenBrace ∷ symbol.SamplesOrEnd ∷ Back) (symbol.SamplesOrEnd ∷ Back) Back symbol.OpenBrace begun begun open_brace said After h.shut (λ below. refl)
      (λ w. ap (λ b. if b then Err (refused TooDeep w.start) else Ok begun) h.shallow)
      (samples_taken q ty typed [] ss Back begun (after_nothing int_cmp ss) sorted kept (subst (λ l. Hand (record q { samples = l }) begun) none hand)))))

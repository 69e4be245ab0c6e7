-- The lists of a field, whatever its items are: the explicit one, and one for each edit word.
use Rattle.std.proofs.Common.{◌≡◌, ◌∙◌, ℕ, Bool, true, false, List, [], ◌∷◌, ◌++◌, append-nil, Option, Some, None, Ok, ap, sym, refl, subst}
use Rattle.std.specs.Prelude.{codes}
use Rattle.list_ops.specs.Blank.{no_edits}
use Rattle.list_ops.specs.ListEdits.{firsts}
use Rattle.list_ops.specs.declared.op.ListOp.{ListOp}
use Rattle.sdf_paths.specs.declared.element.Element.{Element}
use Rattle.usda_fields.specs.Fields as fields
use Rattle.usda_fields.specs.declared.field.ListField.{ListField}
use Rattle.usda_fields.specs.declared.owner.OwnerDraft.{OwnerDraft}
use Rattle.usda_grammar.specs.declared.kinds.Keyword.{Keyword}
use Rattle.usda_grammar.specs.declared.kinds.Keyword.TheVariants as keyword
use Rattle.usda_grammar.specs.declared.kinds.WordKind.TheVariants as token
use Rattle.usda_grammar.specs.declared.symbols.Symbol.{Symbol}
use Rattle.usda_grammar.specs.declared.symbols.Symbol.TheVariants as symbol
use Rattle.usda_grammar.specs.Machine.{step}
use Rattle.usda_grammar.specs.Words.{keyword_of}
use Rattle.usda_lists.specs.Acts.{and_then}
use Rattle.usda_lists.specs.Edits.{give, none_given}
use Rattle.usda_lists.specs.Lists.{open_list, with_list}
use Rattle.usda_lists.specs.declared.edit.GivenLists.{GivenLists}
use Rattle.usda_lists.specs.declared.edit.ListEdit.{ListEdit}
use Rattle.usda_lists.specs.declared.edit.ListEdit.TheVariants.{Explicit, Delete, Add, Prepend, Append, Reorder}
use Rattle.usda_lists.specs.declared.offset.OffsetKey.{OffsetKey}
use Rattle.usda_statements.specs.OpenValues.{is_open}
use Rattle.usda_words.specs.Words.{Word}
use Rattle.usda_drafts.specs.Acts.{bodies_act, prims_act, layers_act}
use Rattle.usda_drafts.specs.Metadata.{field_act, in_field, prim_item_act, edit_act}
use Rattle.usda_drafts.specs.Refusals.{then_with}
use Rattle.usda_drafts.specs.Values.{with_said}
use Rattle.usda_drafts.specs.declared.draft.Draft.{Draft}
use Rattle.usda_drafts.specs.declared.draft.OpenList.TheVariants as open_list_of
use Rattle.value_texts.specs.Cuts.{Said}
use Rattle.value_texts.specs.ValueWords.{name_said, equals}
use Rattle.value_texts.specs.Each.{AreAll}
use Rattle.layer_texts.specs.FieldWords.{edit_words, list_words}
use Rattle.layer_texts.specs.ListWords.{word, bracketed_words}
use Rattle.layer_reads.specs.Taking.{AreTaken}
use Rattle.layer_reads.proofs.Taking.{together, weaker, above}
use Rattle.layer_reads.specs.Items.{AreItems}
use Rattle.layer_reads.specs.Kept.{AreKept, IsKeptBy, IsListKept, lists_of}
use Rattle.layer_reads.specs.Standing.{Standing, saying, IsAt}
use Rattle.layer_reads.proofs.EditChain.{word_of, is_edit, marked, edits_items}
use Rattle.layer_reads.proofs.Items.{one_item}
use Rattle.layer_reads.proofs.Words.{saying_word, word_taken}

-- a draft that says more of its owner stands where that is said
pub said_at : (a b : OwnerDraft) (at : Standing) (d : Draft) → IsAt (saying a at) d → IsAt (saying b at) (with_said d b)
said_at a b at d h = record { stands = ap (saying b) h.stands; free = h.free; shut = h.shut; shallow = h.shallow }

pub equals_taken : (to : List Symbol) (d : Draft) → is_open d.value ≡ false → (Is : Draft → Type 0) → Is d → AreTaken (symbol.Equals ∷ to) d (equals ∷ []) to Is
unfolding bodies_act prims_act layers_act
equals_taken to d shut Is is = word_taken (symbol.Equals ∷ to) to symbol.Equals d equals Is shut (λ below. refl) (λ w. (d, is, refl))

-- ---- edit words

pub record IsEditWord (edit : ListEdit) (text : List ℕ) : Type 0 where
  pub starts_it : (below : List Symbol) → step (symbol.PrimMetadata ∷ below) (token.Word (keyword_of text)) ≡ Some (symbol.PrimMetadata, symbol.EditedField ∷ symbol.MaybeSemicolon ∷ symbol.PrimMetadata ∷ below)
  pub acts : (w : Word) (d : Draft) → bodies_act symbol.PrimMetadata (saying_word (name_said text) w) d ≡ Ok (record d { edit = edit; word = text; word_at = w.start })

delete_word : IsEditWord Delete (codes "delete")
unfolding bodies_act prims_act prim_item_act edit_act
delete_word = record { starts_it = λ below. refl; acts = λ w d. refl }

add_word : IsEditWord Add (codes "add")
unfolding bodies_act prims_act prim_item_act edit_act
add_word = record { starts_it = λ below. refl; acts = λ w d. refl }

prepend_word : IsEditWord Prepend (codes "prepend")
unfolding bodies_act prims_act prim_item_act edit_act
prepend_word = record { starts_it = λ below. refl; acts = λ w d. refl }

append_word : IsEditWord Append (codes "append")
unfolding bodies_act prims_act prim_item_act edit_act
append_word = record { starts_it = λ below. refl; acts = λ w d. refl }

reorder_word : IsEditWord Reorder (codes "reorder")
unfolding bodies_act prims_act prim_item_act edit_act
reorder_word = record { starts_it = λ below. refl; acts = λ w d. refl }

-- ---- the lists of a field

-- what is to be known of a field and its items
pub record IsListField {T : Type 0} (kind : Keyword) (lists : Symbol) (name : List ℕ) (field : ListField) (same : T → T → Bool) (g : T → List Said) (W : List Element → T → Type 0)
    (put : ListOp T → GivenLists → OwnerDraft → OwnerDraft) : Type 0 where
  pub is_word : keyword_of name ≡ kind
  pub opens : (edit : ListEdit) (op : ListOp T) (m : GivenLists) (s : OwnerDraft) → fields.field_act field edit (put op m s) ≡ and_then (give edit m) (λ h. Ok (put (open_list edit op) h s))
  pub starts_it : (below : List Symbol) → step (symbol.PrimMetadata ∷ below) (token.Word kind) ≡ Some (symbol.PrimMetadata, symbol.Equals ∷ lists ∷ symbol.MaybeSemicolon ∷ symbol.PrimMetadata ∷ below)
  pub starts_edited : (below : List Symbol) → step (symbol.EditedField ∷ below) (token.Word kind) ≡ Some (symbol.EditedField, symbol.Equals ∷ lists ∷ below)
  pub acts : (w : Word) (d : Draft) → bodies_act symbol.PrimMetadata (record w { kind = token.Word kind; text = name }) d ≡ field_act field Explicit w.start d
  pub acts_edited : (w : Word) (d : Draft) → bodies_act symbol.EditedField (record w { kind = token.Word kind; text = name }) d ≡ field_act field d.edit w.start d
  pub none_step : (below : List Symbol) → step (lists ∷ below) (token.Word keyword.NoneWord) ≡ Some (lists, below)
  pub none_acts : (w : Word) (d : Draft) → bodies_act lists (record w { kind = token.Word keyword.NoneWord }) d ≡ Ok d
  pub items : (edit : ListEdit) (op : ListOp T) (m : GivenLists) (s : OwnerDraft) (d : Draft) → is_open d.value ≡ false → d.list ≡ open_list_of.Field field → d.edit ≡ edit → d.owner.said ≡ put (open_list edit op) m s → (x : T) (xs : List T)
      → AreAll (W s.base) (x ∷ xs)
      → AreTaken (lists ∷ []) d (bracketed_words g (x ∷ xs)) [] (λ e. (k : OffsetKey) × (e ≡ record (with_said d (put (with_list edit (firsts same (x ∷ xs)) op) m s)) { offset_key = k }))

module _ {T : Type 0} (kind : Keyword) (lists : Symbol) (name : List ℕ) (field : ListField) (same : T → T → Bool) (g : T → List Said) (W : List Element → T → Type 0)
    (put : ListOp T → GivenLists → OwnerDraft → OwnerDraft) (f : IsListField kind lists name field same g W put) (s : OwnerDraft) (at : Standing) where
  abbrev Says : ListOp T → GivenLists → Draft → Type 0
  Says op m = IsAt (saying (put op m s) at)

  -- the list of an edit is open
  record Opened (edit : ListEdit) (op : ListOp T) (m : GivenLists) (d : Draft) : Type 0 where
    list : d.list ≡ open_list_of.Field field
    edits : d.edit ≡ edit
    says : Says (open_list edit op) m d

  opened : (edit : ListEdit) (op : ListOp T) (m n : GivenLists) (start : ℕ) (d : Draft) → give edit m ≡ Ok n → Says op m d → (field_act field edit start d ≡ Ok (in_field field edit d (put (open_list edit op) n s)))
      × Opened edit op n (in_field field edit d (put (open_list edit op) n s))
  unfolding field_act
  opened edit op m n start d given h =
      let said : d.owner.said ≡ put op m s = ap (λ (a : Standing). a.owner.said) h.stands in (
        ap (λ u. then_with start (fields.field_act field edit u) (in_field field edit d)) said
            ∙ ap (λ r. then_with start r (in_field field edit d)) (f.opens edit op m s ∙ ap (λ r. and_then r (λ h. Ok (put (open_list edit op) h s))) given),
        record { list = refl; edits = refl; says = record { stands = ap (saying (put (open_list edit op) n s)) h.stands; free = h.free; shut = h.shut; shallow = h.shallow } },
      )

  -- `=` and a list of items, behind the word of the field
  listed : (to : List Symbol) (edit : ListEdit) (op : ListOp T) (m : GivenLists) (d : Draft) (x : T) (xs : List T) → Opened edit op m d → AreKept same (W s.base) (x ∷ xs)
      → AreTaken (symbol.Equals ∷ lists ∷ to) d (equals ∷ bracketed_words g (x ∷ xs)) to (Says (with_list edit (x ∷ xs) op) m)
  listed to edit op m d x xs h kept =
      let After : Draft → Type 0 = Says (with_list edit (x ∷ xs) op) m in
      together (symbol.Equals ∷ lists ∷ to) (lists ∷ to) to d (equals ∷ []) (bracketed_words g (x ∷ xs)) (λ e. e ≡ d) After (equals_taken (lists ∷ to) d h.says.shut (λ e. e ≡ d) refl)
      (λ e same_draft.
      subst (λ e. AreTaken (lists ∷ to) e (bracketed_words g (x ∷ xs)) to After) (sym same_draft)
      (above (lists ∷ []) [] to d (bracketed_words g (x ∷ xs)) After
      (weaker (lists ∷ []) [] d (bracketed_words g (x ∷ xs)) (λ e. (k : OffsetKey) × (e ≡ record (with_said d (put (with_list edit (firsts same (x ∷ xs)) op) m s)) { offset_key = k })) After
      (f.items edit op m s d h.says.shut h.list h.edits (ap (λ (a : Standing). a.owner.said) h.says.stands) x xs kept.each) (λ e k. subst After (sym k.1) (behind k.0)))))
    where
      behind : (k : OffsetKey) → Says (with_list edit (x ∷ xs) op) m (record (with_said d (put (with_list edit (firsts same (x ∷ xs)) op) m s)) { offset_key = k })
      behind k = record {
        stands = ap (saying (put (with_list edit (firsts same (x ∷ xs)) op) m s)) h.says.stands ∙ ap (λ l. saying (put (with_list edit l op) m s) at) kept.once;
        free = h.says.free;
        shut = h.says.shut;
        shallow = h.says.shallow;
      }

  -- the list of an edit
  edit_item : (edit : ListEdit) (text : List ℕ) → IsEditWord edit text → (op : ListOp T) (m : GivenLists) (x : T) (xs : List T) → give edit m ≡ Ok (marked edit true m) → AreKept same (W s.base) (x ∷ xs)
      → AreItems symbol.PrimMetadata (edit_words (word text) (word name) g (x ∷ xs)) (Says op m) (Says (with_list edit (x ∷ xs) op) (marked edit true m))
  edit_item edit text e op m x xs given kept =
      one_item symbol.PrimMetadata (name_said text) (name_said name ∷ equals ∷ bracketed_words g (x ∷ xs)) (Says op m) After refl
      (λ d h.
      together (symbol.PrimMetadata ∷ []) (symbol.EditedField ∷ back) back d (name_said text ∷ []) (name_said name ∷ equals ∷ bracketed_words g (x ∷ xs)) Edits After
      (word_taken (symbol.PrimMetadata ∷ []) (symbol.EditedField ∷ back) symbol.PrimMetadata d (name_said text) Edits h.shut e.starts_it
      (λ w. (record d { edit = edit; word = text; word_at = w.start }, (refl, record { stands = h.stands; free = h.free; shut = h.shut; shallow = h.shallow }), e.acts w d)))
      (λ d h. named d h.0 h.1))
    where
      back : List Symbol
      back = symbol.MaybeSemicolon ∷ symbol.PrimMetadata ∷ []

      Edits : Draft → Type 0
      Edits d = (d.edit ≡ edit) × Says op m d

      After : Draft → Type 0
      After = Says (with_list edit (x ∷ xs) op) (marked edit true m)

      named : (d : Draft) → d.edit ≡ edit → Says op m d → AreTaken (symbol.EditedField ∷ back) d (name_said name ∷ equals ∷ bracketed_words g (x ∷ xs)) back After
      named d at_edit h =
          together (symbol.EditedField ∷ back) (symbol.Equals ∷ lists ∷ back) back d (name_said name ∷ []) (equals ∷ bracketed_words g (x ∷ xs)) (Opened edit op (marked edit true m)) After
          (word_taken (symbol.EditedField ∷ back) (symbol.Equals ∷ lists ∷ back) symbol.EditedField d (name_said name) (Opened edit op (marked edit true m)) h.shut
          (λ below. ap (λ k. step (symbol.EditedField ∷ back ++ below) (token.Word k)) f.is_word ∙ f.starts_edited (back ++ below))
          (λ w.
          let o = opened edit op m (marked edit true m) w.start d given h in (
            in_field field edit d (put (open_list edit op) (marked edit true m) s),
            o.1,
            ap (λ k. bodies_act symbol.EditedField (record (saying_word (name_said name) w) { kind = token.Word k }) d) f.is_word
                ∙ f.acts_edited (saying_word (name_said name) w) d
                ∙ ap (λ t. field_act field t w.start d) at_edit
                ∙ o.0,
          )))
          (λ d o. listed back edit op (marked edit true m) d x xs o kept)

  -- the explicit list
  explicit_items : (xs : List T) → AreKept same (W s.base) xs
      → AreItems symbol.PrimMetadata (list_words (word name) g (record no_edits { explicit = Some xs })) (Says no_edits none_given) (Says (record no_edits { explicit = Some xs }) (record none_given { explicit = true }))
  explicit_items xs kept = by xs kept
    where
      back : List Symbol
      back = symbol.MaybeSemicolon ∷ symbol.PrimMetadata ∷ []

      Open : Draft → Type 0
      Open = Opened Explicit no_edits (record none_given { explicit = true })

      first : (said : List Said) (After : Draft → Type 0) → ((d : Draft) → Open d → AreTaken (symbol.Equals ∷ lists ∷ back) d said back After) → AreItems symbol.PrimMetadata (name_said name ∷ said) (Says no_edits none_given) After
      first said After rest =
          one_item symbol.PrimMetadata (name_said name) said (Says no_edits none_given) After refl
          (λ d h.
          together (symbol.PrimMetadata ∷ []) (symbol.Equals ∷ lists ∷ back) back d (name_said name ∷ []) said Open After
          (word_taken (symbol.PrimMetadata ∷ []) (symbol.Equals ∷ lists ∷ back) symbol.PrimMetadata d (name_said name) Open h.shut
          (λ below. ap (λ k. step (symbol.PrimMetadata ∷ below) (token.Word k)) f.is_word ∙ f.starts_it below)
          (λ w.
          let o = opened Explicit no_edits none_given (record none_given { explicit = true }) w.start d refl h in (
            in_field field Explicit d (put (open_list Explicit no_edits) (record none_given { explicit = true }) s),
            o.1,
            ap (λ k. bodies_act symbol.PrimMetadata (record (saying_word (name_said name) w) { kind = token.Word k }) d) f.is_word ∙ f.acts (saying_word (name_said name) w) d ∙ o.0,
          )))
          rest)

      by : (xs : List T) → AreKept same (W s.base) xs
          → AreItems symbol.PrimMetadata (list_words (word name) g (record no_edits { explicit = Some xs })) (Says no_edits none_given) (Says (record no_edits { explicit = Some xs }) (record none_given { explicit = true }))
      by [] kept =
          let After : Draft → Type 0 = Says (record no_edits { explicit = Some [] }) (record none_given { explicit = true }) in
          first (equals ∷ name_said (codes "None") ∷ []) After
          (λ d h.
          together (symbol.Equals ∷ lists ∷ back) (lists ∷ back) back d (equals ∷ []) (name_said (codes "None") ∷ []) After After (equals_taken (lists ∷ back) d h.says.shut After h.says)
          (λ d h. word_taken (lists ∷ back) back lists d (name_said (codes "None")) After h.shut (λ below. f.none_step (back ++ below)) (λ w. (d, h, f.none_acts (saying_word (name_said (codes "None")) w) d))))
      by (x ∷ xs) kept =
          let After : Draft → Type 0 = Says (record no_edits { explicit = Some (x ∷ xs) }) (record none_given { explicit = true }) in
          first ((equals ∷ bracketed_words g (x ∷ xs)) ++ []) After
          (λ d h. subst (λ l. AreTaken (symbol.Equals ∷ lists ∷ back) d l back After) (sym (append-nil (equals ∷ bracketed_words g (x ∷ xs)))) (listed back Explicit no_edits (record none_given { explicit = true }) d x xs h kept))

  one_list : (edit : ListEdit) → is_edit edit ≡ true → (op : ListOp T) (m : GivenLists) (x : T) (xs : List T) → give edit m ≡ Ok (marked edit true m) → AreKept same (W s.base) (x ∷ xs)
      → AreItems symbol.PrimMetadata (edit_words (word (word_of edit)) (word name) g (x ∷ xs)) (Says op m) (Says (with_list edit (x ∷ xs) op) (marked edit true m))
  one_list Explicit is op m x xs given kept = absurd cc
  one_list Delete is op m x xs given kept = edit_item Delete (codes "delete") delete_word op m x xs given kept
  one_list Add is op m x xs given kept = edit_item Add (codes "add") add_word op m x xs given kept
  one_list Prepend is op m x xs given kept = edit_item Prepend (codes "prepend") prepend_word op m x xs given kept
  one_list Append is op m x xs given kept = edit_item Append (codes "append") append_word op m x xs given kept
  one_list Reorder is op m x xs given kept = edit_item Reorder (codes "reorder") reorder_word op m x xs given kept

  pub list_items : (op : ListOp T) → IsListKept same (W s.base) op → AreItems symbol.PrimMetadata (list_words (word name) g op) (Says no_edits none_given) (Says op (lists_of op))
  list_items op h = by op.explicit h
    where
      Read : ListOp T → Type 0
      Read o = AreItems symbol.PrimMetadata (list_words (word name) g o) (Says no_edits none_given) (Says o (lists_of o))

      by : (o : Option (List T)) → IsKeptBy same (W s.base) o op → Read op
      by None h = subst Read (ap (λ (o : Option (List T)). record op { explicit = o }) (sym h.inexplicit)) (edits_items symbol.PrimMetadata (word name) g same (W s.base) Says one_list op h)
      by (Some xs) h = subst Read (sym h.alone) (explicit_items xs h.items)

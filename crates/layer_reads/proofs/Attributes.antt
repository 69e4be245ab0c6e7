-- Attributes: the first statement, the samples, and the connections.
use Rattle.std.proofs.Common.{◌≡◌, ◌∙◌, ℕ, ◌||◌, Bool, true, false, List, [], ◌∷◌, ◌++◌, append_assoc, append-nil, Option, Some, None, Ok, Err, ap, sym, refl, subst}
use Rattle.std.specs.Prelude.{if◌then◌else◌, codes, ℤ}
use Rattle.std.specs.Ordering.{int_cmp}
use Rattle.std.specs.List.{flat_map}
use Rattle.std.proofs.Math.Bool.{or-false}
use Rattle.list_ops.specs.Blank.{no_edits}
use Rattle.list_ops.specs.declared.op.ListOp.{ListOp}
use Rattle.sdf_paths.specs.Order.{text_cmp}
use Rattle.sdf_paths.specs.declared.element.Element.{Element}
use Rattle.sdf_values.specs.declared.refusal.RefusalKind.TheVariants.{DuplicateSpec}
use Rattle.sdf_values.specs.declared.type_name.TypeName.{TypeName}
use Rattle.sdf_values.specs.declared.value.Value.{Value}
use Rattle.spec_properties.specs.Entries.{MetaEntries, SampleEntries}
use Rattle.spec_properties.specs.Properties.{property_at}
use Rattle.spec_properties.specs.declared.property.Property.{Property}
use Rattle.spec_properties.specs.declared.property.Property.TheVariants.{Attr}
use Rattle.spec_tables.specs.Tables.{IsTable, with_key}
use Rattle.usda_grammar.specs.declared.symbols.Symbol.TheVariants as symbol
use Rattle.usda_lists.specs.Edits.{give, none_given}
use Rattle.usda_lists.specs.Lists.{with_list}
use Rattle.usda_lists.specs.References.{same_path}
use Rattle.usda_lists.specs.declared.edit.GivenLists.{GivenLists}
use Rattle.usda_lists.specs.declared.edit.ListEdit.{ListEdit}
use Rattle.usda_lists.specs.declared.edit.ListEdit.TheVariants.{Explicit}
use Rattle.usda_statements.specs.PropertyDrafts.{no_marks, joined_to, is_named}
use Rattle.usda_statements.specs.declared.heading.Heading.{Heading}
use Rattle.usda_statements.specs.declared.property.PropertyDraft.{PropertyDraft}
use Rattle.usda_statements.specs.declared.property.PropertyMarks.{PropertyMarks}
use Rattle.usda_drafts.specs.Acts.{bodies_act, prims_act, layers_act}
use Rattle.usda_drafts.specs.Bodies.{tail_act}
use Rattle.usda_drafts.specs.declared.draft.Draft.{Draft}
use Rattle.value_texts.specs.Cuts.{Said}
use Rattle.value_texts.specs.ValueWords.{words_of_value, type_said, name_said, equals, dot, open_brace, close_brace}
use Rattle.value_texts.specs.Each.{AreAll}
use Rattle.layer_texts.specs.FieldWords.{block_words, meta_words, edit_words, list_words}
use Rattle.layer_texts.specs.ListWords.{word, path_words, bracketed_words, explicit_words}
use Rattle.layer_texts.specs.PropertyWords.{flag_words, default_words, sample_words, joined_words, samples_words, attribute_words, attributes_words}
use Rattle.layer_reads.specs.Taking.{AreTaken}
use Rattle.layer_reads.proofs.Taking.{taken_nothing, together, weaker}
use Rattle.layer_reads.specs.Items.{Left, AreItems}
use Rattle.layer_reads.specs.Kept.{AreKept, IsKeptBy, IsListKept, has_items, lists_of}
use Rattle.layer_reads.specs.Meta.{IsMetaKept}
use Rattle.layer_reads.specs.Standing.{Standing}
use Rattle.layer_reads.proofs.EditChain.{word_of, is_edit, marked, edits_items}
use Rattle.layer_reads.proofs.Items.{no_items, items_both, semicolon_left}
use Rattle.layer_reads.specs.Bodies.{Rests}
use Rattle.layer_reads.specs.Properties.{Marks, InHand, with_more, IsDefaultKept, IsSampleKept, IsAttributeKept, IsTargetHere, is_any_key}
use Rattle.layer_reads.proofs.Hands.{new_named, more_named, returned, mark_again, same_type_itself}
use Rattle.layer_reads.proofs.Headings.{Back, attribute_begun, attribute_edited}
use Rattle.layer_reads.proofs.Lefts.{tail_left}
use Rattle.layer_reads.proofs.PropertyLists.{connections_taken, edited_connections_taken}
use Rattle.layer_reads.proofs.PropertyValues.{default_taken, block_taken, no_metadata, all_samples_taken}

module _ (name : List ℕ) (ty : TypeName) (custom uniform : Bool) (default : Option Value) (meta : MetaEntries) (at : Standing) (named : is_named name ≡ true) (free : property_at name at.owner.properties ≡ None) where
  -- the attribute with these samples and connections, and what was said of it then
  abbrev Q : SampleEntries → ListOp (List Element) → Property
  Q samples op = Attr name ty custom uniform default samples op meta

  abbrev M : Bool → GivenLists → PropertyMarks
  M sampled lists = record { sampled = sampled; lists = lists }

  abbrev D : ListEdit → SampleEntries → ListOp (List Element) → PropertyMarks → PropertyDraft
  D edit samples op m = record { name = name; edit = edit; ty = Some ty; custom = custom; uniform = uniform; default = default; samples = samples; paths = op; meta = meta; marks = m }

  abbrev Says : SampleEntries → ListOp (List Element) → PropertyMarks → Draft → Type 0
  Says samples op m = Rests (with_more (Q samples op) m at)

  abbrev Later : PropertyMarks → Marks
  Later m = with_key text_cmp name m at.owner.marks

  -- ---- the first statement

  abbrev P0 : Option Value → MetaEntries → PropertyDraft
  P0 v m = record { name = name; edit = Explicit; ty = Some ty; custom = custom; uniform = uniform; default = v; samples = []; paths = no_edits; meta = m; marks = no_marks }

  -- the default and the metadata behind the name
  tail_taken : (v : Option Value) (words : List Said) → meta_words meta ≡ words → IsDefaultKept at.owner.said.base ty v → IsMetaKept is_any_key at.owner.said.base meta → (d : Draft) → InHand name at at.owner.marks (P0 None []) d
      → AreTaken (symbol.MaybeAttributeTail ∷ Back) d (default_words v ++ block_words words) ((tail_left v words).symbols ++ symbol.PrimBody ∷ []) (InHand name at at.owner.marks (P0 v meta))
  unfolding bodies_act prims_act layers_act tail_act
  tail_taken None [] is v m d h =
      taken_nothing (symbol.MaybeAttributeTail ∷ Back) d (InHand name at at.owner.marks (P0 None meta)) (no_metadata name at at.owner.marks (P0 None []) meta d is m h)
  tail_taken None (x ∷ words) is v m d h = block_taken name at at.owner.marks (P0 None []) symbol.MaybeAttributeTail meta x words Back d is m (λ below. refl) (λ w d. refl) h
  tail_taken (Some u) [] is v m d h =
      subst (λ l. AreTaken (symbol.MaybeAttributeTail ∷ Back) d l (symbol.MaybePropertyMetadata ∷ Back) (InHand name at at.owner.marks (P0 (Some u) meta))) (sym (append-nil (equals ∷ words_of_value u)))
      (weaker (symbol.MaybeAttributeTail ∷ Back) (symbol.MaybePropertyMetadata ∷ Back) d (equals ∷ words_of_value u) (InHand name at at.owner.marks (P0 (Some u) [])) (InHand name at at.owner.marks (P0 (Some u) meta))
      (default_taken name at at.owner.marks (P0 None []) ty u Back d refl refl v h) (λ e k. no_metadata name at at.owner.marks (P0 (Some u) []) meta e is m k))
  tail_taken (Some u) (x ∷ words) is v m d h =
      together (symbol.MaybeAttributeTail ∷ Back) (symbol.MaybePropertyMetadata ∷ Back) Back d (equals ∷ words_of_value u) (block_words (x ∷ words)) (InHand name at at.owner.marks (P0 (Some u) [])) (InHand name at at.owner.marks (P0 (Some u) meta))
      (default_taken name at at.owner.marks (P0 None []) ty u Back d refl refl v h)
      (λ e k. block_taken name at at.owner.marks (P0 (Some u) []) symbol.MaybePropertyMetadata meta x words Back e is m (λ below. refl) (λ w d. refl) k)

  first_said : attribute_words ty name custom uniform default meta ≡ flag_words custom (codes "custom") ++ flag_words uniform (codes "uniform") ++ type_said ty ++ name_said name ∷ (default_words default ++ block_words (meta_words meta))
  first_said =
      let flags : List Said = flag_words custom (codes "custom") ++ flag_words uniform (codes "uniform") in
      let n : List Said = name_said name ∷ [] in
      let v : List Said = default_words default in
      let b : List Said = block_words (meta_words meta) in
      ap (λ l. l ++ v ++ b) (sym (append_assoc flags (type_said ty) n)) ∙ ap (λ l. l ++ b) (append_assoc (flags ++ type_said ty) n v) ∙ append_assoc (flags ++ type_said ty) (n ++ v) b

  first_items : IsDefaultKept at.owner.said.base ty default → IsMetaKept is_any_key at.owner.said.base meta → AreItems symbol.PrimBody (attribute_words ty name custom uniform default meta) (Rests at) (Says [] no_edits no_marks)
  first_items v m =
      let said : List Said = default_words default ++ block_words (meta_words meta) in
      let to : Left = tail_left default (meta_words meta) in
      let h : Heading = record { edit = Explicit; custom = custom; uniform = uniform; ty = Some ty } in
      subst (λ l. AreItems symbol.PrimBody l (Rests at) (Says [] no_edits no_marks)) (sym first_said)
      (attribute_begun at name said to (Says [] no_edits no_marks) custom uniform ty
      (λ d headed.
      together (symbol.PropertyName ∷ symbol.MaybeAttributeTail ∷ Back) (symbol.MaybeAttributeTail ∷ Back) (to.symbols ++ symbol.PrimBody ∷ []) d (name_said name ∷ []) said (InHand name at at.owner.marks (P0 None [])) (Says [] no_edits no_marks)
      (new_named name at h (symbol.MaybeAttributeTail ∷ Back) d free headed)
      (λ e k.
      weaker (symbol.MaybeAttributeTail ∷ Back) (to.symbols ++ symbol.PrimBody ∷ []) e said (InHand name at at.owner.marks (P0 default meta)) (Says [] no_edits no_marks) (tail_taken default (meta_words meta) refl v m e k)
      (λ f x. returned name at at.owner.marks (P0 default meta) f refl named free refl x))))

  -- ---- later statements

  -- what a later statement makes of the attribute
  joins : (edit : ListEdit) (samples : SampleEntries) (op : ListOp (List Element)) (m : PropertyMarks) → joined_to (record { edit = edit; custom = false; uniform = false; ty = Some ty }) m (Q samples op) ≡ Ok (D edit samples op m)
  joins edit samples op m =
      ap (λ b. if b then Ok (record (D edit samples op m) { custom = custom || false; uniform = uniform || false }) else Err DuplicateSpec) (same_type_itself ty)
      ∙ ap (λ b. Ok (record (D edit samples op m) { custom = b; uniform = uniform || false })) (or-false custom)
      ∙ ap (λ b. Ok (record (D edit samples op m) { uniform = b })) (or-false uniform)

  -- the attribute goes back to its place
  back : (edit : ListEdit) (samples : SampleEntries) (op : ListOp (List Element)) (m n : PropertyMarks) (d : Draft) → InHand name at (Later m) (D edit samples op n) d → Says samples op n d
  back edit samples op m n d h = returned name at (Later m) (D edit samples op n) d refl named free (mark_again name m n at.owner.marks) h

  samples_items : (ss : SampleEntries) → IsTable int_cmp ss → AreAll (IsSampleKept at.owner.said.base ty) ss → AreItems symbol.PrimBody (samples_words ty name ss) (Says [] no_edits no_marks) (Says ss no_edits (M (has_items ss) none_given))
  samples_items [] sorted kept = no_items symbol.PrimBody (Says [] no_edits no_marks) (Says [] no_edits no_marks) (λ d h. h)
  samples_items (s ∷ ss) sorted kept =
      let said : List Said = dot ∷ name_said (codes "timeSamples") ∷ equals ∷ open_brace ∷ (flat_map sample_words (s ∷ ss) ++ close_brace ∷ []) in
      let before : Standing = with_more (Q [] no_edits) no_marks at in
      let After : Draft → Type 0 = Says (s ∷ ss) no_edits (M true none_given) in
      let h : Heading = record { edit = Explicit; custom = false; uniform = false; ty = Some ty } in
      subst (λ l. AreItems symbol.PrimBody l (Rests before) After) (sym (samples_said s ss))
      (attribute_begun before name said semicolon_left After false false ty
      (λ d headed.
      together (symbol.PropertyName ∷ symbol.MaybeAttributeTail ∷ Back) (symbol.MaybeAttributeTail ∷ Back) Back d (name_said name ∷ []) said (InHand name at (Later no_marks) (D Explicit [] no_edits no_marks)) After
      (more_named (Q [] no_edits) no_marks at h (D Explicit [] no_edits no_marks) (symbol.MaybeAttributeTail ∷ Back) d free (joins Explicit [] no_edits no_marks) headed)
      (λ e k.
      weaker (symbol.MaybeAttributeTail ∷ Back) Back e said (InHand name at (Later no_marks) (D Explicit (s ∷ ss) no_edits (M true none_given))) After
      (all_samples_taken name at (Later no_marks) (D Explicit [] no_edits no_marks) ty (s ∷ ss) e refl refl refl sorted kept k) (back Explicit (s ∷ ss) no_edits no_marks (M true none_given)))))
    where
      samples_said : (s : ℤ × Value) (ss : SampleEntries) → samples_words ty name (s ∷ ss) ≡ type_said ty ++ name_said name ∷ dot ∷ name_said (codes "timeSamples") ∷ equals ∷ open_brace ∷ (flat_map sample_words (s ∷ ss) ++ close_brace ∷ [])
      samples_said s ss =
          let n : List Said = name_said name ∷ dot ∷ name_said (codes "timeSamples") ∷ [] in
          let o : List Said = equals ∷ open_brace ∷ [] in
          let w : List Said = flat_map sample_words (s ∷ ss) in
          ap (λ l. l ++ w ++ close_brace ∷ []) (append_assoc (type_said ty) n o) ∙ ap (λ l. l ++ close_brace ∷ []) (append_assoc (type_said ty) (n ++ o) w) ∙ append_assoc (type_said ty) (n ++ o ++ w) (close_brace ∷ [])

  module _ (ss : SampleEntries) where
    abbrev Lists : ListOp (List Element) → GivenLists → Draft → Type 0
    Lists op m = Says ss op (M (has_items ss) m)

    abbrev Words : List Said → List Said
    Words list = name_said name ∷ dot ∷ name_said (codes "connect") ∷ equals ∷ list

    connect_said : (list : List Said) → joined_words ty name (codes "connect") ++ (equals ∷ []) ++ list ≡ type_said ty ++ Words list
    connect_said list =
        let n : List Said = name_said name ∷ dot ∷ name_said (codes "connect") ∷ [] in
        ap (λ l. l ++ list) (append_assoc (type_said ty) n (equals ∷ [])) ∙ append_assoc (type_said ty) (n ++ equals ∷ []) list

    -- one list by an edit word
    one_list : (edit : ListEdit) → is_edit edit ≡ true → (op : ListOp (List Element)) (m : GivenLists) (x : List Element) (xs : List (List Element)) → give edit m ≡ Ok (marked edit true m)
        → AreKept same_path (IsTargetHere at.owner.said.base) (x ∷ xs)
        → AreItems symbol.PrimBody (edit_words (word (word_of edit)) (joined_words ty name (codes "connect")) path_words (x ∷ xs)) (Lists op m) (Lists (with_list edit (x ∷ xs) op) (marked edit true m))
    one_list edit is op m x xs given kept =
        let list : List Said = bracketed_words path_words (x ∷ xs) in
        let p : PropertyDraft = D edit ss op (M (has_items ss) m) in
        let h : Heading = record { edit = edit; custom = false; uniform = false; ty = Some ty } in
        let before : Standing = with_more (Q ss op) (M (has_items ss) m) at in
        let After : Draft → Type 0 = Lists (with_list edit (x ∷ xs) op) (marked edit true m) in
        subst (λ l. AreItems symbol.PrimBody (name_said (word_of edit) ∷ l) (Rests before) After) (sym (connect_said list))
        (attribute_edited before name (dot ∷ name_said (codes "connect") ∷ equals ∷ list) semicolon_left After edit ty is
        (λ d headed.
        together (symbol.PropertyName ∷ symbol.Dot ∷ symbol.ConnectWord ∷ Back) (symbol.Dot ∷ symbol.ConnectWord ∷ Back) Back d (name_said name ∷ []) (dot ∷ name_said (codes "connect") ∷ equals ∷ list)
        (InHand name at (Later (M (has_items ss) m)) p) After
        (more_named (Q ss op) (M (has_items ss) m) at h p (symbol.Dot ∷ symbol.ConnectWord ∷ Back) d free (joins edit ss op (M (has_items ss) m)) headed)
        (λ e k.
        weaker (symbol.Dot ∷ symbol.ConnectWord ∷ Back) Back e (dot ∷ name_said (codes "connect") ∷ equals ∷ list) (InHand name at (Later (M (has_items ss) m)) (D edit ss (with_list edit (x ∷ xs) op) (M (has_items ss) (marked edit true m)))) After
        (edited_connections_taken name at (Later (M (has_items ss) m)) p (marked edit true m) given (x ∷ xs) e kept k)
        (back edit ss (with_list edit (x ∷ xs) op) (M (has_items ss) m) (M (has_items ss) (marked edit true m))))))

    explicit_list : (xs : List (List Element)) → AreKept same_path (IsTargetHere at.owner.said.base) xs
        → AreItems symbol.PrimBody (list_words (joined_words ty name (codes "connect")) path_words (record no_edits { explicit = Some xs })) (Lists no_edits none_given)
        (Lists (record no_edits { explicit = Some xs }) (record none_given { explicit = true }))
    explicit_list xs kept =
        let list : List Said = explicit_words path_words xs in
        let m : PropertyMarks = M (has_items ss) none_given in
        let n : GivenLists = record none_given { explicit = true } in
        let p : PropertyDraft = D Explicit ss no_edits m in
        let h : Heading = record { edit = Explicit; custom = false; uniform = false; ty = Some ty } in
        let before : Standing = with_more (Q ss no_edits) m at in
        let After : Draft → Type 0 = Lists (record no_edits { explicit = Some xs }) n in
        subst (λ l. AreItems symbol.PrimBody l (Rests before) After) (sym (append-nil (joined_words ty name (codes "connect") ++ (equals ∷ []) ++ list) ∙ connect_said list))
        (attribute_begun before name (dot ∷ name_said (codes "connect") ∷ equals ∷ list) semicolon_left After false false ty
        (λ d headed.
        together (symbol.PropertyName ∷ symbol.MaybeAttributeTail ∷ Back) (symbol.MaybeAttributeTail ∷ Back) Back d (name_said name ∷ []) (dot ∷ name_said (codes "connect") ∷ equals ∷ list) (InHand name at (Later m) p) After
        (more_named (Q ss no_edits) m at h p (symbol.MaybeAttributeTail ∷ Back) d free (joins Explicit ss no_edits m) headed)
        (λ e k.
        weaker (symbol.MaybeAttributeTail ∷ Back) Back e (dot ∷ name_said (codes "connect") ∷ equals ∷ list) (InHand name at (Later m) (D Explicit ss (record no_edits { explicit = Some xs }) (M (has_items ss) n))) After
        (connections_taken name at (Later m) p n refl xs e kept k) (back Explicit ss (record no_edits { explicit = Some xs }) m (M (has_items ss) n)))))

    connections_items : (op : ListOp (List Element)) → IsListKept same_path (IsTargetHere at.owner.said.base) op
        → AreItems symbol.PrimBody (list_words (joined_words ty name (codes "connect")) path_words op) (Lists no_edits none_given) (Lists op (lists_of op))
    connections_items op h = by op.explicit h
      where
        Read : ListOp (List Element) → Type 0
        Read o = AreItems symbol.PrimBody (list_words (joined_words ty name (codes "connect")) path_words o) (Lists no_edits none_given) (Lists o (lists_of o))

        by : (o : Option (List (List Element))) → IsKeptBy same_path (IsTargetHere at.owner.said.base) o op → Read op
        by None h =
            subst Read (ap (λ (o : Option (List (List Element))). record op { explicit = o }) (sym h.inexplicit))
            (edits_items symbol.PrimBody (joined_words ty name (codes "connect")) path_words same_path (IsTargetHere at.owner.said.base) Lists one_list op h)
        by (Some xs) h = subst Read (sym h.alone) (explicit_list xs h.items)

  -- ---- the attribute

  pub attribute_items : (samples : SampleEntries) (op : ListOp (List Element)) → IsAttributeKept at.owner.said.base ty default samples op meta
      → AreItems symbol.PrimBody (attributes_words ty name custom uniform default samples op meta) (Rests at) (Says samples op (M (has_items samples) (lists_of op)))
  attribute_items samples op kept =
      items_both symbol.PrimBody (attribute_words ty name custom uniform default meta ++ samples_words ty name samples) (list_words (joined_words ty name (codes "connect")) path_words op) (Rests at) (Says samples no_edits (M (has_items samples) none_given))
      (Says samples op (M (has_items samples) (lists_of op)))
      (items_both symbol.PrimBody (attribute_words ty name custom uniform default meta) (samples_words ty name samples) (Rests at) (Says [] no_edits no_marks) (Says samples no_edits (M (has_items samples) none_given)) (first_items kept.default kept.meta)
      (samples_items samples kept.times kept.samples)) (connections_items samples op kept.connections)

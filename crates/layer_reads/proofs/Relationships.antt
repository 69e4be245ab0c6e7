-- Relationships: the first statement, and the edits of the targets.
use Rattle.std.proofs.Common.{◌≡◌, ◌∙◌, ℕ, Bool, true, false, List, [], ◌∷◌, ◌++◌, append_assoc, append-nil, Option, Some, None, Ok, ap, sym, refl, subst}
use Rattle.std.specs.Prelude.{codes}
use Rattle.std.specs.Option.{is_some}
use Rattle.std.proofs.Math.Bool.{or-false}
use Rattle.list_ops.specs.Blank.{no_edits}
use Rattle.list_ops.specs.declared.op.ListOp.{ListOp}
use Rattle.sdf_paths.specs.Order.{text_cmp}
use Rattle.sdf_paths.specs.declared.element.Element.{Element}
use Rattle.spec_properties.specs.Entries.{MetaEntries}
use Rattle.spec_properties.specs.Properties.{property_at}
use Rattle.spec_properties.specs.declared.property.Property.{Property}
use Rattle.spec_properties.specs.declared.property.Property.TheVariants.{Attr, Rel}
use Rattle.spec_tables.specs.Tables.{with_key}
use Rattle.usda_grammar.specs.declared.symbols.Symbol.{Symbol}
use Rattle.usda_grammar.specs.declared.symbols.Symbol.TheVariants as symbol
use Rattle.usda_lists.specs.Edits.{give, none_given}
use Rattle.usda_lists.specs.Lists.{with_list}
use Rattle.usda_lists.specs.References.{same_path}
use Rattle.usda_lists.specs.declared.edit.GivenLists.{GivenLists}
use Rattle.usda_lists.specs.declared.edit.ListEdit.{ListEdit}
use Rattle.usda_lists.specs.declared.edit.ListEdit.TheVariants.{Explicit}
use Rattle.usda_statements.specs.PropertyDrafts.{joined_to, is_named}
use Rattle.usda_statements.specs.declared.heading.Heading.{Heading}
use Rattle.usda_statements.specs.declared.property.PropertyDraft.{PropertyDraft}
use Rattle.usda_statements.specs.declared.property.PropertyMarks.{PropertyMarks}
use Rattle.usda_drafts.specs.Acts.{bodies_act, prims_act, layers_act}
use Rattle.usda_drafts.specs.declared.draft.Draft.{Draft}
use Rattle.value_texts.specs.Cuts.{Said}
use Rattle.value_texts.specs.ValueWords.{name_said, equals, open_paren}
use Rattle.layer_texts.specs.FieldWords.{block_words, meta_words, edit_words, edits_words}
use Rattle.layer_texts.specs.ListWords.{word, path_words, bracketed_words, explicit_words}
use Rattle.layer_texts.specs.PropertyWords.{flag_words, named_words, targets_words, relationship_words}
use Rattle.layer_reads.specs.Taking.{AreTaken}
use Rattle.layer_reads.proofs.Taking.{taken_nothing, together, weaker}
use Rattle.layer_reads.specs.Items.{Left, AreItems}
use Rattle.layer_reads.specs.Kept.{AreKept, IsKeptBy, lists_of}
use Rattle.layer_reads.specs.Meta.{IsMetaKept}
use Rattle.layer_reads.specs.Standing.{Standing}
use Rattle.layer_reads.proofs.EditChain.{word_of, is_edit, marked, edits_items}
use Rattle.layer_reads.proofs.Items.{items_both}
use Rattle.layer_reads.proofs.Words.{past}
use Rattle.layer_reads.specs.Bodies.{Rests}
use Rattle.layer_reads.specs.Properties.{Marks, InHand, with_more, IsRelationshipKept, IsPropertyRead, IsTargetHere, is_any_key}
use Rattle.layer_reads.proofs.Attributes.{attribute_items}
use Rattle.layer_reads.proofs.Hands.{new_named, more_named, returned, mark_again}
use Rattle.layer_reads.proofs.Headings.{Back, relationship_begun, relationship_edited}
use Rattle.layer_reads.proofs.Lefts.{metadata_left, targets_left}
use Rattle.layer_reads.proofs.PropertyLists.{targets_taken}
use Rattle.layer_reads.proofs.PropertyValues.{block_taken, no_metadata}

module _ (name : List ℕ) (custom : Bool) (meta : MetaEntries) (at : Standing) (named : is_named name ≡ true) (free : property_at name at.owner.properties ≡ None) where
  -- the relationship with these targets, and what was said of it then
  abbrev Q : ListOp (List Element) → Property
  Q op = Rel name custom op meta

  abbrev M : GivenLists → PropertyMarks
  M lists = record { sampled = false; lists = lists }

  abbrev D : ListEdit → ListOp (List Element) → MetaEntries → GivenLists → PropertyDraft
  D edit op m lists = record { name = name; edit = edit; ty = None; custom = custom; uniform = false; default = None; samples = []; paths = op; meta = m; marks = M lists }

  abbrev Says : ListOp (List Element) → GivenLists → Draft → Type 0
  Says op m = Rests (with_more (Q op) (M m) at)

  abbrev Later : GivenLists → Marks
  Later m = with_key text_cmp name (M m) at.owner.marks

  -- ---- the first statement

  abbrev Hand : ListOp (List Element) → MetaEntries → GivenLists → Draft → Type 0
  Hand op m lists = InHand name at at.owner.marks (D Explicit op m lists)

  abbrev behind_targets : Option (List (List Element)) → List Symbol
  behind_targets None = symbol.MaybeTargets ∷ symbol.MaybePropertyMetadata ∷ Back
  behind_targets (Some xs) = symbol.MaybePropertyMetadata ∷ Back

  -- the metadata behind the targets
  metadata_then : (op : ListOp (List Element)) (lists : GivenLists) (words : List Said) → meta_words meta ≡ words → IsMetaKept is_any_key at.owner.said.base meta → (d : Draft) → Hand op [] lists d
      → (v : Option (List (List Element))) → AreTaken (behind_targets v) d (block_words words) ((targets_left v words).symbols ++ symbol.PrimBody ∷ []) (Hand op meta lists)
  unfolding bodies_act prims_act layers_act
  metadata_then op lists [] is m d h None = taken_nothing (behind_targets None) d (Hand op meta lists) (no_metadata name at at.owner.marks (D Explicit op [] lists) meta d is m h)
  metadata_then op lists [] is m d h (Some xs) = taken_nothing (behind_targets (Some xs)) d (Hand op meta lists) (no_metadata name at at.owner.marks (D Explicit op [] lists) meta d is m h)
  metadata_then op lists (x ∷ words) is m d h None =
      past symbol.MaybeTargets (symbol.MaybePropertyMetadata ∷ Back) Back d open_paren _ (Hand op meta lists) refl refl
      (block_taken name at at.owner.marks (D Explicit op [] lists) symbol.MaybePropertyMetadata meta x words Back d is m (λ below. refl) (λ w d. refl) h)
  metadata_then op lists (x ∷ words) is m d h (Some xs) = block_taken name at at.owner.marks (D Explicit op [] lists) symbol.MaybePropertyMetadata meta x words Back d is m (λ below. refl) (λ w d. refl) h

  -- the targets of the explicit list, where there is one
  abbrev given_op : Option (List (List Element)) → ListOp (List Element)
  given_op v = record no_edits { explicit = v }

  abbrev given_lists : Option (List (List Element)) → GivenLists
  given_lists v = record none_given { explicit = is_some v }

  abbrev IsGiven : Option (List (List Element)) → Type 0
  IsGiven None = Unit {0}
  IsGiven (Some xs) = AreKept same_path (IsTargetHere at.owner.said.base) xs

  tail_taken : (v : Option (List (List Element))) → IsGiven v → IsMetaKept is_any_key at.owner.said.base meta → (d : Draft) → Hand no_edits [] none_given d
      → AreTaken (symbol.MaybeTargets ∷ symbol.MaybePropertyMetadata ∷ Back) d (targets_words v ++ block_words (meta_words meta)) ((targets_left v (meta_words meta)).symbols ++ symbol.PrimBody ∷ []) (Hand (given_op v) meta (given_lists v))
  tail_taken None given m d h = metadata_then no_edits none_given (meta_words meta) refl m d h None
  tail_taken (Some xs) given m d h =
      together (symbol.MaybeTargets ∷ symbol.MaybePropertyMetadata ∷ Back) (symbol.MaybePropertyMetadata ∷ Back) ((targets_left (Some xs) (meta_words meta)).symbols ++ symbol.PrimBody ∷ []) d (equals ∷ explicit_words path_words xs) (block_words (meta_words meta))
      (Hand (given_op (Some xs)) [] (given_lists (Some xs))) (Hand (given_op (Some xs)) meta (given_lists (Some xs)))
      (targets_taken name at at.owner.marks (D Explicit no_edits [] none_given) (given_lists (Some xs)) refl xs (symbol.MaybePropertyMetadata ∷ Back) d given h)
      (λ e k. metadata_then (given_op (Some xs)) (given_lists (Some xs)) (meta_words meta) refl m e k (Some xs))

  abbrev first_words : Option (List (List Element)) → List Said
  first_words v = flag_words custom (codes "custom") ++ named_words name ++ targets_words v ++ block_words (meta_words meta)

  first_items : (v : Option (List (List Element))) → IsGiven v → IsMetaKept is_any_key at.owner.said.base meta → AreItems symbol.PrimBody (first_words v) (Rests at) (Says (given_op v) (given_lists v))
  first_items v given m =
      let said : List Said = targets_words v ++ block_words (meta_words meta) in
      let to : Left = targets_left v (meta_words meta) in
      let h : Heading = record { edit = Explicit; custom = custom; uniform = false; ty = None } in
      let After : Draft → Type 0 = Says (given_op v) (given_lists v) in
      subst (λ l. AreItems symbol.PrimBody l (Rests at) After) (sym (first_said v))
      (relationship_begun at name said to After custom
      (λ d headed.
      together (symbol.PropertyName ∷ symbol.MaybeTargets ∷ symbol.MaybePropertyMetadata ∷ Back) (symbol.MaybeTargets ∷ symbol.MaybePropertyMetadata ∷ Back) (to.symbols ++ symbol.PrimBody ∷ []) d (name_said name ∷ []) said (Hand no_edits [] none_given) After
      (new_named name at h (symbol.MaybeTargets ∷ symbol.MaybePropertyMetadata ∷ Back) d free headed)
      (λ e k.
      weaker (symbol.MaybeTargets ∷ symbol.MaybePropertyMetadata ∷ Back) (to.symbols ++ symbol.PrimBody ∷ []) e said (Hand (given_op v) meta (given_lists v)) After (tail_taken v given m e k)
      (λ f x. returned name at at.owner.marks (D Explicit (given_op v) meta (given_lists v)) f refl named free refl x))))
    where
      first_said : (v : Option (List (List Element))) → first_words v ≡ flag_words custom (codes "custom") ++ name_said (codes "rel") ∷ name_said name ∷ (targets_words v ++ block_words (meta_words meta))
      first_said v =
          let c : List Said = flag_words custom (codes "custom") in
          let n : List Said = named_words name in
          let t : List Said = targets_words v in
          let b : List Said = block_words (meta_words meta) in
          ap (λ l. l ++ b) (append_assoc c n t) ∙ append_assoc c (n ++ t) b

  -- ---- later statements

  joins : (edit : ListEdit) (op : ListOp (List Element)) (lists : GivenLists) → joined_to (record { edit = edit; custom = false; uniform = false; ty = None }) (M lists) (Q op) ≡ Ok (D edit op meta lists)
  joins edit op lists = ap (λ b. Ok (record (D edit op meta lists) { custom = b })) (or-false custom)

  one_list : (edit : ListEdit) → is_edit edit ≡ true → (op : ListOp (List Element)) (m : GivenLists) (x : List Element) (xs : List (List Element)) → give edit m ≡ Ok (marked edit true m)
      → AreKept same_path (IsTargetHere at.owner.said.base) (x ∷ xs) → AreItems symbol.PrimBody (edit_words (word (word_of edit)) (named_words name) path_words (x ∷ xs)) (Says op m) (Says (with_list edit (x ∷ xs) op) (marked edit true m))
  one_list edit is op m x xs given kept =
      let list : List Said = bracketed_words path_words (x ∷ xs) in
      let p : PropertyDraft = D edit op meta m in
      let h : Heading = record { edit = edit; custom = false; uniform = false; ty = None } in
      let before : Standing = with_more (Q op) (M m) at in
      let After : Draft → Type 0 = Says (with_list edit (x ∷ xs) op) (marked edit true m) in
      relationship_edited before name (equals ∷ list) metadata_left After edit is
      (λ d headed.
      together (symbol.PropertyName ∷ symbol.MaybeTargets ∷ symbol.MaybePropertyMetadata ∷ Back) (symbol.MaybeTargets ∷ symbol.MaybePropertyMetadata ∷ Back) (symbol.MaybePropertyMetadata ∷ Back) d (name_said name ∷ []) (equals ∷ list) (InHand name at (Later m) p) After
      (more_named (Q op) (M m) at h p (symbol.MaybeTargets ∷ symbol.MaybePropertyMetadata ∷ Back) d free (joins edit op m) headed)
      (λ e k.
      weaker (symbol.MaybeTargets ∷ symbol.MaybePropertyMetadata ∷ Back) (symbol.MaybePropertyMetadata ∷ Back) e (equals ∷ list) (InHand name at (Later m) (D edit (with_list edit (x ∷ xs) op) meta (marked edit true m))) After
      (targets_taken name at (Later m) p (marked edit true m) given (x ∷ xs) (symbol.MaybePropertyMetadata ∷ Back) e kept k)
      (λ f b. returned name at (Later m) (D edit (with_list edit (x ∷ xs) op) meta (marked edit true m)) f refl named free (mark_again name (M m) (M (marked edit true m)) at.owner.marks) b)))

  -- ---- the relationship

  pub relationship_items : (op : ListOp (List Element)) → IsRelationshipKept at.owner.said.base op meta → AreItems symbol.PrimBody (relationship_words name custom op meta) (Rests at) (Says op (lists_of op))
  relationship_items op kept = by op.explicit kept.targets
    where
      Read : ListOp (List Element) → Type 0
      Read o = AreItems symbol.PrimBody (relationship_words name custom o meta) (Rests at) (Says o (lists_of o))

      by : (o : Option (List (List Element))) → IsKeptBy same_path (IsTargetHere at.owner.said.base) o op → Read op
      by None h =
          subst Read (ap (λ (o : Option (List (List Element))). record op { explicit = o }) (sym h.inexplicit))
          (items_both symbol.PrimBody (first_words None) (edits_words (named_words name) path_words op) (Rests at) (Says no_edits none_given) (Says (record op { explicit = None }) (record (lists_of op) { explicit = false })) (first_items None tt kept.meta)
          (edits_items symbol.PrimBody (named_words name) path_words same_path (IsTargetHere at.owner.said.base) Says one_list op h))
      by (Some xs) h =
          subst Read (sym h.alone)
          (subst (λ l. AreItems symbol.PrimBody l (Rests at) (Says (given_op (Some xs)) (given_lists (Some xs)))) (sym (append-nil (first_words (Some xs)))) (first_items (Some xs) h.items kept.meta))

-- ---- properties

pub property_read : IsPropertyRead
property_read (Attr name ty custom uniform default samples connections meta) at named free kept = attribute_items name ty custom uniform default meta at named free samples connections kept
property_read (Rel name custom targets meta) at named free kept = relationship_items name custom meta at named free targets kept

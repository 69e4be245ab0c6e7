-- Words of lists: of those of fields, of connections and targets, and of sublayers.
use Rattle.std.proofs.Common.{◌≡◌, ◌∙◌, ℕ, suc, ◌≤◌, Bool, true, false, not, ◌||◌, List, Option, Some, None, Result, Ok, Err, sym, refl, subst, arith, ap}
use Rattle.std.specs.Option.{option_map}
use Rattle.sdf_values.specs.declared.refusal.RefusalKind.{RefusalKind}
use Rattle.sdf_values.specs.declared.refusal.RefusalKind.TheVariants.{DuplicateSpec}
use Rattle.spec_parts.specs.declared.items.SubLayer.{SubLayer}
use Rattle.usda_drafts.specs.Bodies.{samples_begun, list_begun, dot_act}
use Rattle.usda_drafts.specs.Lists.{string_act, list_path_act, asset_act, lone_path_act, item_path_act, end_act, in_list_act, in_references_act, sublayer_act, number_act}
use Rattle.usda_drafts.specs.Metadata.{said_act, key_act, in_field, field_act, string_field_act, path_field_act, reference_field_act, edit_act, edited_act, prim_item_act, sublayers_act, head_item_act}
use Rattle.usda_drafts.specs.Refusals.{refused}
use Rattle.usda_drafts.specs.Values.{with_said, with_property}
use Rattle.usda_drafts.specs.declared.draft.Draft.{Draft}
use Rattle.usda_drafts.specs.declared.draft.OpenList.{OpenList}
use Rattle.usda_drafts.specs.declared.draft.OpenList.TheVariants as open_list
use Rattle.usda_fields.specs.Fields as fields
use Rattle.usda_fields.specs.declared.field.ListField.{ListField}
use Rattle.usda_fields.specs.declared.field.ListField.TheVariants.{Paths, References, Texts}
use Rattle.usda_fields.specs.declared.owner.OwnerDraft.{OwnerDraft}
use Rattle.usda_grammar.specs.Table.{starts}
use Rattle.usda_grammar.specs.declared.kinds.Keyword.{Keyword}
use Rattle.usda_grammar.specs.declared.kinds.Keyword.TheVariants as word
use Rattle.usda_grammar.specs.declared.kinds.WordKind.{WordKind}
use Rattle.usda_grammar.specs.declared.kinds.WordKind.TheVariants as token
use Rattle.usda_grammar.specs.declared.symbols.Symbol.{Symbol}
use Rattle.usda_grammar.specs.declared.symbols.Symbol.TheVariants as symbol
use Rattle.usda_lexer.specs.Meanings.{asset_text, path_text}
use Rattle.usda_lists.specs.Lists.{amend_last}
use Rattle.usda_lists.specs.References.{sublayer_of, sublayer_number}
use Rattle.usda_lists.specs.declared.edit.ListEdit.{ListEdit}
use Rattle.usda_lists.specs.declared.edit.ListEdit.TheVariants.{Explicit}
use Rattle.usda_statements.specs.PropertyDrafts.{path_act, list_act, with_list_closed}
use Rattle.usda_statements.specs.declared.property.PropertyDraft.{PropertyDraft}
use Rattle.usda_words.specs.Words.{Word}
use Rattle.fields_read.specs.Laws.{reading}
use Rattle.fields_read.specs.Lists.{IsAtMost}
use Rattle.fields_read.specs.Sound.{IsSaid, IsSoundSaid, HasOpenItems}
use Rattle.fields_read.proofs.FieldActs.{lists_read}
use Rattle.fields_read.proofs.Proper.{sublayers_read}
use Rattle.layer_reads.specs.Keys.{is_plain_key}
use Rattle.layer_texts.specs.Writable.{is_word}
use Rattle.value_returns.specs.Fields.{IsText, IsAssetName, IsProperSublayer}
use Rattle.trees_read.proofs.Fields.{IfMade, if_made}
use Rattle.trees_read.proofs.ListActs.{then_known, then_any}
use Rattle.trees_read.proofs.ListRows.{Part, none, begun, brackets, sublayers, part, is_none, has_item, has_parts}
use Rattle.trees_read.proofs.ListHands.{weaker, nothing}
use Rattle.value_texts.specs.Each.{AreAll}
use Rattle.value_texts.proofs.EachOf.{all_push}
use Rattle.layers_read.proofs.Others.{key_beside, samples_beside, comment_quiet, variants_quiet}
use Rattle.layers_read.proofs.States.{name_for, IsNoted, Rest, Quiet, Held, Busy, quiet_made, rest_said}
use Rattle.layers_read.proofs.Words.{IsKnownAs}

made : (P : OwnerDraft → Type 0) (r : Result OwnerDraft RefusalKind) → ((next : OwnerDraft) → r ≡ Ok next → P next) → IfMade P r
made P (Ok d) h = h d refl
made P (Err k) h = tt

-- ---- how many items there are

more_most : (most : Option ℕ) (n : ℕ) → IsAtMost most n → IsAtMost (option_map suc most) n
more_most None n h = tt
more_most (Some m) n h = omega (arith, h)

more_items : (f : ListField) (edit : ListEdit) (most : Option ℕ) (said : OwnerDraft) → HasOpenItems f edit most said → HasOpenItems f edit (option_map suc most) said
more_items (Paths f) edit most said h = record { there = h.there; each = h.each; few = more_most most _ h.few }
more_items (References f) edit most said h = record { there = h.there; each = h.each; few = more_most most _ h.few }
more_items (Texts f) edit most said h = record { there = h.there; each = h.each; few = more_most most _ h.few }

held_more : (is_name : Keyword → Bool) (most : Option ℕ) (l : OpenList) (edit : ListEdit) (said : OwnerDraft) → Held is_name most l edit said → Held is_name (option_map suc most) l edit said
held_more is_name most (open_list.Field f) edit said h = record { given = h.given; items = more_items f edit most said h.items; closed = h.closed }
held_more is_name most open_list.Property edit said h = h
held_more is_name most open_list.SubLayers edit said h = h

held_less : (is_name : Keyword → Bool) (most : Option ℕ) (l : OpenList) (edit : ListEdit) (said : OwnerDraft) → Held is_name most l edit said → Held is_name None l edit said
held_less is_name most (open_list.Field f) edit said h = (lists_read is_name).bracketed f edit most said h
held_less is_name most open_list.Property edit said h = h
held_less is_name most open_list.SubLayers edit said h = h

held_lone : (is_name : Keyword → Bool) (most : ℕ) (l : OpenList) (edit : ListEdit) (said : OwnerDraft) → most ≤ 1 → Held is_name (Some most) l edit said → IsSaid is_name said
held_lone is_name most (open_list.Field f) edit said few h = (lists_read is_name).lone f edit most said few h
held_lone is_name most open_list.Property edit said few h = h
held_lone is_name most open_list.SubLayers edit said few h = h

module _ (b : Bool) where
  pub rest_property : (d : Draft) (p : PropertyDraft) → Rest b d → Rest b (with_property d p)
  rest_property d p r = record { specs = r.specs; outer = r.outer; typed = r.typed; opening = r.opening; sublayers = r.sublayers; aim = r.aim; word = r.word }

  pub short_quiet : (d : Draft) → Busy b (Some 1) d → Quiet b d
  short_quiet d h = (h.0, held_lone (name_for d.outer) 1 d.list d.edit d.owner.said (omega arith) h.1)

  empty_quiet : (d : Draft) → Busy b (Some 0) d → Quiet b d
  empty_quiet d h = (h.0, held_lone (name_for d.outer) 0 d.list d.edit d.owner.said (omega arith) h.1)

  busy_less : (most : Option ℕ) (d : Draft) → Busy b most d → Busy b None d
  busy_less most d h = (h.0, held_less (name_for d.outer) most d.list d.edit d.owner.said h.1)

  -- the list that is open still is
  record Taken (most : Option ℕ) (l : OpenList) (d n : Draft) : Type 0 where
    pub rest : Rest b n
    pub held : Held (name_for n.outer) most l n.edit n.owner.said
    pub list : n.list ≡ d.list

  busy_of : (most : Option ℕ) (d n : Draft) → Taken most d.list d n → Busy b most n
  busy_of most d n t = (t.rest, subst (λ l. Held (name_for n.outer) most l n.edit n.owner.said) (sym t.list) t.held)

  busy_made : {E : Type 0} (most : Option ℕ) (d : Draft) (r : Result Draft E) → IfMade (Taken most d.list d) r → IfMade (Busy b most) r
  busy_made most d r h = weaker (Taken most d.list d) (Busy b most) r (busy_of most d) h

  said_taken : (most : Option ℕ) (f : ListField) (d : Draft) (at : ℕ) (r : Result OwnerDraft RefusalKind) → Rest b d → IfMade (IsSoundSaid (name_for d.outer) (reading f d.edit most)) r → IfMade (Taken most (open_list.Field f) d) (said_act at r d)
  said_taken most f d at r rest h =
      then_known (IsSoundSaid (name_for d.outer) (reading f d.edit most)) (Taken most (open_list.Field f) d) at r (with_said d) h (λ said s. record { rest = rest_said b d said rest; held = s; list = refl })

  -- a word that adds nothing
  same_taken : (most : Option ℕ) (l : OpenList) (d : Draft) → Rest b d → Held (name_for d.outer) most l d.edit d.owner.said → Taken (option_map suc most) l d d
  same_taken most l d r h = record { rest = r; held = held_more (name_for d.outer) most l d.edit d.owner.said h; list = refl }

  -- ---- an item more

  string_taken : (most : Option ℕ) (l : OpenList) (w : Word) (d : Draft) → Rest b d → Held (name_for d.outer) most l d.edit d.owner.said → IfMade (Taken (option_map suc most) l d) (string_act l w d)
  unfolding string_act
  string_taken most (open_list.Field (Texts field)) w d r h =
      said_taken (option_map suc most) (Texts field) d w.start (fields.text_act field d.edit w.text d.owner.said) r (made _ _ (λ next e. (lists_read (name_for d.outer)).text field d.edit most w.text d.owner.said next h e))
  string_taken most l w d r h = same_taken most l d r h

  path_taken : (most : Option ℕ) (l : OpenList) (w : Word) (d : Draft) → IsText (path_text w.text) → Rest b d → Held (name_for d.outer) most l d.edit d.owner.said → IfMade (Taken (option_map suc most) l d) (list_path_act l w d)
  unfolding list_path_act
  path_taken most (open_list.Field (Paths field)) w d known r h =
      said_taken (option_map suc most) (Paths field) d w.start (fields.path_act field d.edit w.text d.owner.said) r (made _ _ (λ next e. (lists_read (name_for d.outer)).path field d.edit most w.text d.owner.said next h known e))
  path_taken most open_list.Property w d known r h =
      then_any (Taken (option_map suc most) open_list.Property d) w.start (path_act d.owner.said.base w.text d.property) (with_property d) (λ p. record { rest = rest_property d p r; held = h; list = refl })
  path_taken most l w d known r h = same_taken most l d r h

  asset_taken : (most : Option ℕ) (l : OpenList) (w : Word) (d : Draft) → IsAssetName (asset_text w.text) → Rest b d → Held (name_for d.outer) most l d.edit d.owner.said → IfMade (Taken (option_map suc most) l d) (asset_act l w d)
  unfolding asset_act
  asset_taken most (open_list.Field (References field)) w d known r h =
      record { rest = rest_said b d (fields.asset_act field d.edit w.text d.owner.said) r; held = (lists_read (name_for d.outer)).asset field d.edit most w.text d.owner.said h known; list = refl }
  asset_taken most l w d known r h = same_taken most l d r h

  lone_path_taken : (most : Option ℕ) (l : OpenList) (w : Word) (d : Draft) → IsText (path_text w.text) → Rest b d → Held (name_for d.outer) most l d.edit d.owner.said → IfMade (Taken (option_map suc most) l d) (lone_path_act l w d)
  unfolding lone_path_act
  lone_path_taken most (open_list.Field (References field)) w d known r h =
      said_taken (option_map suc most) (References field) d w.start (fields.lone_path_act field d.edit w.text d.owner.said) r (made _ _ (λ next e. (lists_read (name_for d.outer)).lone_path field d.edit most w.text d.owner.said next h known e))
  lone_path_taken most l w d known r h = same_taken most l d r h

  -- ---- the last item changed

  item_path_taken : (most : Option ℕ) (l : OpenList) (w : Word) (d : Draft) → IsText (path_text w.text) → Rest b d → Held (name_for d.outer) most l d.edit d.owner.said → IfMade (Taken most l d) (item_path_act l w d)
  unfolding item_path_act
  item_path_taken most (open_list.Field (References field)) w d known r h =
      said_taken most (References field) d w.start (fields.item_path_act field d.edit w.text d.owner.said) r (made _ _ (λ next e. (lists_read (name_for d.outer)).item_path field d.edit most w.text d.owner.said next h known e))
  item_path_taken most l w d known r h = record { rest = r; held = h; list = refl }

  number_made : (d : Draft) (r : Result (List SubLayer) RefusalKind) → ((next : List SubLayer) → r ≡ Ok next → AreAll IsProperSublayer next) → IfMade (AreAll IsProperSublayer) r
  number_made d (Ok next) h = h next refl
  number_made d (Err k) h = tt

  number_taken : (most : Option ℕ) (l : OpenList) (w : Word) (d : Draft) → Rest b d → Held (name_for d.outer) most l d.edit d.owner.said → IfMade (Taken most l d) (number_act l w d)
  unfolding number_act
  number_taken most (open_list.Field (References field)) w d r h =
      said_taken most (References field) d w.start (fields.item_number_act field d.edit d.offset_key w.text d.owner.said) r
      (made _ _ (λ next e. (lists_read (name_for d.outer)).item_number field d.edit most d.offset_key w.text d.owner.said next h e))
  number_taken most open_list.SubLayers w d r h =
      then_known (AreAll IsProperSublayer) (Taken most open_list.SubLayers d) w.start (amend_last (sublayer_number d.offset_key w.text) d.sublayers) (λ subs. record d { sublayers = subs })
      (number_made d _ (λ next e. sublayers_read.number d.offset_key w.text d.sublayers next r.sublayers e))
      (λ subs s. record { rest = record { specs = r.specs; outer = r.outer; typed = r.typed; opening = r.opening; sublayers = s; aim = r.aim; word = r.word }; held = h; list = refl })
  number_taken most l w d r h = record { rest = r; held = h; list = refl }

  pub item_path_busy : (most : Option ℕ) (w : Word) (d : Draft) → IsText (path_text w.text) → Busy b most d → IfMade (Busy b most) (item_path_act d.list w d)
  item_path_busy most w d known h = busy_made most d (item_path_act d.list w d) (item_path_taken most d.list w d known h.0 h.1)

  pub number_busy : (most : Option ℕ) (w : Word) (d : Draft) → Busy b most d → IfMade (Busy b most) (number_act d.list w d)
  number_busy most w d h = busy_made most d (number_act d.list w d) (number_taken most d.list w d h.0 h.1)

  -- the sublayers are open, and no list of a field
  pub sub_path : (w : Word) (d : Draft) → d.list ≡ open_list.SubLayers → Quiet b d → IfMade (λ n. Quiet b n × (n.list ≡ open_list.SubLayers)) (item_path_act d.list w d)
  unfolding item_path_act
  sub_path w d is q = subst (λ l. IfMade (λ n. Quiet b n × (n.list ≡ open_list.SubLayers)) (item_path_act l w d)) (sym is) (q, is)

  pub sub_number : (w : Word) (d : Draft) → d.list ≡ open_list.SubLayers → Quiet b d → IfMade (λ n. Quiet b n × (n.list ≡ open_list.SubLayers)) (number_act d.list w d)
  sub_number w d is q =
      subst (λ l. IfMade (λ n. Quiet b n × (n.list ≡ open_list.SubLayers)) (number_act l w d)) (sym is)
      (weaker (Taken None open_list.SubLayers d) (λ n. Quiet b n × (n.list ≡ open_list.SubLayers)) (number_act open_list.SubLayers w d) (λ n t. ((t.rest, t.held), t.list ∙ is)) (number_taken None open_list.SubLayers w d q.0 q.1))

  -- ---- the end of a list

  end_quiet : (l : OpenList) (d : Draft) → Rest b d → Held (name_for d.outer) None l d.edit d.owner.said → IfMade (Quiet b) (end_act l d)
  unfolding end_act
  end_quiet (open_list.Field field) d r h = (rest_said b d (fields.close_field field d.edit d.owner.said) r, (lists_read (name_for d.outer)).closed field d.edit None d.owner.said h)
  end_quiet open_list.Property d r h = (rest_property d (with_list_closed d.property) r, h)
  end_quiet open_list.SubLayers d r h = (r, h)

  -- ---- what has been read of a list, by the symbols that are still to come

  abbrev pub State : Part → Bool → Draft → Type 0
  State none item d = Quiet b d × (item ≡ true → Busy b (Some 1) d)
  State begun item d = Busy b (Some 0) d
  State brackets item d = Busy b None d
  State sublayers item d = Quiet b d × (d.list ≡ open_list.SubLayers)

  -- behind the first word of a symbol that leaves these
  abbrev pub Landed : Option (List Symbol) → Draft → Type 0
  Landed None d = Unit {0}
  Landed (Some rest) d = State (part rest) (has_item rest) d

  abbrev Bare : Draft → Type 0
  Bare n = State none false n

  bare : (n : Draft) → Quiet b n → Bare n
  bare n q = (q, λ h. absurd cc)

  quiet_bare : {E : Type 0} (r : Result Draft E) → IfMade (Quiet b) r → IfMade Bare r
  quiet_bare r h = weaker (Quiet b) Bare r bare h

  -- a word between brackets, or alone
  pushed_bare : {E : Type 0} (d : Draft) (r : Result Draft E) → IfMade (Taken (Some 1) d.list d) r → IfMade Bare r
  pushed_bare d r h = weaker (Busy b (Some 1)) Bare r (λ n k. bare n (short_quiet n k)) (busy_made (Some 1) d r h)

  pushed_item : {E : Type 0} (d : Draft) (r : Result Draft E) → IfMade (Taken (Some 1) d.list d) r → IfMade (State none true) r
  pushed_item d r h = weaker (Busy b (Some 1)) (State none true) r (λ n k. (short_quiet n k, λ t. k)) (busy_made (Some 1) d r h)

  pub string_list : (k : WordKind) (w : Word) (d : Draft) → Busy b (Some 0) d → IfMade (Landed (starts symbol.StringList k)) (in_list_act k w d)
  unfolding in_list_act
  string_list token.Quoted w d h = pushed_bare d (string_act d.list w d) (string_taken (Some 0) d.list w d h.0 h.1)
  string_list (token.Word word.NoneWord) w d h = bare d (empty_quiet d h)
  string_list token.OpenBracket w d h = busy_less (Some 0) d h
  string_list token.Path w d h = nothing (list_path_act d.list w d)
  string_list token.CloseBracket w d h = nothing (end_act d.list d)
  string_list k w d h = tt

  pub path_list : (k : WordKind) (w : Word) (d : Draft) → IsKnownAs k w.text → Busy b (Some 0) d → IfMade (Landed (starts symbol.PathList k)) (in_list_act k w d)
  unfolding in_list_act
  path_list token.Path w d known h = pushed_bare d (list_path_act d.list w d) (path_taken (Some 0) d.list w d known h.0 h.1)
  path_list (token.Word word.NoneWord) w d known h = bare d (empty_quiet d h)
  path_list token.OpenBracket w d known h = busy_less (Some 0) d h
  path_list token.Quoted w d known h = nothing (string_act d.list w d)
  path_list token.CloseBracket w d known h = nothing (end_act d.list d)
  path_list k w d known h = tt

  pub reference_list : (k : WordKind) (w : Word) (d : Draft) → IsKnownAs k w.text → Busy b (Some 0) d → IfMade (Landed (starts symbol.ReferenceList k)) (in_references_act k w d)
  unfolding in_references_act
  reference_list token.Asset w d known h = pushed_item d (asset_act d.list w d) (asset_taken (Some 0) d.list w d known h.0 h.1)
  reference_list token.Path w d known h = pushed_item d (lone_path_act d.list w d) (lone_path_taken (Some 0) d.list w d known h.0 h.1)
  reference_list (token.Word word.NoneWord) w d known h = bare d (empty_quiet d h)
  reference_list token.OpenBracket w d known h = busy_less (Some 0) d h
  reference_list token.CloseBracket w d known h = nothing (end_act d.list d)
  reference_list k w d known h = tt

  pub strings_or_end : (k : WordKind) (w : Word) (d : Draft) → Busy b None d → IfMade (Landed (starts symbol.StringsOrEnd k)) (in_list_act k w d)
  unfolding in_list_act
  strings_or_end token.Quoted w d h = busy_made None d (string_act d.list w d) (string_taken None d.list w d h.0 h.1)
  strings_or_end token.CloseBracket w d h = quiet_bare (end_act d.list d) (end_quiet d.list d h.0 h.1)
  strings_or_end token.Path w d h = nothing (list_path_act d.list w d)
  strings_or_end k w d h = tt

  pub more_strings : (k : WordKind) (w : Word) (d : Draft) → Busy b None d → IfMade (Landed (starts symbol.MoreStrings k)) (in_list_act k w d)
  unfolding in_list_act
  more_strings token.Comma w d h = h
  more_strings token.CloseBracket w d h = quiet_bare (end_act d.list d) (end_quiet d.list d h.0 h.1)
  more_strings token.Quoted w d h = nothing (string_act d.list w d)
  more_strings token.Path w d h = nothing (list_path_act d.list w d)
  more_strings k w d h = tt

  pub paths_or_end : (k : WordKind) (w : Word) (d : Draft) → IsKnownAs k w.text → Busy b None d → IfMade (Landed (starts symbol.PathsOrEnd k)) (in_list_act k w d)
  unfolding in_list_act
  paths_or_end token.Path w d known h = busy_made None d (list_path_act d.list w d) (path_taken None d.list w d known h.0 h.1)
  paths_or_end token.CloseBracket w d known h = quiet_bare (end_act d.list d) (end_quiet d.list d h.0 h.1)
  paths_or_end token.Quoted w d known h = nothing (string_act d.list w d)
  paths_or_end k w d known h = tt

  pub more_paths : (k : WordKind) (w : Word) (d : Draft) → Busy b None d → IfMade (Landed (starts symbol.MorePaths k)) (in_list_act k w d)
  unfolding in_list_act
  more_paths token.Comma w d h = h
  more_paths token.CloseBracket w d h = quiet_bare (end_act d.list d) (end_quiet d.list d h.0 h.1)
  more_paths token.Quoted w d h = nothing (string_act d.list w d)
  more_paths token.Path w d h = nothing (list_path_act d.list w d)
  more_paths k w d h = tt

  pub references_or_end : (k : WordKind) (w : Word) (d : Draft) → IsKnownAs k w.text → Busy b None d → IfMade (Landed (starts symbol.ReferencesOrEnd k)) (in_references_act k w d)
  unfolding in_references_act
  references_or_end token.Asset w d known h = busy_made None d (asset_act d.list w d) (asset_taken None d.list w d known h.0 h.1)
  references_or_end token.Path w d known h = busy_made None d (lone_path_act d.list w d) (lone_path_taken None d.list w d known h.0 h.1)
  references_or_end token.CloseBracket w d known h = quiet_bare (end_act d.list d) (end_quiet d.list d h.0 h.1)
  references_or_end k w d known h = tt

  pub more_references : (k : WordKind) (w : Word) (d : Draft) → Busy b None d → IfMade (Landed (starts symbol.MoreReferences k)) (in_references_act k w d)
  unfolding in_references_act
  more_references token.Comma w d h = h
  more_references token.CloseBracket w d h = quiet_bare (end_act d.list d) (end_quiet d.list d h.0 h.1)
  more_references token.Asset w d h = nothing (asset_act d.list w d)
  more_references token.Path w d h = nothing (lone_path_act d.list w d)
  more_references k w d h = tt

  -- ---- a list begins

  -- nothing of a list is left
  abbrev is_bare : Option (List Symbol) → Bool
  is_bare None = true
  is_bare (Some rest) = not (has_parts rest)

  quiet_state : (rest : List Symbol) (n : Draft) → not (has_parts rest) ≡ true → Quiet b n → State (part rest) (has_item rest) n
  quiet_state rest n h q = by (part rest) (has_item rest) h
    where
      by : (p : Part) (i : Bool) → not (not (is_none p) || i) ≡ true → State p i n
      by none false e = bare n q
      by none true e = absurd cc
      by begun i e = absurd cc
      by brackets i e = absurd cc
      by sublayers i e = absurd cc

  landed_quiet : {E : Type 0} (o : Option (List Symbol)) (r : Result Draft E) → is_bare o ≡ true → IfMade (Quiet b) r → IfMade (Landed o) r
  landed_quiet None r h q = nothing r
  landed_quiet (Some rest) r h q = weaker (Quiet b) (Landed (Some rest)) r (λ n g. quiet_state rest n h g) q

  field_busy : (f : ListField) (edit : ListEdit) (at : ℕ) (d : Draft) → Quiet b d → IfMade (Busy b (Some 0)) (field_act f edit at d)
  unfolding field_act
  field_busy f edit at d q =
      then_known (IsSoundSaid (name_for d.outer) (reading f edit (Some 0))) (Busy b (Some 0)) at (fields.field_act f edit d.owner.said) (in_field f edit d) (made _ _ (λ next e. (lists_read (name_for d.outer)).begun f edit d.owner.said next q.1 e))
      (λ said s. (record { specs = q.0.specs; outer = q.0.outer; typed = q.0.typed; opening = q.0.opening; sublayers = q.0.sublayers; aim = q.0.aim; word = q.0.word }, s))

  string_field_busy : (edit : ListEdit) (w : Word) (d : Draft) → Quiet b d → IfMade (Busy b (Some 0)) (string_field_act edit w d)
  unfolding string_field_act
  string_field_busy edit w d q = field_busy (Texts (fields.text_field w.text)) edit w.start d q

  path_field_busy : (edit : ListEdit) (w : Word) (d : Draft) → Quiet b d → IfMade (Busy b (Some 0)) (path_field_act edit w d)
  unfolding path_field_act
  path_field_busy edit w d q = field_busy (Paths (fields.path_field w.text)) edit w.start d q

  reference_field_busy : (edit : ListEdit) (w : Word) (d : Draft) → Quiet b d → IfMade (Busy b (Some 0)) (reference_field_act edit w d)
  unfolding reference_field_act
  reference_field_busy edit w d q = field_busy (References (fields.reference_field w.text)) edit w.start d q

  property_list_busy : (d : Draft) → Quiet b d → IfMade (Busy b (Some 0)) (list_begun d)
  unfolding list_begun
  property_list_busy d q = then_any (Busy b (Some 0)) d.name_at (list_act d.property) (λ p. record (with_property d p) { list = open_list.Property }) (λ p. (record { specs = q.0.specs; outer = q.0.outer; typed = q.0.typed; opening = q.0.opening; sublayers = q.0.sublayers; aim = q.0.aim; word = q.0.word }, q.1))

  key_quiet : (key : List ℕ) (at : ℕ) (d : Draft) → is_word key ≡ true → Quiet b d → IfMade (Quiet b) (key_act key at d)
  key_quiet key at d name q = quiet_made b d (key_act key at d) (key_beside key at d name) q

  edit_quiet : (w : Word) (d : Draft) → IsNoted w.text → Quiet b d → IfMade (Quiet b) (edit_act w d)
  unfolding edit_act
  edit_quiet w d name q = (record { specs = q.0.specs; outer = q.0.outer; typed = q.0.typed; opening = q.0.opening; sublayers = q.0.sublayers; aim = q.0.aim; word = λ n. name }, q.1)

  pub head_items : (k : WordKind) (w : Word) (d : Draft) → IsKnownAs k w.text → Quiet b d → IfMade (Landed (starts symbol.HeadItems k)) (head_item_act k w d)
  unfolding head_item_act sublayers_act
  head_items token.Quoted w d known q = landed_quiet (starts symbol.HeadItems token.Quoted) _ refl (comment_quiet b w d q)
  head_items (token.Word word.SubLayers) w d known q =
      if_made (State sublayers false) d.has_sublayers (Err (refused DuplicateSpec w.start)) (Ok (record d { has_sublayers = true; list = open_list.SubLayers })) tt
      ((record { specs = q.0.specs; outer = q.0.outer; typed = q.0.typed; opening = q.0.opening; sublayers = q.0.sublayers; aim = q.0.aim; word = q.0.word }, q.1), refl)
  head_items (token.Word x) w d known q = landed_quiet (starts symbol.HeadItems (token.Word x)) _ refl (key_quiet w.text w.start d known.0 q)
  head_items k w d known q = nothing (key_act w.text w.start d)

  pub prim_items : (k : WordKind) (w : Word) (d : Draft) → IsKnownAs k w.text → Quiet b d → IfMade (Landed (starts symbol.PrimMetadata k)) (prim_item_act k w d)
  unfolding prim_item_act
  prim_items token.Quoted w d known q = landed_quiet (starts symbol.PrimMetadata token.Quoted) _ refl (comment_quiet b w d q)
  prim_items (token.Word word.Edit) w d known q = landed_quiet (starts symbol.PrimMetadata (token.Word word.Edit)) _ refl (edit_quiet w d (known.0, ap is_plain_key known.1) q)
  prim_items (token.Word word.Reorder) w d known q = landed_quiet (starts symbol.PrimMetadata (token.Word word.Reorder)) _ refl (edit_quiet w d (known.0, ap is_plain_key known.1) q)
  prim_items (token.Word word.Variants) w d known q = landed_quiet (starts symbol.PrimMetadata (token.Word word.Variants)) _ refl (variants_quiet b w d q)
  prim_items (token.Word word.StringField) w d known q = string_field_busy Explicit w d q
  prim_items (token.Word word.PathField) w d known q = path_field_busy Explicit w d q
  prim_items (token.Word word.ReferenceField) w d known q = reference_field_busy Explicit w d q
  prim_items (token.Word x) w d known q = landed_quiet (starts symbol.PrimMetadata (token.Word x)) _ refl (key_quiet w.text w.start d known.0 q)
  prim_items k w d known q = nothing (key_act w.text w.start d)

  pub edited_fields : (k : WordKind) (w : Word) (d : Draft) → b ≡ true → Quiet b d → IfMade (Landed (starts symbol.EditedField k)) (edited_act k w d)
  unfolding edited_act
  edited_fields token.Equals w d noted q = landed_quiet (starts symbol.EditedField token.Equals) _ refl (key_quiet d.word d.word_at d (q.0.word noted).0 q)
  edited_fields (token.Word word.StringField) w d noted q = string_field_busy d.edit w d q
  edited_fields (token.Word word.PathField) w d noted q = path_field_busy d.edit w d q
  edited_fields (token.Word word.ReferenceField) w d noted q = reference_field_busy d.edit w d q
  edited_fields k w d noted q = tt

  pub targets : (k : WordKind) (d : Draft) → Quiet b d → IfMade (Landed (starts symbol.MaybeTargets k)) (list_begun d)
  targets token.Equals d q = property_list_busy d q
  targets k d q = nothing (list_begun d)

  pub after_dot : (k : WordKind) (at : ℕ) (d : Draft) → Quiet b d → IfMade (Landed (starts symbol.AfterDot k)) (dot_act k at d)
  unfolding dot_act
  after_dot (token.Word word.TimeSamples) at d q = landed_quiet (starts symbol.AfterDot (token.Word word.TimeSamples)) _ refl (quiet_made b d (samples_begun d) (samples_beside d) q)
  after_dot (token.Word word.Connect) at d q = property_list_busy d q
  after_dot k at d q = tt

  pub connect_words : (k : WordKind) (at : ℕ) (d : Draft) → Quiet b d → IfMade (Landed (starts symbol.ConnectWord k)) (dot_act k at d)
  unfolding dot_act
  connect_words (token.Word word.TimeSamples) at d q = nothing (samples_begun d)
  connect_words (token.Word word.Connect) at d q = property_list_busy d q
  connect_words k at d q = tt

  -- ---- the sublayers

  pub sublayers_or_end : (k : WordKind) (w : Word) (d : Draft) → IsKnownAs k w.text → Quiet b d → d.list ≡ open_list.SubLayers → IfMade (Landed (starts symbol.SubLayersOrEnd k)) (sublayer_act k w d)
  unfolding sublayer_act
  sublayers_or_end token.Asset w d known q is = ((record { specs = q.0.specs; outer = q.0.outer; typed = q.0.typed; opening = q.0.opening; sublayers = all_push IsProperSublayer d.sublayers (sublayer_of w.text) q.0.sublayers (sublayers_read.asset w.text known); aim = q.0.aim; word = q.0.word }, q.1), is)
  sublayers_or_end token.CloseBracket w d known q is = bare d q
  sublayers_or_end k w d known q is = tt

  pub sub_list : (k : WordKind) (d : Draft) → State sublayers false d → Landed (starts symbol.SubLayerList k) d
  sub_list token.OpenBracket d s = s
  sub_list k d s = tt

  pub sub_more : (k : WordKind) (d : Draft) → State sublayers false d → Landed (starts symbol.MoreSubLayers k) d
  sub_more token.Comma d s = s
  sub_more token.CloseBracket d s = bare d s.0
  sub_more k d s = tt

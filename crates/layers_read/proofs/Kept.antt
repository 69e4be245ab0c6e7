-- Each word of a text keeps what is said sound.
use Rattle.fields_read.specs.Sound.{IsSaid}
use Rattle.std.proofs.Common.{◌≡◌, ◌∙◌, ◌⊎◌, inl, inr, ℕ, ◌+◌, ◌<◌, length, Bool, true, false, List, Option, Some, None, Result, Ok, sym, refl, subst, arith, ap, [], ◌∷◌, ◌++◌}
use Rattle.std.proofs.lemmas.Bool.{false_from_ne_true}
use Rattle.sdf_paths.specs.Paths.{IsPath}
use Rattle.sdf_values.specs.declared.value.Value.{Value}
use Rattle.text_syntax.specs.Open.{IsOfValue, begins_value}
use Rattle.text_syntax.proofs.Tokens.{acted_by}
use Rattle.usda_drafts.specs.Acts.{act, bodies_act, prims_act, layers_act}
use Rattle.usda_drafts.specs.Lists.{item_path_act, number_act, offset_key_act}
use Rattle.usda_drafts.specs.Metadata.{prim_item_act, edit_act}
use Rattle.usda_drafts.specs.Prims.{prim_name_act, set_name_act, variant_name_act}
use Rattle.usda_drafts.specs.Values.{completed, with_property}
use Rattle.usda_drafts.specs.declared.aim.Aim.{Aim}
use Rattle.usda_drafts.specs.declared.aim.Goal.{Goal}
use Rattle.usda_drafts.specs.declared.aim.Goal.TheVariants as goal
use Rattle.usda_drafts.specs.declared.draft.Draft.{Draft}
use Rattle.usda_drafts.specs.declared.draft.OpenList.TheVariants as open_list
use Rattle.usda_fields.specs.Keys.{key_rule, rule_shape}
use Rattle.usda_fields.specs.Owners.{value_act}
use Rattle.usda_fields.specs.Variants.{selections_act}
use Rattle.usda_grammar.specs.Machine.{step}
use Rattle.usda_grammar.specs.Table.{starts}
use Rattle.usda_grammar.specs.declared.kinds.Keyword.TheVariants as word
use Rattle.usda_grammar.specs.declared.kinds.WordKind.{WordKind}
use Rattle.usda_grammar.specs.declared.kinds.WordKind.TheVariants as token
use Rattle.usda_grammar.specs.declared.symbols.Symbol.{Symbol}
use Rattle.usda_grammar.specs.declared.symbols.Symbol.TheVariants as symbol
use Rattle.usda_lists.specs.Offsets.{offset_key}
use Rattle.usda_statements.specs.OpenValues.{is_open, no_value}
use Rattle.usda_statements.specs.PropertyDrafts.{meta_act, with_default, with_sample}
use Rattle.usda_words.specs.Words.{Word}
use Rattle.value_texts.specs.Following.{IsOfToken}
use Rattle.fields_read.specs.Laws.{IsReadFor}
use Rattle.fields_read.proofs.Keys.{keys_read}
use Rattle.fields_read.proofs.Others.{others_read}
use Rattle.values_read.specs.Owners.{ArePlaced}
use Rattle.values_read.specs.Sound.{IsSound}
use Rattle.values_read.specs.Tokens.{IsLexedWord}
use Rattle.values_read.specs.Words.{IsOpenSound, ValueGoesOn}
use Rattle.values_read.proofs.Acts.{words_keep}
use Rattle.values_read.proofs.Placed.{owners_have_paths}
use Rattle.values_read.proofs.Proper.{kept_read}
use Rattle.trees_read.proofs.Fields.{IfMade}
use Rattle.trees_read.specs.Drafts.{IsNested, Follows as TreeFollows}
use Rattle.trees_read.specs.Stacks.{ends, names, is_opening, is_of_statement}
use Rattle.trees_read.proofs.Stacks.{opened_by}
use Rattle.trees_read.proofs.Texts.{read_trees, none_left}
use Rattle.properties_read.specs.Aims.{awaits_value, IsAiming}
use Rattle.properties_read.proofs.Aiming.{Aimed, found, steps_aimed}
use Rattle.properties_read.proofs.Aimed.{token_aimed}
use Rattle.properties_read.proofs.WordsAimed.{word_aimed}
use Rattle.trees_read.proofs.Kept.{made_of, value_symbol}
use Rattle.trees_read.proofs.ListActs.{then_any}
use Rattle.trees_read.proofs.ListRows.{Part, none, begun, brackets, sublayers, part_of, part, is_none, is_of_item, has_item, is_light, are_on_top, begins_list}
use Rattle.trees_read.proofs.ListStacks.{NoParts, Listed, listed, is_the_none}
use Rattle.trees_read.proofs.Prims.{placed_made}
use Rattle.trees_read.proofs.ListHands.{weaker}
use Rattle.layers_read.proofs.Rows.{is_edited, has_edited, is_edit, is_noted}
use Rattle.usda_grammar.specs.Words.{keyword_of}
use Rattle.usda_grammar.specs.declared.kinds.Keyword.{Keyword}
use Rattle.usda_drafts.specs.declared.owner.Owner.{Owner}
use Rattle.layer_reads.specs.Keys.{is_plain_key}
use Rattle.layers_read.proofs.Fits.{Fits, Fitted, fitted}
use Rattle.layers_read.proofs.KeyAims.{IsAimedAt, IsAimed, aimed_again, IsAt, IsKnownAt, expects, keys}
use Rattle.layers_read.proofs.States.{name_for, IsInside, IsNoted, IsAimedFor, Rest, Quiet, Busy, Same, quiet_beside, quiet_made, busy_same, rest_said}
use Rattle.layers_read.proofs.Words.{IsKnownAs, known}
use Rattle.layers_read.proofs.Others.{IfPlaced, set_beside, said_quiet, said_made, root_order_quiet, order_name_quiet, after_reorder_quiet, body_quiet, after_custom_quiet, after_variability_quiet, after_edit_quiet, brackets_quiet, name_quiet, tail_quiet, sample_quiet, property_item_quiet, root_quiet, open_quiet, type_quiet, prim_quiet, variant_quiet, end_quiet}
use Rattle.layers_read.proofs.Hands.{rest_property, short_quiet, item_path_busy, number_busy, sub_path, sub_number, State, Landed, string_list, path_list, reference_list, strings_or_end, more_strings, paths_or_end, more_paths, references_or_end, more_references, head_items, prim_items, edited_fields, targets, after_dot, connect_words, sublayers_or_end, sub_list, sub_more}
use Rattle.layers_read.proofs.Stacks.{Took, took, edited_after, path_known, type_known, value_bare, no_parts}
use Rattle.layers_read.proofs.Properties.{begun_awaited, name_known}

-- ---- values

read_for : (is_name : Keyword → Bool) (a : Aim) (v : Value) → IsAimedFor goal.OwnerKey a → is_name (keyword_of a.key) ≡ true → IsSound 0 a.shape true v → IsReadFor is_name a.key v
read_for is_name a v aim name is =
    let sound : IsSound 0 (rule_shape (key_rule a.key)) true v = subst (λ x. IsSound 0 x true v) aim.0 is in
    record { word = aim.1; name = name; read = kept_read (key_rule a.key) v sound.kept; writable = sound.writable; deep = (let e = sound.deep in omega (arith, e)); full = sound.full; utf8 = sound.utf8 }

module _ (b : Bool) where
  completed_quiet : (g : Goal) (v : Value) (at : ℕ) (d : Draft) → IsAimedFor g d.aim → IsAimedAt g d → IsSound 0 d.aim.shape true v → Quiet b d → IfMade (Quiet b) (completed g v at d)
  unfolding completed
  completed_quiet goal.Nothing v at d aim name is q = q
  completed_quiet goal.OwnerKey v at d aim name is q = said_quiet b at (value_act d.aim.key v d.owner.said) d q (said_made b (IsSaid (name_for d.outer)) d.owner.said _ (λ next e. (keys_read (name_for d.outer)).value d.aim.key v d.owner.said next q.1 (read_for (name_for d.outer) d.aim v aim name is) e))
  completed_quiet goal.Variants v at d aim name is q = (rest_said b d (selections_act v d.owner.said) q.0, (others_read (name_for d.outer)).selections v d.owner.said q.1 is.writable)
  completed_quiet goal.PropertyKey v at d aim name is q = then_any (Quiet b) at (meta_act d.aim.key v d.property) (with_property d) (λ p. (rest_property b d p q.0, q.1))
  completed_quiet goal.Default v at d aim name is q = (rest_property b d (with_default v d.property) q.0, q.1)
  completed_quiet goal.Sample v at d aim name is q = (rest_property b d (with_sample d.aim.time v d.property) q.0, q.1)

  value_quiet : (w : Word) (d next : Draft) → IsAimed d → ValueGoesOn d w next → Quiet b d → Quiet b next
  value_quiet w d next name (ValueGoesOn.still_open v e is same) q =
      subst (Quiet b) (sym same) (quiet_beside b d (record d { value = v }) (record { specs = refl; outer = refl; said = refl; type_name = refl; opening = λ h. h; sublayers = refl; aim = λ a. a; word = refl }) q)
  value_quiet w d next name (ValueGoesOn.complete v is h) q =
      let e : Draft = record d { value = no_value } in
      made_of (Quiet b) (completed d.aim.goal v w.start e) next h
      (completed_quiet d.aim.goal v w.start e q.0.aim (aimed_again d.aim.goal d no_value name) is (quiet_beside b d e (record { specs = refl; outer = refl; said = refl; type_name = refl; opening = λ h. h; sublayers = refl; aim = λ a. a; word = refl }) q))

  -- ---- states

  same_state : (p : Part) (item : Bool) (d next : Draft) → Same d next → State b p item d → State b p item next
  same_state none item d next h s = (quiet_beside b d next h.0 s.0, λ t. busy_same b (Some 1) d next h (s.1 t))
  same_state begun item d next h s = busy_same b (Some 0) d next h s
  same_state brackets item d next h s = busy_same b None d next h s
  same_state sublayers item d next h s = (quiet_beside b d next h.0 s.0, h.1 ∙ s.1)

  fewer_items : (p : Part) (x y : Bool) (d : Draft) → (y ≡ true → x ≡ true) → State b p x d → State b p y d
  fewer_items none x y d h s = (s.0, λ t. s.1 (h t))
  fewer_items begun x y d h s = s
  fewer_items brackets x y d h s = s
  fewer_items sublayers x y d h s = s

  light_state : (stack after : List Symbol) (next : Draft) → (part after ≡ part stack) × (has_item after ≡ true → has_item stack ≡ true) → State b (part stack) (has_item stack) next → State b (part after) (has_item after) next
  light_state stack after next h s = subst (λ p. State b p (has_item after) next) (sym h.0) (fewer_items (part stack) (has_item stack) (has_item after) next h.1 s)

  bare_state : (after : List Symbol) (next : Draft) → part after ≡ none → has_item after ≡ false → Quiet b next → State b (part after) (has_item after) next
  bare_state after next p item q = subst (λ x. State b x (has_item after) next) (sym p) (subst (λ x. State b none x next) (sym item) (q, λ h. absurd cc))

  rest_of : (p : Part) (item : Bool) (d : Draft) → State b p item d → Rest b d
  rest_of none item d s = s.0.0
  rest_of begun item d s = s.0
  rest_of brackets item d s = s.0
  rest_of sublayers item d s = s.0.0

  pub quiet_of : (p : Part) → p ≡ none → (item : Bool) (d : Draft) → State b p item d → Quiet b d
  quiet_of p is item d s = (subst (λ x. State b x item d) is s).0

  -- ---- light symbols

  amended : {E : Type 0} (p : Part) (item : Bool) (d : Draft) (r : Result Draft E) → item ≡ true → (d.list ≡ open_list.SubLayers → Quiet b d → IfMade (λ n. Quiet b n × (n.list ≡ open_list.SubLayers)) r)
      → ((most : Option ℕ) → Busy b most d → IfMade (Busy b most) r) → State b p item d → IfMade (State b p item) r
  amended none item d r is sub busy s = weaker (Busy b (Some 1)) (State b none item) r (λ n h. (short_quiet b n h, λ t. h)) (busy (Some 1) (s.1 is))
  amended begun item d r is sub busy s = busy (Some 0) s
  amended brackets item d r is sub busy s = busy None s
  amended sublayers item d r is sub busy s = sub s.1 s.0

  light_kept : (s : Symbol) (w : Word) (p : Part) (item : Bool) (d : Draft) (rest : List Symbol) → is_light s ≡ true → starts s w.kind ≡ Some rest → IsKnownAs w.kind w.text → (is_of_item s ≡ true → item ≡ true) → State b p item d
      → IfMade (State b p item) (bodies_act s w d)
  unfolding bodies_act prims_act layers_act offset_key_act
  light_kept symbol.MaybePath w p item d rest light taken is of s =
      amended p item d (item_path_act d.list w d) (of refl) (λ open_sub q. sub_path b w d open_sub q) (λ most h. item_path_busy b most w d (path_known w.kind w.text rest taken is) h) s
  light_kept symbol.OffsetNumber w p item d rest light taken is of s = amended p item d (number_act d.list w d) (of refl) (λ open_sub q. sub_number b w d open_sub q) (λ most h. number_busy b most w d h) s
  light_kept symbol.OffsetItems w p item d rest light taken is of s =
      then_any (State b p item) w.start (offset_key w.text) (λ k. record d { offset_key = k }) (λ k. same_state p item d (record d { offset_key = k }) (record { specs = refl; outer = refl; said = refl; type_name = refl; opening = λ h. h; sublayers = refl; aim = λ a. a; word = refl }, refl, refl) s)
  light_kept symbol.MaybeOffsets w p item d rest light taken is of s = s
  light_kept symbol.Equals w p item d rest light taken is of s = s
  light_kept symbol.CloseParen w p item d rest light taken is of s = s
  light_kept symbol.MaybeSemicolon w p item d rest light taken is of s = s
  light_kept _ w p item d rest light taken is of s = absurd cc

  -- ---- symbols that begin a list or go on with one

  begun_landed : (s : Symbol) (w : Word) (d : Draft) → begins_list s ≡ true → IsKnownAs w.kind w.text → (is_edited s ≡ true → b ≡ true) → Quiet b d → IfMade (Landed b (starts s w.kind)) (bodies_act s w d)
  unfolding bodies_act prims_act layers_act
  begun_landed symbol.HeadItems w d begins is noted q = head_items b w.kind w d is q
  begun_landed symbol.PrimMetadata w d begins is noted q = prim_items b w.kind w d is q
  begun_landed symbol.EditedField w d begins is noted q = edited_fields b w.kind w d (noted refl) q
  begun_landed symbol.MaybeTargets w d begins is noted q = targets b w.kind d q
  begun_landed symbol.AfterDot w d begins is noted q = after_dot b w.kind w.start d q
  begun_landed symbol.ConnectWord w d begins is noted q = connect_words b w.kind w.start d q
  begun_landed _ w d begins is noted q = absurd cc

  list_landed : (s : Symbol) (w : Word) (item : Bool) (d : Draft) → is_none (part_of s) ≡ false → IsKnownAs w.kind w.text → State b (part_of s) item d → IfMade (Landed b (starts s w.kind)) (bodies_act s w d)
  unfolding bodies_act prims_act layers_act
  list_landed symbol.StringList w item d of is s = string_list b w.kind w d s
  list_landed symbol.PathList w item d of is s = path_list b w.kind w d is s
  list_landed symbol.ReferenceList w item d of is s = reference_list b w.kind w d is s
  list_landed symbol.StringsOrEnd w item d of is s = strings_or_end b w.kind w d s
  list_landed symbol.MoreStrings w item d of is s = more_strings b w.kind w d s
  list_landed symbol.PathsOrEnd w item d of is s = paths_or_end b w.kind w d is s
  list_landed symbol.MorePaths w item d of is s = more_paths b w.kind w d s
  list_landed symbol.ReferencesOrEnd w item d of is s = references_or_end b w.kind w d is s
  list_landed symbol.MoreReferences w item d of is s = more_references b w.kind w d s
  list_landed symbol.SubLayerList w item d of is s = sub_list b w.kind d s
  list_landed symbol.SubLayersOrEnd w item d of is s = sublayers_or_end b w.kind w d is s.0 s.1
  list_landed symbol.MoreSubLayers w item d of is s = sub_more b w.kind d s
  list_landed _ w item d of is s = absurd cc

  -- ---- all other symbols

  so : {E : Type 0} (r : Result Draft E) → IfMade (Quiet b) r → IfMade (IfPlaced b) r
  so r h = weaker (Quiet b) (IfPlaced b) r (λ n q path. q) h

  layers_quiet : (s : Symbol) (w : Word) (d : Draft) → is_light s ≡ false → begins_list s ≡ false → is_none (part_of s) ≡ true → Quiet b d → IfMade (IfPlaced b) (layers_act s w d)
  unfolding layers_act
  layers_quiet symbol.HeadItems w d l g p q = absurd cc
  layers_quiet symbol.SubLayersOrEnd w d l g p q = absurd cc
  layers_quiet symbol.OffsetItems w d l g p q = absurd cc
  layers_quiet symbol.OffsetNumber w d l g p q = absurd cc
  layers_quiet symbol.RootStatements w d l g p q = so _ (root_quiet b w.kind w d q)
  layers_quiet symbol.RootPrims w d l g p q = so _ (root_order_quiet b w d q)
  layers_quiet symbol.OpenBrace w d l g p q = so _ (open_quiet b w.start d q)
  layers_quiet symbol.BodyEnd w d l g p q = so _ (end_quiet b d q)
  layers_quiet symbol.PrimName w d l g p q = placed_made (IfPlaced b) w.start (prim_name_act w.text d) (prim_quiet b w.text d q)
  layers_quiet symbol.SetName w d l g p q = so _ (placed_made (Quiet b) w.start (set_name_act w.text d) (quiet_made b d (set_name_act w.text d) (set_beside w.text d) q))
  layers_quiet s w d l g p q = λ path. q

  prims_quiet : (s : Symbol) (w : Word) (d : Draft) (rest : List Symbol) → is_light s ≡ false → begins_list s ≡ false → is_none (part_of s) ≡ true → starts s w.kind ≡ Some rest → IsKnownAs w.kind w.text → Quiet b d → IfMade (IfPlaced b) (prims_act s w d)
  unfolding prims_act
  prims_quiet symbol.MaybeTypeName w d rest l g p taken is q = so _ (type_quiet b w.text d (type_known w.kind w.text rest taken is) q)
  prims_quiet symbol.MaybePrimMetadata w d rest l g p taken is q = so _ (open_quiet b w.start d q)
  prims_quiet symbol.PrimMetadata w d rest l g p taken is q = absurd cc
  prims_quiet symbol.EditedField w d rest l g p taken is q = absurd cc
  prims_quiet symbol.StringList w d rest l g p taken is q = absurd cc
  prims_quiet symbol.StringsOrEnd w d rest l g p taken is q = absurd cc
  prims_quiet symbol.MoreStrings w d rest l g p taken is q = absurd cc
  prims_quiet symbol.PathList w d rest l g p taken is q = absurd cc
  prims_quiet symbol.PathsOrEnd w d rest l g p taken is q = absurd cc
  prims_quiet symbol.MorePaths w d rest l g p taken is q = absurd cc
  prims_quiet symbol.ReferenceList w d rest l g p taken is q = absurd cc
  prims_quiet symbol.ReferencesOrEnd w d rest l g p taken is q = absurd cc
  prims_quiet symbol.MoreReferences w d rest l g p taken is q = absurd cc
  prims_quiet symbol.MaybePath w d rest l g p taken is q = absurd cc
  prims_quiet symbol.VariantList w d rest l g p taken is q = placed_made (IfPlaced b) w.start (variant_name_act w.text d) (variant_quiet b w.text d q)
  prims_quiet s w d rest l g p taken is q = layers_quiet s w d l g p q

  bodies_quiet : (s : Symbol) (w : Word) (d : Draft) (rest : List Symbol) → is_light s ≡ false → begins_list s ≡ false → is_none (part_of s) ≡ true → begins_value s ≡ false → starts s w.kind ≡ Some rest → IsKnownAs w.kind w.text → Quiet b d
      → IfMade (IfPlaced b) (bodies_act s w d)
  unfolding bodies_act
  bodies_quiet symbol.PrimBody w d rest l g p v taken is q = so _ (body_quiet b w d q)
  bodies_quiet symbol.AfterCustom w d rest l g p v taken is q = so _ (after_custom_quiet b w d q)
  bodies_quiet symbol.AfterVariability w d rest l g p v taken is q = so _ (after_variability_quiet b w d q)
  bodies_quiet symbol.AfterEdit w d rest l g p v taken is q = so _ (after_edit_quiet b w d q)
  bodies_quiet symbol.AfterReorder w d rest l g p v taken is q = so _ (after_reorder_quiet b w.kind w d q)
  bodies_quiet symbol.AfterEditedCustom w d rest l g p v taken is q = so _ (after_custom_quiet b w d q)
  bodies_quiet symbol.AfterEditedVariability w d rest l g p v taken is q = so _ (after_variability_quiet b w d q)
  bodies_quiet symbol.MaybeBrackets w d rest l g p v taken is q = so _ (brackets_quiet b d q)
  bodies_quiet symbol.PropertyName w d rest l g p v taken is q = so _ (name_quiet b w d q)
  bodies_quiet symbol.MaybeAttributeTail w d rest l g p v taken is q = so _ (tail_quiet b w.kind d q)
  bodies_quiet symbol.AfterDot w d rest l g p v taken is q = absurd cc
  bodies_quiet symbol.ConnectWord w d rest l g p v taken is q = absurd cc
  bodies_quiet symbol.SamplesOrEnd w d rest l g p v taken is q = so _ (sample_quiet b w.kind w d q)
  bodies_quiet symbol.MaybeTargets w d rest l g p v taken is q = absurd cc
  bodies_quiet symbol.PropertyMetadata w d rest l g p v taken is q = so _ (property_item_quiet b w.kind w d q)
  bodies_quiet symbol.Value w d rest l g p v taken is q = absurd cc
  bodies_quiet symbol.Dictionary w d rest l g p v taken is q = absurd cc
  bodies_quiet symbol.NamesOrEnd w d rest l g p v taken is q = so _ (order_name_quiet b w.kind w d q)
  bodies_quiet s w d rest l g p v taken is q = prims_quiet s w d rest l g p taken is q

  -- ---- a word

  landed_state : (k : WordKind) (s : Symbol) (rest after : List Symbol) (next : Draft) → starts s k ≡ Some rest → part after ≡ part rest → has_item after ≡ has_item rest → Landed b (starts s k) next → State b (part after) (has_item after) next
  landed_state k s rest after next is p item h =
      subst (λ x. State b x (has_item after) next) (sym p) (subst (λ x. State b (part rest) x next) (sym item) (subst (λ (o : Option (List Symbol)). Landed b o next) is h))

-- ---- edit words

rest_again : (b c : Bool) (d : Draft) → (c ≡ true → IsNoted d.word) → Rest b d → Rest c d
rest_again b c d h r = record { specs = r.specs; outer = r.outer; typed = r.typed; opening = r.opening; sublayers = r.sublayers; aim = r.aim; word = h }

restate : (b c : Bool) (p : Part) (item : Bool) (d : Draft) → (c ≡ true → IsNoted d.word) → State b p item d → State c p item d
restate b c none item d h s = ((rest_again b c d h s.0.0, s.0.1), λ t. (rest_again b c d h (s.1 t).0, (s.1 t).1))
restate b c begun item d h s = (rest_again b c d h s.0, s.1)
restate b c brackets item d h s = (rest_again b c d h s.0, s.1)
restate b c sublayers item d h s = ((rest_again b c d h s.0.0, s.0.1), s.1)

noted_item : (k : WordKind) (w : Word) (d : Draft) → is_edit k ≡ true → IsKnownAs k w.text → IfMade (λ n. IsNoted n.word) (prim_item_act k w d)
unfolding prim_item_act edit_act
noted_item (token.Word word.Edit) w d h is = (is.0, ap is_plain_key is.1)
noted_item (token.Word word.Reorder) w d h is = (is.0, ap is_plain_key is.1)
noted_item _ w d h is = absurd cc

noted_word : (s : Symbol) (w : Word) (d : Draft) → is_noted s w.kind ≡ true → IsKnownAs w.kind w.text → IfMade (λ n. IsNoted n.word) (bodies_act s w d)
unfolding bodies_act prims_act
noted_word symbol.PrimMetadata w d h is = noted_item w.kind w d h is
noted_word _ w d h is = absurd cc

noted_apart : (s : Symbol) (k : WordKind) → is_of_statement s ≡ false → is_noted s k ≡ false
noted_apart symbol.PrimMetadata k h = absurd cc
noted_apart s k h = refl

begins_apart : (s : Symbol) → is_of_statement s ≡ false → begins_list s ≡ false
begins_apart symbol.HeadItems h = absurd cc
begins_apart symbol.PrimMetadata h = absurd cc
begins_apart symbol.EditedField h = absurd cc
begins_apart symbol.MaybeTargets h = absurd cc
begins_apart symbol.AfterDot h = absurd cc
begins_apart symbol.ConnectWord h = absurd cc
begins_apart s h = refl

-- ---- each word

-- What is said is sound as far as it is read, where these symbols are left to be read.
pub record Follows (stack : List Symbol) (d : Draft) : Type 0 where
  pub tree : TreeFollows stack d
  pub aiming : IsAiming stack d
  pub on_top : are_on_top stack ≡ true
  pub fits : Fits stack
  pub sound : IsOpenSound d
  pub owners : ArePlaced d
  pub state : State (has_edited stack) (part stack) (has_item stack) d
  pub aimed : (is_open d.value ≡ true) ⊎ (awaits_value stack ≡ true) → IsAimed d

module _ (stack : List Symbol) (d : Draft) (w : Word) (s : Symbol) (after : List Symbol) (next : Draft) (f : Follows stack d) (l : Listed stack w.kind s after) (t : Took stack w.kind s after) (is : IsKnownAs w.kind w.text) where
  opened_state : part stack ≡ none → has_item stack ≡ false → is_of_statement s ≡ false → Quiet (has_edited stack) next → State (has_edited stack) (part after) (has_item after) next
  opened_state no_part no_item apart q = by (is_light s) refl
    where
      by : (c : Bool) → is_light s ≡ c → State (has_edited stack) (part after) (has_item after) next
      by true light = bare_state (has_edited stack) after next ((l.light light).0 ∙ no_part) (false_from_ne_true (has_item after) (λ h. let bad : true ≡ false = sym ((l.light light).1 h) ∙ no_item in absurd cc)) q
      by false heavy =
          let h = l.heavy heavy in
          let n : NoParts after = l.plain heavy (begins_apart s apart) (sym h.2 ∙ no_part) in
          bare_state (has_edited stack) after next n.part_is n.no_item q

  shut_state : IsPath next.owner.said.path → bodies_act s w d ≡ Ok next → (begins_value s ≡ true → IsAimed d × ValueGoesOn d w next) → State (has_edited stack) (part after) (has_item after) next
  shut_state path made goes = by (is_light s) refl (begins_list s) refl (is_none (part_of s)) refl
    where
      by : (x : Bool) → is_light s ≡ x → (y : Bool) → begins_list s ≡ y → (z : Bool) → is_none (part_of s) ≡ z → State (has_edited stack) (part after) (has_item after) next
      by true light y begins z of =
          light_state (has_edited stack) stack after next (l.light light)
          (made_of (State (has_edited stack) (part stack) (has_item stack)) (bodies_act s w d) next made (light_kept (has_edited stack) s w (part stack) (has_item stack) d t.rest light t.starts_it is l.item f.state))
      by false heavy y begins false of =
          let h = l.heavy heavy in
          landed_state (has_edited stack) w.kind s h.0 after next h.1 h.3 h.4
          (made_of (Landed (has_edited stack) (starts s w.kind)) (bodies_act s w d) next made (list_landed (has_edited stack) s w (has_item stack) d of is (subst (λ p. State (has_edited stack) p (has_item stack) d) h.2 f.state)))
      by false heavy true begins true of =
          let h = l.heavy heavy in
          landed_state (has_edited stack) w.kind s h.0 after next h.1 h.3 h.4
          (made_of (Landed (has_edited stack) (starts s w.kind)) (bodies_act s w d) next made
          (begun_landed (has_edited stack) s w d begins is t.here (quiet_of (has_edited stack) (part stack) (h.2 ∙ is_the_none (part_of s) of) (has_item stack) d f.state)))
      by false heavy false begins true of =
          let h = l.heavy heavy in
          let n : NoParts after = l.plain heavy begins (is_the_none (part_of s) of) in
          bare_state (has_edited stack) after next n.part_is n.no_item (plain (begins_value s) refl (quiet_of (has_edited stack) (part stack) (h.2 ∙ is_the_none (part_of s) of) (has_item stack) d f.state))
        where
          plain : (v : Bool) → begins_value s ≡ v → Quiet (has_edited stack) d → Quiet (has_edited stack) next
          plain true v q = value_quiet (has_edited stack) w d next (goes v).0 (goes v).1 q
          plain false v q = made_of (IfPlaced (has_edited stack)) (bodies_act s w d) next made (bodies_quiet (has_edited stack) s w d t.rest heavy begins of v t.starts_it is q) path

-- ---- where keys may stand

inside_of : (outer : List Owner) → 0 < length outer → IsInside outer
inside_of [] h = absurd (omega arith)
inside_of (o ∷ outer) h = tt

count_of : (stack : List Symbol) (k : WordKind) (s : Symbol) (after : List Symbol) (d : Draft) → IsNested stack d → step stack k ≡ Some (s, after) → is_opening s ≡ false → length d.outer + names stack ≡ ends stack
count_of stack k s after d nested taken apart = nested.counted (by d.opening.is_too_deep refl)
  where
    by : (c : Bool) → d.opening.is_too_deep ≡ c → d.opening.is_too_deep ≡ false
    by true is = absurd (let bad : true ≡ false = sym (opened_by stack k s after (nested.too_deep is) taken) ∙ apart in cc)
    by false is = is

at_of : (s : Symbol) (stack after : List Symbol) (d : Draft) → (is_opening s ≡ false → length d.outer + names stack ≡ ends stack) → Fitted stack s after → (is_edited s ≡ true → IsNoted d.word) → IsAt s d
at_of symbol.HeadItems stack after d count fit noted = none_left d.outer (omega (arith, count refl, fit.ends_here, fit.here))
at_of symbol.PrimMetadata stack after d count fit noted = inside_of d.outer (omega (arith, count refl, fit.ends_here, fit.names_here, fit.here))
at_of symbol.EditedField stack after d count fit noted = (noted refl, inside_of d.outer (omega (arith, count refl, fit.ends_here, fit.names_here, fit.here)))
at_of s stack after d count fit noted = tt

pub kept : (stack : List Symbol) (d : Draft) (w : Word) (s : Symbol) (after : List Symbol) (next : Draft) → IsOfToken w → IsLexedWord w → Follows stack d → step stack w.kind ≡ Some (s, after) → act s w d ≡ Ok next → Follows after next
kept stack d w s after next token lexed f taken acted = record {
  tree = read_trees.kept stack d w s after next token f.tree taken acted;
  aiming = steps_aimed.kept stack after s w d next taken acted (name_known w.kind w is) f.aiming;
  on_top = l.on_top;
  fits = fit.fits;
  sound = words_keep.kept s w d next t.rest lexed base f.sound t.starts_it acted;
  owners = owners;
  state = by (is_open d.value) refl;
  aimed = λ h. aimed (subst (λ x. (is_open next.value ≡ true) ⊎ (awaits_value x ≡ true)) (sym at.after_is) h);
}
  where
    at : Aimed stack w.kind s after
    at = found stack w.kind s after f.aiming.calm taken

    fit : Fitted stack s after
    fit = fitted stack w.kind s after f.fits f.tree.nested.balanced taken

    l : Listed stack w.kind s after
    l = listed stack w.kind s after f.on_top taken

    t : Took stack w.kind s after
    t = took stack w.kind s after taken

    is : IsKnownAs w.kind w.text
    is = known w token lexed

    base : IsPath d.owner.said.base
    base = owners_have_paths.base d f.owners

    owners : ArePlaced next
    owners = owners_have_paths.kept s w d next f.owners acted

    at_owner : IsAt s d
    at_owner = at_of s stack after d (count_of stack w.kind s after d f.tree.nested taken) fit (λ edited. (rest_of (has_edited stack) (part stack) (has_item stack) d f.state).word (t.here edited))

    aimed : (is_open next.value ≡ true) ⊎ (awaits_value (at.pushed ++ at.below) ≡ true) → IsAimed next
    aimed h = by_act (is_open d.value) refl
      where
        by_act : (c : Bool) → is_open d.value ≡ c → IsAimed next
        by_act true opened = token_aimed IsAimedAt expects w d next (acted_by s w d next true opened acted) (f.aimed (inl opened))
        by_act false shut = word_aimed IsAimedAt IsKnownAt expects keys s w d next at.pushed at.below at.starts_is at.calm (is, at_owner) (λ g. f.aimed (inr (at.awaited g))) shut (acted_by s w d next false shut acted) h

    goes : IsOfValue s d → ValueGoesOn d w next
    goes of = words_keep.value s w d next t.rest lexed base f.sound t.starts_it of acted

    finish : State (has_edited stack) (part after) (has_item after) next → (is_noted s w.kind ≡ true → IsNoted next.word) → State (has_edited after) (part after) (has_item after) next
    finish state noted = restate (has_edited stack) (has_edited after) (part after) (has_item after) next (λ h. word (edited_after stack w.kind s after t h)) state
      where
        word : (is_noted s w.kind ≡ true) ⊎ (has_edited stack ≡ true) → IsNoted next.word
        word (inl edit) = noted edit
        word (inr before) = (rest_of (has_edited stack) (part after) (has_item after) next state).word before

    by : (c : Bool) → is_open d.value ≡ c → State (has_edited after) (part after) (has_item after) next
    by true opened =
        let none_read = no_parts stack (value_bare stack d f.tree.value f.on_top opened) in
        let apart : is_of_statement s ≡ false = value_symbol stack d w s after f.tree.value opened taken in
        finish
        (opened_state stack d w s after next f l t is none_read.0 none_read.1 apart (value_quiet (has_edited stack) w d next (f.aimed (inl opened)) (goes (inl opened)) (quiet_of (has_edited stack) (part stack) none_read.0 (has_item stack) d f.state)))
        (λ h. let bad : true ≡ false = sym h ∙ noted_apart s w.kind apart in absurd cc)
    by false shut =
        let made : bodies_act s w d ≡ Ok next = acted_by s w d next false shut acted in
        finish (shut_state stack d w s after next f l t is owners.0.formed made (λ v. (f.aimed (inr (at.awaited (begun_awaited s at.below v))), goes (inr v)))) (λ h. made_of (λ n. IsNoted n.word) (bodies_act s w d) next made (noted_word s w d h is))

-- Items of references and payloads: an asset, a path or both, and an offset.
use Rattle.std.proofs.Common.{◌≡◌, ◌∙◌, ℕ, ◌&&◌, ◌==◌, Bool, true, false, List, [], ◌∷◌, ◌++◌, Option, Some, None, Result, Ok, ap, sym, refl, subst, eqb-true}
use Rattle.std.specs.Prelude.{codes, ℤ, pos, negsuc}
use Rattle.std.proofs.lemmas.Bool.{and_parts}
use Rattle.list_ops.specs.ListEdits.{firsts}
use Rattle.list_ops.specs.declared.op.ListOp.{ListOp}
use Rattle.plain_data.specs.Ends.{front, last-push, front-push}
use Rattle.sdf_paths.specs.declared.element.Element.{Element}
use Rattle.sdf_values.specs.Print.{asset_text}
use Rattle.sdf_values.specs.Scales.{Offset, IsOffset}
use Rattle.sdf_values.specs.declared.refusal.RefusalKind.{RefusalKind}
use Rattle.spec_parts.specs.declared.items.RefItem.{RefItem}
use Rattle.usda_fields.specs.Fields.{items_at, with_items, amend_items}
use Rattle.usda_fields.specs.declared.field.ListField.TheVariants.{References}
use Rattle.usda_fields.specs.declared.field.ReferenceField.{ReferenceField}
use Rattle.usda_fields.specs.declared.field.ReferenceField.TheVariants as reference_field
use Rattle.usda_fields.specs.declared.owner.OwnerDraft.{OwnerDraft}
use Rattle.usda_grammar.specs.declared.symbols.Symbol.{Symbol}
use Rattle.usda_grammar.specs.declared.symbols.Symbol.TheVariants as symbol
use Rattle.usda_grammar.specs.Table.{starts}
use Rattle.usda_lexer.specs.Meanings.{path_text}
use Rattle.usda_lists.specs.Acts.{and_then}
use Rattle.usda_lists.specs.Lists.{with_list, push_item, amend_last, amended, amend_list, close_list}
use Rattle.usda_lists.specs.Offsets.{identity, offset_act}
use Rattle.usda_lists.specs.Paths.{path_from}
use Rattle.usda_lists.specs.References.{asset_item, asset_or_none, path_or_none, some_path, path_item, with_path, with_number_of, same_item}
use Rattle.usda_lists.specs.declared.edit.GivenLists.{GivenLists}
use Rattle.usda_lists.specs.declared.edit.ListEdit.{ListEdit}
use Rattle.usda_lists.specs.declared.offset.OffsetKey.{OffsetKey}
use Rattle.usda_lists.specs.declared.offset.OffsetKey.TheVariants as key
use Rattle.usda_statements.specs.OpenValues.{is_open}
use Rattle.usda_words.specs.Words.{Word}
use Rattle.usda_writer.specs.Texts.{is_identity, is_zero, is_one, path_text as path_token}
use Rattle.usda_drafts.specs.Acts.{bodies_act, prims_act}
use Rattle.usda_drafts.specs.Lists.{in_references_act, asset_act, lone_path_act, item_path_act, number_act, end_act}
use Rattle.usda_drafts.specs.Refusals.{then_with}
use Rattle.usda_drafts.specs.Values.{with_said}
use Rattle.usda_drafts.specs.declared.draft.Draft.{Draft}
use Rattle.usda_drafts.specs.declared.draft.OpenList.TheVariants as open_list_of
use Rattle.value_texts.specs.Cuts.{Said}
use Rattle.value_texts.specs.Words.{as_word}
use Rattle.value_texts.specs.ValueWords.{asset_said, path_said, open_paren, open_bracket, close_bracket, comma}
use Rattle.value_texts.proofs.AssetTokens.{asset_means, path_means}
use Rattle.value_texts.specs.Each.{AreAll}
use Rattle.layer_texts.specs.ListWords.{reference_words, target_words, words_unless_identity, bracketed_words}
use Rattle.layer_reads.specs.FieldLists.{IsPathHere}
use Rattle.layer_reads.specs.Lists.{IsListRead}
use Rattle.layer_reads.specs.Taking.{AreTaken}
use Rattle.layer_reads.proofs.Lists.{bracketed_taken}
use Rattle.layer_reads.proofs.Taking.{taken_nothing, above}
use Rattle.layer_reads.proofs.FieldLists.{list_again, list_back}
use Rattle.layer_reads.specs.Fields.{with_references, IsAssetOrNone, IsPathOrNone, IsReferenceHere}
use Rattle.layer_reads.proofs.Offsets.{offset_taken}
use Rattle.layer_reads.proofs.Words.{saying_word, word_then, last_word, past}

-- ---- what the tokens of an asset and a path mean

asset_is : (a : List ℕ) → IsAssetOrNone (Some a) → asset_item (asset_text a) ≡ record { asset = Some a; path = None; offset = identity }
asset_is [] h = absurd h
asset_is (c ∷ cs) h = ap (λ t. record { asset = asset_or_none t; path = None; offset = identity }) (asset_means (c ∷ cs))

path_is : (base : List Element) (p : List Element) → IsPathHere base p → path_or_none base (path_text (path_token p)) ≡ Ok (Some p)
unfolding path_from
path_is base p h = by (path_text (path_token p)) h
  where
    by : (t : List ℕ) → path_from base t ≡ Some p → path_or_none base t ≡ Ok (Some p)
    by [] h = absurd cc
    by (c ∷ cs) h = ap some_path h

not_both : (b : Bool) → (b && false) ≡ true → ⊥
not_both true h = cc
not_both false h = cc

-- an offset that is not said changes no time
pub identity_is : (o : Offset) → is_identity o ≡ true → o ≡ identity
identity_is o h = by o.offset o.scale h
  where
    by : (n k : ℤ) → (is_zero n && is_one k) ≡ true → record { offset = n; scale = k } ≡ identity
    by (pos n) (pos k) h =
        let p = and_parts (n == 0) (k == 1) h in
        ap (λ n. record { offset = pos n; scale = pos k }) (eqb-true n 0 p.0) ∙ ap (λ k. record { offset = pos 0; scale = pos k }) (eqb-true k 1 p.1)
    by (pos n) (negsuc k) h = absurd (not_both (n == 0) h)
    by (negsuc n) k h = absurd cc

-- ---- the lists of references in an owner

at_put : (field : ReferenceField) (op : ListOp RefItem) (m : GivenLists) (s : OwnerDraft) → items_at field (with_references field op m s) ≡ op
at_put reference_field.References op m s = refl
at_put reference_field.Payload op m s = refl

put_put : (field : ReferenceField) (a op : ListOp RefItem) (m : GivenLists) (s : OwnerDraft) → with_items field a (with_references field op m s) ≡ with_references field a m s
put_put reference_field.References a op m s = refl
put_put reference_field.Payload a op m s = refl

base_put : (field : ReferenceField) (op : ListOp RefItem) (m : GivenLists) (s : OwnerDraft) → (with_references field op m s).base ≡ s.base
base_put reference_field.References op m s = refl
base_put reference_field.Payload op m s = refl

-- the symbols behind what an item names, and behind the item
abbrev behind_target : Option (List ℕ) → Option (List Element) → List Symbol
behind_target (Some a) None = symbol.MaybePath ∷ symbol.MaybeOffsets ∷ symbol.MoreReferences ∷ []
behind_target asset path = symbol.MaybeOffsets ∷ symbol.MoreReferences ∷ []

abbrev behind_offset : Bool → RefItem → List Symbol
behind_offset true r = behind_target r.asset r.path
behind_offset false r = symbol.MoreReferences ∷ []

abbrev behind_item : RefItem → List Symbol
behind_item r = behind_offset (is_identity r.offset) r

module _ (field : ReferenceField) (edit : ListEdit) (op : ListOp RefItem) (m : GivenLists) (s : OwnerDraft) (d : Draft) (shut : is_open d.value ≡ false) (listed : d.list ≡ open_list_of.Field (References field)) (edits : d.edit ≡ edit) where
  abbrev Put : List RefItem → OwnerDraft
  Put items = with_references field (with_list edit items op) m s

  -- the draft with these items so far
  abbrev Has : List RefItem → OffsetKey → Draft
  Has items k = record (with_said d (Put items)) { offset_key = k }

  pushed : (done : List RefItem) (r : RefItem) → with_items field (push_item edit r (items_at field (Put done))) (Put done) ≡ Put (done ++ r ∷ [])
  pushed done r =
      ap (λ (o : ListOp RefItem). with_items field (push_item edit r o) (Put done)) (at_put field (with_list edit done op) m s)
      ∙ put_put field (push_item edit r (with_list edit done op)) (with_list edit done op) m s
      ∙ ap (λ l. with_references field (with_list edit (l ++ r ∷ []) (with_list edit done op)) m s) (list_back edit done op)
      ∙ ap (λ o. with_references field o m s) (list_again edit done (done ++ r ∷ []) op)

  -- the last item is changed
  changed : (done : List RefItem) (r q : RefItem) (change : RefItem → Result RefItem RefusalKind) → change r ≡ Ok q → amend_items field edit change (Put (done ++ r ∷ [])) ≡ Ok (Put (done ++ q ∷ []))
  changed done r q change h =
      let items : List RefItem = done ++ r ∷ [] in
      let o : ListOp RefItem = with_list edit items op in
      let u : OwnerDraft = Put items in
      let next : Result RefItem RefusalKind → List RefItem → Result OwnerDraft RefusalKind =
      λ x l. and_then (and_then (and_then x (λ new. Ok (front l ++ new ∷ []))) (λ items. Ok (with_list edit items o))) (λ op. Ok (with_items field op u)) in
      ap (λ o. and_then (amend_list edit (amend_last change) o) (λ op. Ok (with_items field op u))) (at_put field o m s)
      ∙ ap (λ l. and_then (and_then (amend_last change l) (λ items. Ok (with_list edit items o))) (λ op. Ok (with_items field op u))) (list_back edit items op)
      ∙ ap (λ x. and_then (and_then (amended change x items) (λ items. Ok (with_list edit items o))) (λ op. Ok (with_items field op u))) (last-push done r)
      ∙ ap (λ x. next x items) h
      ∙ ap (λ l. Ok (with_items field (with_list edit (l ++ q ∷ []) o) u)) (front-push done r)
      ∙ ap Ok (put_put field (with_list edit (done ++ q ∷ []) o) o m s ∙ ap (λ o. with_references field o m s) (list_again edit items (done ++ q ∷ []) op))

  at_base : (items : List RefItem) → (Put items).base ≡ s.base
  at_base items = base_put field (with_list edit items op) m s

  -- ---- the acts of the words

  asset_acts : (done : List RefItem) (k : OffsetKey) (a : List ℕ) (w : Word) → IsAssetOrNone (Some a)
      → in_references_act (saying_word (asset_said (asset_text a)) w).kind (saying_word (asset_said (asset_text a)) w) (Has done k) ≡ Ok (Has (done ++ record { asset = Some a; path = None; offset = identity } ∷ []) k)
  unfolding in_references_act asset_act
  asset_acts done k a w h =
      ap (λ l. asset_act l (saying_word (asset_said (asset_text a)) w) (Has done k)) listed
      ∙ ap (λ e. Ok (with_said (Has done k) (with_items field (push_item e (asset_item (asset_text a)) (items_at field (Put done))) (Put done)))) edits
      ∙ ap (λ r. Ok (with_said (Has done k) (with_items field (push_item edit r (items_at field (Put done))) (Put done)))) (asset_is a h)
      ∙ ap (λ u. Ok (with_said (Has done k) u)) (pushed done (record { asset = Some a; path = None; offset = identity }))

  lone_acts : (done : List RefItem) (k : OffsetKey) (t : List ℕ) (p : Option (List Element)) (w : Word) → path_or_none s.base (path_text t) ≡ Ok p
      → in_references_act (saying_word (path_said t) w).kind (saying_word (path_said t) w) (Has done k) ≡ Ok (Has (done ++ record { asset = None; path = p; offset = identity } ∷ []) k)
  unfolding in_references_act lone_path_act
  lone_acts done k t p w h =
      let put : ListEdit → RefItem → Result OwnerDraft RefusalKind = λ e r. Ok (with_items field (push_item e r (items_at field (Put done))) (Put done)) in
      ap (λ l. lone_path_act l (saying_word (path_said t) w) (Has done k)) listed
      ∙ ap (λ b. then_with w.start (and_then (path_item b t) (put d.edit)) (with_said (Has done k))) (at_base done)
      ∙ ap (λ x. then_with w.start (and_then (and_then x (λ path. Ok (record { asset = None; path = path; offset = identity }))) (put d.edit)) (with_said (Has done k))) h
      ∙ ap (λ e. then_with w.start (put e (record { asset = None; path = p; offset = identity })) (with_said (Has done k))) edits
      ∙ ap (λ u. Ok (with_said (Has done k) u)) (pushed done (record { asset = None; path = p; offset = identity }))

  path_acts : (done : List RefItem) (k : OffsetKey) (r : RefItem) (p : List Element) (w : Word) → IsPathHere s.base p
      → item_path_act (Has (done ++ r ∷ []) k).list (saying_word (path_said (path_token p)) w) (Has (done ++ r ∷ []) k) ≡ Ok (Has (done ++ record r { path = Some p } ∷ []) k)
  unfolding item_path_act
  path_acts done k r p w h =
      let before : Draft = Has (done ++ r ∷ []) k in
      ap (λ l. item_path_act l (saying_word (path_said (path_token p)) w) before) listed
      ∙ ap (λ e. then_with w.start (amend_items field e (with_path (Put (done ++ r ∷ [])).base (path_token p)) (Put (done ++ r ∷ []))) (with_said before)) edits
      ∙ ap (λ x. then_with w.start x (with_said before))
      (changed done r (record r { path = Some p }) (with_path (Put (done ++ r ∷ [])).base (path_token p))
      (ap (λ b. with_path b (path_token p) r) (at_base (done ++ r ∷ [])) ∙ ap (λ x. and_then x (λ path. Ok (record r { path = path }))) (path_is s.base p h)))

  number_acts : (done : List RefItem) (r : RefItem) (o p : Offset) (k : OffsetKey) (w : Word) → offset_act k w.text o ≡ Ok p
      → number_act (Has (done ++ record r { offset = o } ∷ []) k).list w (Has (done ++ record r { offset = o } ∷ []) k) ≡ Ok (Has (done ++ record r { offset = p } ∷ []) k)
  unfolding number_act
  number_acts done r o p k w h =
      let before : Draft = Has (done ++ record r { offset = o } ∷ []) k in
      ap (λ l. number_act l w before) listed
      ∙ ap (λ e. then_with w.start (amend_items field e (with_number_of k w.text) (Put (done ++ record r { offset = o } ∷ []))) (with_said before)) edits
      ∙ ap (λ x. then_with w.start x (with_said before))
      (changed done (record r { offset = o }) (record r { offset = p }) (with_number_of k w.text) (ap (λ x. and_then x (λ offset. Ok (record r { offset = offset }))) h))

  end_acts : (done : List RefItem) (k : OffsetKey) (w : Word) → in_references_act (saying_word close_bracket w).kind (saying_word close_bracket w) (Has done k) ≡ Ok (Has (firsts same_item done) k)
  unfolding in_references_act end_act
  end_acts done k w =
      ap (λ l. end_act l (Has done k)) listed
      ∙ ap (λ e. Ok (with_said (Has done k) (with_items field (close_list same_item e (items_at field (Put done))) (Put done)))) edits
      ∙ ap (λ (o : ListOp RefItem). Ok (with_said (Has done k) (with_items field (close_list same_item edit o) (Put done)))) (at_put field (with_list edit done op) m s)
      ∙ ap (λ u. Ok (with_said (Has done k) u))
      (put_put field (close_list same_item edit (with_list edit done op)) (with_list edit done op) m s
      ∙ ap (λ l. with_references field (with_list edit (firsts same_item l) (with_list edit done op)) m s) (list_back edit done op)
      ∙ ap (λ o. with_references field o m s) (list_again edit done (firsts same_item done) op))

  -- ---- an item

  abbrev Is : List RefItem → Draft → Type 0
  Is done e = (k : OffsetKey) × (e ≡ Has done k)

  abbrev plain_item : Option (List ℕ) → Option (List Element) → RefItem
  plain_item asset path = record { asset = asset; path = path; offset = identity }

  -- what an item names, and then more words
  named : (asset : Option (List ℕ)) (path : Option (List Element)) → IsAssetOrNone asset → IsPathOrNone s.base path → (done : List RefItem) (k : OffsetKey) (said : List Said) (to : List Symbol) (After : Draft → Type 0)
      → AreTaken (behind_target asset path) (Has (done ++ plain_item asset path ∷ []) k) said to After → AreTaken (symbol.ReferencesOrEnd ∷ []) (Has done k) (target_words asset path ++ said) to After
  unfolding bodies_act prims_act
  named None None a p done k said to After rest =
      word_then (symbol.ReferencesOrEnd ∷ []) (behind_target None None) to symbol.ReferencesOrEnd (Has done k) (Has (done ++ plain_item None None ∷ []) k) (path_said (codes "<>")) said After shut (λ below. refl)
      (λ w. lone_acts done k (codes "<>") None w (ap (path_or_none s.base) (path_means []))) rest
  named None (Some q) a p done k said to After rest =
      word_then (symbol.ReferencesOrEnd ∷ []) (behind_target None (Some q)) to symbol.ReferencesOrEnd (Has done k) (Has (done ++ plain_item None (Some q) ∷ []) k) (path_said (path_token q)) said After shut (λ below. refl)
      (λ w. lone_acts done k (path_token q) (Some q) w (path_is s.base q p)) rest
  named (Some b) None a p done k said to After rest =
      word_then (symbol.ReferencesOrEnd ∷ []) (behind_target (Some b) None) to symbol.ReferencesOrEnd (Has done k) (Has (done ++ plain_item (Some b) None ∷ []) k) (asset_said (asset_text b)) said After shut (λ below. refl)
      (λ w. asset_acts done k b w a) rest
  named (Some b) (Some q) a p done k said to After rest =
      word_then (symbol.ReferencesOrEnd ∷ []) (behind_target (Some b) None) to symbol.ReferencesOrEnd (Has done k) (Has (done ++ plain_item (Some b) None ∷ []) k) (asset_said (asset_text b)) (path_said (path_token q) ∷ said) After shut (λ below. refl)
      (λ w. asset_acts done k b w a)
      (word_then (behind_target (Some b) None) (behind_target (Some b) (Some q)) to symbol.MaybePath (Has (done ++ plain_item (Some b) None ∷ []) k) (Has (done ++ plain_item (Some b) (Some q) ∷ []) k) (path_said (path_token q)) said After shut
      (λ below. refl) (λ w. path_acts done k (plain_item (Some b) None) q w p) rest)

  -- the offset behind it
  offset_behind : (r : RefItem) → IsOffset r.offset → (done : List RefItem) (k : OffsetKey)
      → AreTaken (symbol.MaybeOffsets ∷ symbol.MoreReferences ∷ []) (Has (done ++ plain_item r.asset r.path ∷ []) k) (words_unless_identity false r.offset) (symbol.MoreReferences ∷ []) (Is (done ++ r ∷ []))
  offset_behind r h done k =
      above (symbol.MaybeOffsets ∷ []) [] (symbol.MoreReferences ∷ []) (Has (done ++ plain_item r.asset r.path ∷ []) k) (words_unless_identity false r.offset) (Is (done ++ r ∷ []))
      (offset_taken (λ o k. Has (done ++ record r { offset = o } ∷ []) k) (λ o k. shut) (λ o k l. refl) (number_acts done r) r.offset k (Is (done ++ r ∷ [])) h (key.Scale, refl))

  past_path : (asset : Option (List ℕ)) (path : Option (List Element)) (e : Draft) (x : Said) (said : List Said) (to : List Symbol) (After : Draft → Type 0) → starts symbol.MaybePath (as_word x).kind ≡ None
      → AreTaken (symbol.MaybeOffsets ∷ symbol.MoreReferences ∷ []) e (x ∷ said) to After → AreTaken (behind_target asset path) e (x ∷ said) to After
  past_path (Some a) None e x said to After none h = past symbol.MaybePath (symbol.MaybeOffsets ∷ symbol.MoreReferences ∷ []) to e x said After refl none h
  past_path (Some a) (Some p) e x said to After none h = h
  past_path None path e x said to After none h = h

  item_taken : (r : RefItem) → IsReferenceHere s.base r → (done : List RefItem) (k : OffsetKey) → AreTaken (symbol.ReferencesOrEnd ∷ []) (Has done k) (reference_words r) (behind_item r) (Is (done ++ r ∷ []))
  item_taken r h done k = by (is_identity r.offset) refl
    where
      by : (b : Bool) → is_identity r.offset ≡ b → AreTaken (symbol.ReferencesOrEnd ∷ []) (Has done k) (target_words r.asset r.path ++ words_unless_identity b r.offset) (behind_offset b r) (Is (done ++ r ∷ []))
      by true e =
          named r.asset r.path h.asset h.path done k [] (behind_target r.asset r.path) (Is (done ++ r ∷ []))
          (taken_nothing (behind_target r.asset r.path) (Has (done ++ plain_item r.asset r.path ∷ []) k) (Is (done ++ r ∷ []))
          (k, ap (λ o. Has (done ++ record r { offset = o } ∷ []) k) (sym (identity_is r.offset e))))
      by false e =
          named r.asset r.path h.asset h.path done k (words_unless_identity false r.offset) (symbol.MoreReferences ∷ []) (Is (done ++ r ∷ []))
          (past_path r.asset r.path (Has (done ++ plain_item r.asset r.path ∷ []) k) open_paren _ (symbol.MoreReferences ∷ []) (Is (done ++ r ∷ [])) refl (offset_behind r h.offset done k))

  -- ---- the whole list

  no_more : (r : RefItem) (e : Draft) (x : Said) (to : List Symbol) (After : Draft → Type 0) → starts symbol.MaybePath (as_word x).kind ≡ None → starts symbol.MaybeOffsets (as_word x).kind ≡ None
      → AreTaken (symbol.MoreReferences ∷ []) e (x ∷ []) to After → AreTaken (behind_item r) e (x ∷ []) to After
  no_more r e x to After none nor h = by (is_identity r.offset)
    where
      by : (b : Bool) → AreTaken (behind_offset b r) e (x ∷ []) to After
      by true = past_path r.asset r.path e x [] to After none (past symbol.MaybeOffsets (symbol.MoreReferences ∷ []) to e x [] After refl nor h)
      by false = h

  is_read : IsListRead reference_words (IsReferenceHere s.base) symbol.ReferenceList symbol.ReferencesOrEnd behind_item (Is []) Is (λ done. Is (firsts same_item done))
  unfolding bodies_act prims_act in_references_act
  is_read = record {
    opens = λ e h.
        subst (λ e. AreTaken (symbol.ReferenceList ∷ []) e (open_bracket ∷ []) (symbol.ReferencesOrEnd ∷ []) (Is [])) (sym h.1)
        (last_word (symbol.ReferenceList ∷ []) (symbol.ReferencesOrEnd ∷ []) symbol.ReferenceList (Has [] h.0) (Has [] h.0) open_bracket (Is []) shut (λ below. refl) (λ w. refl) (h.0, refl));
    item = λ done r e good h. subst (λ e. AreTaken (symbol.ReferencesOrEnd ∷ []) e (reference_words r) (behind_item r) (Is (done ++ r ∷ []))) (sym h.1) (item_taken r good done h.0);
    parts = λ done r e h.
        no_more r e comma (symbol.ReferencesOrEnd ∷ []) (Is done) refl refl
        (subst (λ e. AreTaken (symbol.MoreReferences ∷ []) e (comma ∷ []) (symbol.ReferencesOrEnd ∷ []) (Is done)) (sym h.1)
        (last_word (symbol.MoreReferences ∷ []) (symbol.ReferencesOrEnd ∷ []) symbol.MoreReferences (Has done h.0) (Has done h.0) comma (Is done) shut (λ below. refl) (λ w. refl) (h.0, refl)));
    ends = λ done r e h.
        no_more r e close_bracket [] (Is (firsts same_item done)) refl refl
        (subst (λ e. AreTaken (symbol.MoreReferences ∷ []) e (close_bracket ∷ []) [] (Is (firsts same_item done))) (sym h.1)
        (last_word (symbol.MoreReferences ∷ []) [] symbol.MoreReferences (Has done h.0) (Has (firsts same_item done) h.0) close_bracket (Is (firsts same_item done)) shut (λ below. refl)
        (λ w. end_acts done h.0 w) (h.0, refl)));
  }

  pub references_taken : d.owner.said ≡ Put [] → (r : RefItem) (rs : List RefItem) → AreAll (IsReferenceHere s.base) (r ∷ rs)
      → AreTaken (symbol.ReferenceList ∷ []) d (bracketed_words reference_words (r ∷ rs)) [] (λ e. (k : OffsetKey) × (e ≡ Has (firsts same_item (r ∷ rs)) k))
  references_taken said r rs h =
      bracketed_taken reference_words (IsReferenceHere s.base) symbol.ReferenceList symbol.ReferencesOrEnd behind_item (Is []) Is (λ done. Is (firsts same_item done)) is_read r rs d h (d.offset_key, ap (λ u. with_said d u) said)

-- Sublayers: assets with offsets.
use Rattle.std.proofs.Common.{◌≡◌, ◌∙◌, Bool, true, false, List, [], ◌∷◌, ◌++◌, None, Ok, Err, Result, ap, sym, refl, subst}
use Rattle.std.specs.Prelude.{if◌then◌else◌, codes}
use Rattle.plain_data.specs.Ends.{front, last-push, front-push}
use Rattle.sdf_values.specs.Print.{asset_text}
use Rattle.sdf_values.specs.Scales.{Offset}
use Rattle.sdf_values.specs.declared.refusal.RefusalKind.{RefusalKind}
use Rattle.sdf_values.specs.declared.refusal.RefusalKind.TheVariants.{DuplicateSpec}
use Rattle.spec_parts.specs.declared.items.SubLayer.{SubLayer}
use Rattle.usda_grammar.specs.Table.{starts}
use Rattle.usda_grammar.specs.declared.symbols.Symbol.{Symbol}
use Rattle.usda_grammar.specs.declared.symbols.Symbol.TheVariants as symbol
use Rattle.usda_lists.specs.Acts.{and_then}
use Rattle.usda_lists.specs.Lists.{amended}
use Rattle.usda_lists.specs.Offsets.{identity, offset_act}
use Rattle.usda_lists.specs.References.{sublayer_number}
use Rattle.usda_lists.specs.declared.offset.OffsetKey.{OffsetKey}
use Rattle.usda_words.specs.Words.{Word}
use Rattle.usda_writer.specs.Texts.{is_identity}
use Rattle.usda_drafts.specs.Acts.{bodies_act, prims_act, layers_act}
use Rattle.usda_drafts.specs.Lists.{sublayer_act, number_act}
use Rattle.usda_drafts.specs.Metadata.{head_item_act, sublayers_act}
use Rattle.usda_drafts.specs.Refusals.{refused, then_with}
use Rattle.usda_drafts.specs.declared.draft.Draft.{Draft}
use Rattle.usda_drafts.specs.declared.draft.OpenList.TheVariants as open_list_of
use Rattle.usda_drafts.specs.declared.fault.Refused.{Refused}
use Rattle.value_texts.specs.Cuts.{Said}
use Rattle.value_texts.specs.ValueWords.{name_said, asset_said, comma, equals, open_bracket, close_bracket}
use Rattle.value_texts.specs.Words.{as_word}
use Rattle.value_texts.proofs.AssetTokens.{asset_means}
use Rattle.layer_texts.specs.ListWords.{sublayer_words, words_unless_identity, bracketed_words}
use Rattle.layer_reads.specs.Lists.{IsListRead}
use Rattle.layer_reads.specs.Taking.{AreTaken}
use Rattle.layer_reads.proofs.Lists.{bracketed_taken}
use Rattle.layer_reads.proofs.Taking.{taken_nothing, together, above, weaker}
use Rattle.layer_reads.specs.Standing.{Standing, IsAt}
use Rattle.layer_reads.specs.Sublayers.{IsSublayerKept, with_sublayers, AreSublayersRead}
use Rattle.layer_reads.proofs.EditedLists.{equals_taken}
use Rattle.layer_reads.proofs.Items.{no_items, one_item}
use Rattle.layer_reads.proofs.Offsets.{offset_taken}
use Rattle.layer_reads.proofs.References.{identity_is}
use Rattle.layer_reads.proofs.Words.{word_taken, last_word, past}

-- the symbols behind a sublayer
abbrev behind_offset : Bool → List Symbol
behind_offset true = symbol.MaybeOffsets ∷ symbol.MoreSubLayers ∷ []
behind_offset false = symbol.MoreSubLayers ∷ []

module _ (at : Standing) where
  abbrev Has : List SubLayer → Draft → Type 0
  Has done d = (d.list ≡ open_list_of.SubLayers) × IsAt (with_sublayers done true at) d

  -- a draft whose last sublayer has this offset
  abbrev last_with : Draft → List SubLayer → SubLayer → Offset → OffsetKey → Draft
  last_with d done s o k = record d { sublayers = done ++ record s { offset = o } ∷ []; offset_key = k; list = open_list_of.SubLayers }

  number_acts : (d : Draft) (done : List SubLayer) (s : SubLayer) (o p : Offset) (k : OffsetKey) (w : Word) → offset_act k w.text o ≡ Ok p
      → number_act (last_with d done s o k).list w (last_with d done s o k) ≡ Ok (last_with d done s p k)
  unfolding number_act
  number_acts d done s o p k w h =
      let items : List SubLayer = done ++ record s { offset = o } ∷ [] in
      let put : Result (List SubLayer) RefusalKind → Result Draft Refused = λ r. then_with w.start r (λ sublayers. record (last_with d done s o k) { sublayers = sublayers }) in
      ap (λ x. put (amended (sublayer_number k w.text) x items)) (last-push done (record s { offset = o }))
      ∙ ap (λ r. put (and_then (and_then r (λ offset. Ok (record s { offset = offset }))) (λ new. Ok (front items ++ new ∷ [])))) h
      ∙ ap (λ l. put (Ok (l ++ record s { offset = p } ∷ []))) (front-push done (record s { offset = o }))

  asset_then : (done : List SubLayer) (s : SubLayer) (said : List Said) (to : List Symbol) (After : Draft → Type 0) (d : Draft) → Has done d
      → ((e : Draft) → Has (done ++ record s { offset = identity } ∷ []) e → AreTaken (symbol.MaybeOffsets ∷ symbol.MoreSubLayers ∷ []) e said to After) → AreTaken (symbol.SubLayersOrEnd ∷ []) d (asset_said (asset_text s.asset) ∷ said) to After
  unfolding bodies_act prims_act layers_act sublayer_act
  asset_then done s said to After d h rest =
      together (symbol.SubLayersOrEnd ∷ []) (symbol.MaybeOffsets ∷ symbol.MoreSubLayers ∷ []) to d (asset_said (asset_text s.asset) ∷ []) said (Has (done ++ record s { offset = identity } ∷ [])) After
      (word_taken (symbol.SubLayersOrEnd ∷ []) (symbol.MaybeOffsets ∷ symbol.MoreSubLayers ∷ []) symbol.SubLayersOrEnd d (asset_said (asset_text s.asset)) (Has (done ++ record s { offset = identity } ∷ [])) h.1.shut (λ below. refl)
      (λ w. (
        record d { sublayers = d.sublayers ++ record s { offset = identity } ∷ [] },
        (h.0, record { stands = ap (λ (p : Standing). record p { sublayers = p.sublayers ++ record s { offset = identity } ∷ [] }) (h.1).stands; free = h.1.free; shut = h.1.shut; shallow = h.1.shallow }),
        ap (λ a. Ok (record d { sublayers = d.sublayers ++ record { asset = a; offset = identity } ∷ [] })) (asset_means s.asset),
      ))) rest

  is_last : (done : List SubLayer) (s : SubLayer) (e : Draft) → Has (done ++ record s { offset = identity } ∷ []) e → last_with e done s identity e.offset_key ≡ e
  is_last done s e k = ap (λ l. record e { sublayers = l; list = open_list_of.SubLayers }) (sym (ap (λ (p : Standing). p.sublayers) (k.1).stands)) ∙ ap (λ l. record e { list = l }) (sym k.0)

  item_taken : (done : List SubLayer) (s : SubLayer) (d : Draft) → IsSublayerKept s → Has done d → AreTaken (symbol.SubLayersOrEnd ∷ []) d (sublayer_words s) (behind_offset (is_identity s.offset)) (Has (done ++ s ∷ []))
  item_taken done s d kept h = by (is_identity s.offset) refl
    where
      by : (b : Bool) → is_identity s.offset ≡ b → AreTaken (symbol.SubLayersOrEnd ∷ []) d (asset_said (asset_text s.asset) ∷ words_unless_identity b s.offset) (behind_offset b) (Has (done ++ s ∷ []))
      by true is =
          asset_then done s [] (behind_offset true) (Has (done ++ s ∷ [])) d h
          (λ e k. taken_nothing (behind_offset true) e (Has (done ++ s ∷ [])) (subst (λ o. Has (done ++ record s { offset = o } ∷ []) e) (sym (identity_is s.offset is)) k))
      by false is =
          asset_then done s (words_unless_identity false s.offset) (behind_offset false) (Has (done ++ s ∷ [])) d h
          (λ e k.
          above (symbol.MaybeOffsets ∷ []) [] (symbol.MoreSubLayers ∷ []) e (words_unless_identity false s.offset) (Has (done ++ s ∷ []))
          (subst (λ e. AreTaken (symbol.MaybeOffsets ∷ []) e (words_unless_identity false s.offset) [] (Has (done ++ s ∷ []))) (is_last done s e k)
          (offset_taken (last_with e done s) (λ o l. k.1.shut) (λ o l m. refl) (number_acts e done s) s.offset e.offset_key (Has (done ++ s ∷ [])) kept
          (refl, record { stands = ap (λ (p : Standing). record p { sublayers = done ++ s ∷ [] }) (k.1).stands; free = k.1.free; shut = k.1.shut; shallow = k.1.shallow }))))

  no_more : (s : SubLayer) (e : Draft) (x : Said) (to : List Symbol) (After : Draft → Type 0) → starts symbol.MaybeOffsets (as_word x).kind ≡ None → AreTaken (symbol.MoreSubLayers ∷ []) e (x ∷ []) to After
      → AreTaken (behind_offset (is_identity s.offset)) e (x ∷ []) to After
  no_more s e x to After none h = by (is_identity s.offset)
    where
      by : (b : Bool) → AreTaken (behind_offset b) e (x ∷ []) to After
      by true = past symbol.MaybeOffsets (symbol.MoreSubLayers ∷ []) to e x [] After refl none h
      by false = h

  sublayers_read : IsListRead sublayer_words IsSublayerKept symbol.SubLayerList symbol.SubLayersOrEnd (λ s. behind_offset (is_identity s.offset)) (Has []) Has Has
  unfolding bodies_act prims_act layers_act
  sublayers_read = record {
    opens = λ d h. last_word (symbol.SubLayerList ∷ []) (symbol.SubLayersOrEnd ∷ []) symbol.SubLayerList d d open_bracket (Has []) h.1.shut (λ below. refl) (λ w. refl) h;
    item = λ done s d kept h. item_taken done s d kept h;
    parts = λ done s d h.
        no_more s d comma (symbol.SubLayersOrEnd ∷ []) (Has done) refl (last_word (symbol.MoreSubLayers ∷ []) (symbol.SubLayersOrEnd ∷ []) symbol.MoreSubLayers d d comma (Has done) h.1.shut (λ below. refl) (λ w. refl) h);
    ends = λ done s d h. no_more s d close_bracket [] (Has done) refl (last_word (symbol.MoreSubLayers ∷ []) [] symbol.MoreSubLayers d d close_bracket (Has done) h.1.shut (λ below. refl) (λ w. refl) h);
  }

pub sublayers_taken : AreSublayersRead
unfolding bodies_act prims_act layers_act head_item_act sublayers_act
sublayers_taken [] at kept = no_items symbol.HeadItems (IsAt (with_sublayers [] false at)) (IsAt (with_sublayers [] false at)) (λ d h. h)
sublayers_taken (x ∷ xs) at kept =
    let back : List Symbol = symbol.MaybeSemicolon ∷ symbol.HeadItems ∷ [] in
    let After : Draft → Type 0 = IsAt (with_sublayers (x ∷ xs) true at) in
    let list : List Said = bracketed_words sublayer_words (x ∷ xs) in
    one_item symbol.HeadItems (name_said (codes "subLayers")) (equals ∷ list) (IsAt (with_sublayers [] false at)) After refl
    (λ d h.
    together (symbol.HeadItems ∷ []) (symbol.Equals ∷ symbol.SubLayerList ∷ back) back d (name_said (codes "subLayers") ∷ []) (equals ∷ list) (Has at []) After
    (word_taken (symbol.HeadItems ∷ []) (symbol.Equals ∷ symbol.SubLayerList ∷ back) symbol.HeadItems d (name_said (codes "subLayers")) (Has at []) h.shut (λ below. refl)
    (λ w. (
      record d { has_sublayers = true; list = open_list_of.SubLayers },
      (refl, record { stands = ap (λ (p : Standing). record p { has_sublayers = true }) h.stands; free = h.free; shut = h.shut; shallow = h.shallow }),
      ap (λ (p : Standing). if p.has_sublayers then Err (refused DuplicateSpec w.start) else Ok (record d { has_sublayers = true; list = open_list_of.SubLayers })) h.stands,
    )))
    (λ e k.
    together (symbol.Equals ∷ symbol.SubLayerList ∷ back) (symbol.SubLayerList ∷ back) back e (equals ∷ []) list (Has at []) After (equals_taken (symbol.SubLayerList ∷ back) e k.1.shut (Has at []) k)
    (λ f m.
    above (symbol.SubLayerList ∷ []) [] back f list After
    (weaker (symbol.SubLayerList ∷ []) [] f list (Has at (x ∷ xs)) After
    (bracketed_taken sublayer_words IsSublayerKept symbol.SubLayerList symbol.SubLayersOrEnd (λ s. behind_offset (is_identity s.offset)) (Has at []) (Has at) (Has at) (sublayers_read at) x xs f kept m) (λ g n. n.1)))))

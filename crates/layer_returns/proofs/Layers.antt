-- A whole layer, from the first word of its canonical text to the last.
use Rattle.std.proofs.Common.{◌≡◌, ◌∙◌, ◌&&◌, Bool, true, false, List, [], ◌∷◌, ◌++◌, append_assoc, append-nil, map, length, Option, None, Ok, ap, sym, refl, subst}
use Rattle.std.specs.Prelude.{codes}
use Rattle.sdf_specs.specs.Layers.{LayerTable}
use Rattle.spec_parts.specs.declared.items.Specifier.TheVariants.{Over}
use Rattle.spec_parts.specs.declared.spec.Head.{Head}
use Rattle.usda_fields.specs.Owners.{owner_at, with_meta}
use Rattle.usda_fields.specs.declared.owner.OwnerDraft.{OwnerDraft}
use Rattle.usda_grammar.specs.Machine.{is_done}
use Rattle.usda_grammar.specs.Table as grammar
use Rattle.usda_grammar.specs.Table.{starts, may_be_absent}
use Rattle.usda_grammar.specs.declared.kinds.WordKind.{WordKind}
use Rattle.usda_grammar.specs.declared.kinds.WordKind.TheVariants as token
use Rattle.usda_grammar.specs.declared.symbols.Symbol.{Symbol}
use Rattle.usda_grammar.specs.declared.symbols.Symbol.TheVariants as symbol
use Rattle.usda_machine.specs.Reading.{run, at_end}
use Rattle.usda_words.specs.Words.{Word, words_of, word_kind}
use Rattle.usda_writer.specs.Canonical.{canonical, with_default_prim}
use Rattle.usda_drafts.specs.Acts.{act, bodies_act, prims_act, layers_act}
use Rattle.usda_drafts.specs.Drafts.{blank, layer_by, layer_of}
use Rattle.usda_drafts.specs.Owners.{owner_of}
use Rattle.usda_drafts.specs.declared.draft.Draft.{Draft}
use Rattle.usda_drafts.specs.declared.fault.Refused.{Refused}
use Rattle.value_texts.specs.Cuts.{Said}
use Rattle.value_texts.specs.ValueWords.{open_paren, close_paren}
use Rattle.value_texts.specs.Words.{told_of, as_word}
use Rattle.value_texts.specs.Each.{AreAll}
use Rattle.layer_texts.specs.FieldWords.{block_words, meta_words, sublayers_words}
use Rattle.layer_texts.specs.LayerWords.{head_words, order_words, children_words, body_words, layer_words}
use Rattle.layer_texts.proofs.Layers.{all_told, layer_spelled}
use Rattle.layer_reads.specs.Taking.{AreTaken}
use Rattle.layer_reads.proofs.Taking.{taken_nothing, together, above}
use Rattle.layer_reads.specs.Items.{begins_item, IsLeft, Left, AreItems}
use Rattle.layer_reads.specs.Standing.{Standing, saying, IsAt}
use Rattle.layer_reads.proofs.Items.{items_both, nothing_left, step_left}
use Rattle.layer_reads.proofs.OwnerMeta.{head_meta}
use Rattle.layer_reads.proofs.Sublayers.{sublayers_taken}
use Rattle.layer_reads.proofs.Words.{word_then, last_word}
use Rattle.layer_reads.proofs.Bodies.{layer_orders}
use Rattle.layer_returns.specs.Layers.{at_start, behind_head, behind_front, IsHeadKept, behind_layer, IsLayerKept, AreLayersTaken, layer_at, AreTextsTaken}
use Rattle.layer_returns.proofs.Trees.{roots_read}

-- ---- the head

head_symbol : IsLeft symbol.MaybeHead
head_symbol = record { absent = refl; begins_none = none }
  where
    none : (k : WordKind) → begins_item k ≡ true → starts symbol.MaybeHead k ≡ None
    none (token.Word w) h = refl
    none token.Quoted h = refl
    none token.CloseBrace h = refl
    none token.CloseParen h = refl
    none _ h = absurd cc

-- what is open still behind the head
abbrev head_left : List Said → Left
head_left [] = record { symbols = symbol.MaybeHead ∷ []; each = (head_symbol, tt) }
head_left (x ∷ words) = nothing_left

block_taken : (words : List Said) (a b : Standing) (d : Draft) → AreItems symbol.HeadItems words (IsAt a) (IsAt b) → IsAt a d
    → AreTaken grammar.layer d (block_words words) ((head_left words).symbols ++ symbol.RootStatements ∷ []) (IsAt b)
unfolding bodies_act prims_act layers_act
block_taken [] a b d items h = taken_nothing grammar.layer d (IsAt b) (items.unsaid refl d h)
block_taken (x ∷ words) a b d items h =
    let back : List Symbol = symbol.CloseParen ∷ symbol.RootStatements ∷ [] in
    let l : Left = items.left nothing_left in
    word_then grammar.layer (symbol.HeadItems ∷ back) (symbol.RootStatements ∷ []) symbol.MaybeHead d d open_paren _ (IsAt b) h.shut (λ below. refl) (λ w. refl)
    (together (symbol.HeadItems ∷ back) ((l.symbols ++ symbol.HeadItems ∷ []) ++ back) (symbol.RootStatements ∷ []) d (x ∷ words) (close_paren ∷ []) (IsAt b) (IsAt b)
    (above (symbol.HeadItems ∷ []) (l.symbols ++ symbol.HeadItems ∷ []) back d (x ∷ words) (IsAt b) (items.taken nothing_left d h))
    (λ e k.
    last_word ((l.symbols ++ symbol.HeadItems ∷ []) ++ back) (symbol.RootStatements ∷ []) symbol.CloseParen e e close_paren (IsAt b) k.shut
    (λ below. step_left l.symbols symbol.HeadItems back below (as_word close_paren).kind l.each refl) (λ w. refl) k))

abbrev Root : OwnerDraft
Root = owner_at [] Over

head_items : (head : Head) → IsHeadKept head → AreItems symbol.HeadItems (head_words head) (IsAt at_start) (IsAt (behind_head head))
unfolding owner_of
head_items head kept =
    let keys : List Said = meta_words (with_default_prim head.default_prim head.meta) in
    let said : Standing = saying (with_meta (with_default_prim head.default_prim head.meta) Root) at_start in
    items_both symbol.HeadItems keys (sublayers_words head.sublayers) (IsAt at_start) (IsAt said) (IsAt (behind_head head)) (head_meta (with_default_prim head.default_prim head.meta) Root at_start kept.meta) (sublayers_taken head.sublayers said kept.sublayers)

-- ---- the layer

start_is : IsAt at_start blank
unfolding blank
start_is = record { stands = refl; free = refl; shut = refl; shallow = refl }

said_is : (layer : LayerTable) → layer_words layer
    ≡ block_words (head_words layer.head) ++ (order_words (codes "rootPrims") layer.head.root_order ++ children_words layer.specs (body_words layer.specs (length layer.specs)) [] layer.head.root_names)
unfolding layer_words
said_is layer = append_assoc (block_words (head_words layer.head)) (order_words (codes "rootPrims") layer.head.root_order) (children_words layer.specs (body_words layer.specs (length layer.specs)) [] layer.head.root_names)

-- the text may end there
done : (ss : List Symbol) → AreAll IsLeft ss → is_done ((ss ++ symbol.RootStatements ∷ []) ++ []) ≡ true
done [] each = refl
done (s ∷ ss) each = by (may_be_absent s) each.0.absent (done ss each.1)
  where
    by : (b : Bool) → b ≡ true → is_done ((ss ++ symbol.RootStatements ∷ []) ++ []) ≡ true → (b && is_done ((ss ++ symbol.RootStatements ∷ []) ++ [])) ≡ true
    by true h more = more
    by false h more = absurd cc

module _ (layer : LayerTable) (kept : IsLayerKept layer) where
  abbrev Order : List Said
  Order = order_words (codes "rootPrims") layer.head.root_order

  abbrev Roots : List Said
  Roots = children_words layer.specs (body_words layer.specs (length layer.specs)) [] layer.head.root_names

  statements : AreItems symbol.RootStatements (Order ++ Roots) (IsAt (behind_head layer.head)) (IsAt (behind_layer layer))
  statements =
      items_both symbol.RootStatements Order Roots (IsAt (behind_head layer.head)) (IsAt (behind_front layer.head)) (IsAt (behind_layer layer))
      (layer_orders layer.head.root_order (with_meta (with_default_prim layer.head.default_prim layer.head.meta) Root) (behind_head layer.head) kept.head.order)
      (roots_read layer.specs (length layer.specs) [] layer.head.root_names (behind_front layer.head) kept.prims)

  abbrev Begun : Left
  Begun = head_left (head_words layer.head)

  abbrev Ended : Left
  Ended = statements.left Begun

  taken : AreTaken grammar.layer blank (layer_words layer) (Ended.symbols ++ symbol.RootStatements ∷ []) (IsAt (behind_layer layer))
  taken =
      subst (λ l. AreTaken grammar.layer blank l (Ended.symbols ++ symbol.RootStatements ∷ []) (IsAt (behind_layer layer))) (sym (said_is layer))
      (together grammar.layer (Begun.symbols ++ symbol.RootStatements ∷ []) (Ended.symbols ++ symbol.RootStatements ∷ []) blank (block_words (head_words layer.head)) (Order ++ Roots) (IsAt (behind_head layer.head)) (IsAt (behind_layer layer))
      (block_taken (head_words layer.head) at_start (behind_head layer.head) blank (head_items layer.head kept.head) start_is) (λ e k. statements.taken Begun e k))

  read : (ws : List Word) → map told_of ws ≡ map as_word (layer_words layer) → (refused_as : Option Word → Refused)
      → (d : Draft) × IsAt (behind_layer layer) d × (run word_kind act refused_as grammar.layer blank ws ≡ Ok d)
  read ws told refused_as =
      let t = taken.taken ws told in (
        t.0,
        t.1,
        ap (run word_kind act refused_as grammar.layer blank) (sym (append-nil ws)) ∙ (t.2).goes refused_as [] [] ∙ ap (λ b. at_end word_kind act refused_as b t.0) (done Ended.symbols Ended.each),
      )

pub layers_taken : AreLayersTaken
layers_taken = read

-- ---- its canonical text

same_layer : (s : Standing) (d : Draft) → IsAt s d → layer_of d ≡ layer_at s
unfolding layer_of layer_by
same_layer s d h = ap layer_at h.stands

pub texts_taken : AreTextsTaken
texts_taken layer writable kept refused_as =
    let t = layers_taken layer kept (words_of (canonical layer)) (all_told (canonical layer) (layer_words layer) (layer_spelled layer writable)) refused_as in
    (t.0, t.2, same_layer (behind_layer layer) t.0 t.1)

-- The first word of a statement, and orders of names.
use Rattle.std.proofs.Common.{◌≡◌, ◌∙◌, ℕ, true, false, List, [], ◌∷◌, ◌++◌, append_assoc, Some, Ok, ap, sym, refl}
use Rattle.std.specs.Prelude.{codes}
use Rattle.std.specs.Str.{is_utf8}
use Rattle.sdf_values.specs.Print.{quoted}
use Rattle.usda_fields.specs.Names.{if_utf8}
use Rattle.usda_fields.specs.Owners as owner
use Rattle.usda_fields.specs.Owners.{push_ordered}
use Rattle.usda_fields.specs.declared.owner.OrderWord.{OrderWord}
use Rattle.usda_fields.specs.declared.owner.OrderWord.TheVariants.{NameChildren, PropertyNames}
use Rattle.usda_fields.specs.declared.owner.OwnerDraft.{OwnerDraft}
use Rattle.usda_grammar.specs.Machine.{step}
use Rattle.usda_grammar.specs.declared.symbols.Symbol.{Symbol}
use Rattle.usda_grammar.specs.declared.symbols.Symbol.TheVariants as symbol
use Rattle.usda_lists.specs.Acts.{and_then}
use Rattle.usda_words.specs.Words.{Word}
use Rattle.usda_drafts.specs.Acts.{bodies_act, prims_act, layers_act}
use Rattle.usda_drafts.specs.Bodies.{body_act, statement_act, after_reorder_act}
use Rattle.usda_drafts.specs.Metadata.{root_act, root_order_act, order_act, ordered_by, in_order, order_name_act}
use Rattle.usda_drafts.specs.Owners.{settled}
use Rattle.usda_drafts.specs.Prims.{with_statement_over}
use Rattle.usda_drafts.specs.Refusals.{then_with}
use Rattle.usda_drafts.specs.Values.{with_said}
use Rattle.usda_drafts.specs.declared.draft.Draft.{Draft}
use Rattle.value_texts.specs.Cuts.{Said}
use Rattle.value_texts.specs.ValueWords.{name_said, string_said, comma, open_bracket, close_bracket, equals}
use Rattle.value_texts.specs.Words.{as_word}
use Rattle.value_texts.proofs.StringTokens.{string_means}
use Rattle.value_texts.specs.Each.{AreAll}
use Rattle.layer_texts.specs.LayerWords.{order_words}
use Rattle.layer_texts.specs.ListWords.{string_words, bracketed_words}
use Rattle.layer_reads.specs.Lists.{IsListRead}
use Rattle.layer_reads.specs.Taking.{AreTaken}
use Rattle.layer_reads.proofs.Lists.{bracketed_taken}
use Rattle.layer_reads.proofs.Taking.{together, above, weaker}
use Rattle.layer_reads.specs.Bodies.{Rests, order_name, with_order}
use Rattle.layer_reads.specs.Items.{begins_item, Left, AreItems}
use Rattle.layer_reads.specs.Kept.{has_items}
use Rattle.layer_reads.specs.Standing.{Standing, standing_of, saying, IsAt}
use Rattle.layer_reads.proofs.EditedLists.{said_at, equals_taken}
use Rattle.layer_reads.proofs.Items.{no_items, one_item, item_with, semicolon_left}
use Rattle.layer_reads.proofs.Words.{saying_word, word_taken, last_word}

-- a draft with no property in hand is between two statements
pub at_rest : (s : Standing) (d : Draft) → IsAt s d → Rests s d
unfolding with_statement_over settled
at_rest s d h = record { stands = ap (λ p. standing_of (record d { owner = settled p d.owner })) h.free ∙ h.stands; shut = h.shut; shallow = h.shallow }

-- once the statement is over, no property is in hand
pub over : (s : Standing) (d : Draft) → Rests s d → IsAt s (with_statement_over d)
unfolding with_statement_over
over s d h = record { stands = h.stands; free = refl; shut = h.shut; shallow = h.shallow }

-- a statement by its first word, behind which this is left
pub statement_with : (s : Standing) (x : Said) (said : List Said) (mid : List Symbol) (to : Left) (Is After : Draft → Type 0) → begins_item (as_word x).kind ≡ true
    → ((below : List Symbol) → step (symbol.PrimBody ∷ below) (as_word x).kind ≡ Some (symbol.PrimBody, mid ++ symbol.MaybeSemicolon ∷ symbol.PrimBody ∷ below))
    → ((w : Word) (d : Draft) → IsAt s d → (next : Draft) × Is next × (statement_act (as_word x).kind (saying_word x w) d ≡ Ok next))
    → ((d : Draft) → Is d → AreTaken (mid ++ symbol.MaybeSemicolon ∷ symbol.PrimBody ∷ []) d said (to.symbols ++ symbol.PrimBody ∷ []) After) → AreItems symbol.PrimBody (x ∷ said) (Rests s) After
unfolding bodies_act body_act
statement_with s x said mid to Is After begins goes acts rest =
    let back : List Symbol = symbol.MaybeSemicolon ∷ symbol.PrimBody ∷ [] in
    item_with symbol.PrimBody x said (Rests s) After to begins
    (λ d h.
    together (symbol.PrimBody ∷ []) (mid ++ back) (to.symbols ++ symbol.PrimBody ∷ []) d (x ∷ []) said Is After
    (word_taken (symbol.PrimBody ∷ []) (mid ++ back) symbol.PrimBody d x Is h.shut (λ below. goes below ∙ ap (λ l. Some (symbol.PrimBody, l)) (sym (append_assoc mid back below))) (λ w. acts w (with_statement_over d) (over s d h)))
    rest)

pub statement_items : (s : Standing) (x : Said) (said : List Said) (mid : List Symbol) (Is After : Draft → Type 0) → begins_item (as_word x).kind ≡ true
    → ((below : List Symbol) → step (symbol.PrimBody ∷ below) (as_word x).kind ≡ Some (symbol.PrimBody, mid ++ symbol.MaybeSemicolon ∷ symbol.PrimBody ∷ below))
    → ((w : Word) (d : Draft) → IsAt s d → (next : Draft) × Is next × (statement_act (as_word x).kind (saying_word x w) d ≡ Ok next)) → ((d : Draft) → Is d → AreTaken mid d said [] After)
    → AreItems symbol.PrimBody (x ∷ said) (Rests s) After
statement_items s x said mid Is After begins goes acts rest =
    statement_with s x said mid semicolon_left Is After begins goes acts (λ e k. above mid [] (symbol.MaybeSemicolon ∷ symbol.PrimBody ∷ []) e said After (rest e k))

-- ---- orders

module _ (word : OrderWord) (s : OwnerDraft) (at : Standing) where
  abbrev Has : List (List ℕ) → Draft → Type 0
  Has done d = (d.order ≡ word) × IsAt (saying (with_order word done true s) at) d

  ordered : (w : Word) (d : Draft) → IsAt (saying (with_order word [] false s) at) d → (next : Draft) × Has [] next × (ordered_by word w.start d ≡ Ok next)
  unfolding ordered_by
  ordered w d h =
      let said : d.owner.said ≡ with_order word [] false s = ap (λ (a : Standing). a.owner.said) h.stands in (
        in_order word d (with_order word [] true s),
        (refl, record { stands = ap (saying (with_order word [] true s)) h.stands; free = h.free; shut = h.shut; shallow = h.shallow }),
        ap (λ u. then_with w.start (owner.order_act word u) (in_order word d)) said ∙ ap (λ r. then_with w.start r (in_order word d)) (given word),
      )
    where
      given : (word : OrderWord) → owner.order_act word (with_order word [] false s) ≡ Ok (with_order word [] true s)
      given NameChildren = refl
      given PropertyNames = refl

  pushed : (word : OrderWord) (done : List (List ℕ)) (x : List ℕ) → push_ordered word x (with_order word done true s) ≡ with_order word (done ++ x ∷ []) true s
  pushed NameChildren done x = refl
  pushed PropertyNames done x = refl

  name_acts : (w : Word) (d : Draft) (done : List (List ℕ)) (x : List ℕ) → is_utf8 x ≡ true → Has done d
      → order_name_act (as_word (string_said (quoted x))).kind (saying_word (string_said (quoted x)) w) d ≡ Ok (with_said d (with_order word (done ++ x ∷ []) true s))
  unfolding order_name_act
  name_acts w d done x utf8 h =
      ap (λ o. then_with w.start (owner.ordered_act o (quoted x) d.owner.said) (with_said d)) h.0
      ∙ ap (λ o. then_with w.start (and_then (if_utf8 o) (λ name. Ok (push_ordered word name d.owner.said))) (with_said d)) (string_means x utf8)
      ∙ ap (λ u. Ok (with_said d (push_ordered word x u))) (ap (λ (a : Standing). a.owner.said) (h.1).stands)
      ∙ ap (λ u. Ok (with_said d u)) (pushed word done x)

  names_read : IsListRead string_words (λ t. is_utf8 t ≡ true) symbol.NameList symbol.NamesOrEnd (λ x. symbol.MoreNames ∷ []) (Has []) Has Has
  unfolding bodies_act prims_act layers_act
  names_read = record {
    opens = λ d h. last_word (symbol.NameList ∷ []) (symbol.NamesOrEnd ∷ []) symbol.NameList d d open_bracket (Has []) h.1.shut (λ below. refl) (λ w. refl) h;
    item = λ done x d utf8 h.
        word_taken (symbol.NamesOrEnd ∷ []) (symbol.MoreNames ∷ []) symbol.NamesOrEnd d (string_said (quoted x)) (Has (done ++ x ∷ [])) h.1.shut (λ below. refl)
        (λ w. (
          with_said d (with_order word (done ++ x ∷ []) true s),
          (h.0, said_at (with_order word done true s) (with_order word (done ++ x ∷ []) true s) at d h.1),
          name_acts w d done x utf8 h,
        ));
    parts = λ done x d h. last_word (symbol.MoreNames ∷ []) (symbol.NamesOrEnd ∷ []) symbol.MoreNames d d comma (Has done) h.1.shut (λ below. refl) (λ w. refl) h;
    ends = λ done x d h. last_word (symbol.MoreNames ∷ []) [] symbol.MoreNames d d close_bracket (Has done) h.1.shut (λ below. refl) (λ w. refl) h;
  }

  -- `=` and the names
  names_taken : (x : List ℕ) (xs : List (List ℕ)) (d : Draft) → AreAll (λ t. is_utf8 t ≡ true) (x ∷ xs) → Has [] d
      → AreTaken (symbol.Equals ∷ symbol.NameList ∷ []) d (equals ∷ bracketed_words string_words (x ∷ xs)) [] (IsAt (saying (with_order word (x ∷ xs) true s) at))
  names_taken x xs d utf8 h =
      together (symbol.Equals ∷ symbol.NameList ∷ []) (symbol.NameList ∷ []) [] d (equals ∷ []) (bracketed_words string_words (x ∷ xs)) (Has []) (IsAt (saying (with_order word (x ∷ xs) true s) at))
      (equals_taken (symbol.NameList ∷ []) d h.1.shut (Has []) h)
      (λ e k.
      weaker (symbol.NameList ∷ []) [] e (bracketed_words string_words (x ∷ xs)) (Has (x ∷ xs)) (IsAt (saying (with_order word (x ∷ xs) true s) at))
      (bracketed_taken string_words (λ t. is_utf8 t ≡ true) symbol.NameList symbol.NamesOrEnd (λ x. symbol.MoreNames ∷ []) (Has []) Has Has names_read x xs e utf8 k) (λ f m. m.1))

  -- `reorder` and the word of the order in a body
  body_order : (x : List ℕ) (xs : List (List ℕ)) → AreAll (λ t. is_utf8 t ≡ true) (x ∷ xs)
      → AreItems symbol.PrimBody (order_words (order_name word) (x ∷ xs)) (Rests (saying (with_order word [] false s) at)) (Rests (saying (with_order word (x ∷ xs) true s) at))
  unfolding statement_act bodies_act after_reorder_act order_act
  body_order x xs utf8 =
      statement_items (saying (with_order word [] false s) at) (name_said (codes "reorder")) (name_said (order_name word) ∷ equals ∷ bracketed_words string_words (x ∷ xs)) (symbol.AfterReorder ∷ [])
      (IsAt (saying (with_order word [] false s) at)) (Rests (saying (with_order word (x ∷ xs) true s) at)) refl (λ below. refl)
      (λ w d h. (_, record { stands = h.stands; free = h.free; shut = h.shut; shallow = h.shallow }, refl))
      (λ d h.
      together (symbol.AfterReorder ∷ []) (symbol.Equals ∷ symbol.NameList ∷ []) [] d (name_said (order_name word) ∷ []) (equals ∷ bracketed_words string_words (x ∷ xs)) (Has []) (Rests (saying (with_order word (x ∷ xs) true s) at))
      (word_taken (symbol.AfterReorder ∷ []) (symbol.Equals ∷ symbol.NameList ∷ []) symbol.AfterReorder d (name_said (order_name word)) (Has []) h.shut (goes word)
      (λ w. let o = ordered w d h in (o.0, o.1, acts word w d ∙ o.2)))
      (λ e k.
      weaker (symbol.Equals ∷ symbol.NameList ∷ []) [] e (equals ∷ bracketed_words string_words (x ∷ xs)) (IsAt (saying (with_order word (x ∷ xs) true s) at)) (Rests (saying (with_order word (x ∷ xs) true s) at)) (names_taken x xs e utf8 k)
      (at_rest (saying (with_order word (x ∷ xs) true s) at))))
    where
      goes : (word : OrderWord) (below : List Symbol) → step (symbol.AfterReorder ∷ below) (as_word (name_said (order_name word))).kind ≡ Some (symbol.AfterReorder, symbol.Equals ∷ symbol.NameList ∷ below)
      goes NameChildren below = refl
      goes PropertyNames below = refl

      acts : (word : OrderWord) (w : Word) (d : Draft) → bodies_act symbol.AfterReorder (saying_word (name_said (order_name word)) w) d ≡ ordered_by word w.start d
      acts NameChildren w d = refl
      acts PropertyNames w d = refl

pub body_orders : (word : OrderWord) (names : List (List ℕ)) (s : OwnerDraft) (at : Standing) → AreAll (λ t. is_utf8 t ≡ true) names
    → AreItems symbol.PrimBody (order_words (order_name word) names) (Rests (saying (with_order word [] false s) at)) (Rests (saying (with_order word names (has_items names) s) at))
body_orders word [] s at utf8 = no_items symbol.PrimBody (Rests (saying (with_order word [] false s) at)) (Rests (saying (with_order word [] false s) at)) (λ d h. h)
body_orders word (x ∷ xs) s at utf8 = body_order word s at x xs utf8

pub layer_orders : (names : List (List ℕ)) (s : OwnerDraft) (at : Standing) → AreAll (λ t. is_utf8 t ≡ true) names
    → AreItems symbol.RootStatements (order_words (codes "rootPrims") names) (IsAt (saying (with_order NameChildren [] false s) at)) (IsAt (saying (with_order NameChildren names (has_items names) s) at))
unfolding bodies_act prims_act layers_act root_act root_order_act
layer_orders [] s at utf8 = no_items symbol.RootStatements (IsAt (saying (with_order NameChildren [] false s) at)) (IsAt (saying (with_order NameChildren [] false s) at)) (λ d h. h)
layer_orders (x ∷ xs) s at utf8 =
    let back : List Symbol = symbol.MaybeSemicolon ∷ symbol.RootStatements ∷ [] in
    let Begun : Draft → Type 0 = IsAt (saying (with_order NameChildren [] false s) at) in
    let After : Draft → Type 0 = IsAt (saying (with_order NameChildren (x ∷ xs) true s) at) in
    one_item symbol.RootStatements (name_said (codes "reorder")) (name_said (codes "rootPrims") ∷ equals ∷ bracketed_words string_words (x ∷ xs)) Begun After refl
    (λ d h.
    together (symbol.RootStatements ∷ []) (symbol.RootPrims ∷ symbol.Equals ∷ symbol.NameList ∷ back) back d (name_said (codes "reorder") ∷ []) (name_said (codes "rootPrims") ∷ equals ∷ bracketed_words string_words (x ∷ xs)) Begun After
    (last_word (symbol.RootStatements ∷ []) (symbol.RootPrims ∷ symbol.Equals ∷ symbol.NameList ∷ back) symbol.RootStatements d d (name_said (codes "reorder")) Begun h.shut (λ below. refl) (λ w. refl) h)
    (λ e k.
    together (symbol.RootPrims ∷ symbol.Equals ∷ symbol.NameList ∷ back) (symbol.Equals ∷ symbol.NameList ∷ back) back e (name_said (codes "rootPrims") ∷ []) (equals ∷ bracketed_words string_words (x ∷ xs)) (Has NameChildren s at []) After
    (word_taken (symbol.RootPrims ∷ symbol.Equals ∷ symbol.NameList ∷ back) (symbol.Equals ∷ symbol.NameList ∷ back) symbol.RootPrims e (name_said (codes "rootPrims")) (Has NameChildren s at []) k.shut (λ below. refl) (λ w. ordered NameChildren s at w e k))
    (λ f m. above (symbol.Equals ∷ symbol.NameList ∷ []) [] back f (equals ∷ bracketed_words string_words (x ∷ xs)) After (names_taken NameChildren s at x xs f utf8 m))))

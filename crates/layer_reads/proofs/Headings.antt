-- The words before the name of a property: the edit word, the flags, and the type or `rel`.
use Rattle.std.proofs.Common.{◌≡◌, ◌∙◌, ℕ, Bool, true, false, List, [], ◌∷◌, ◌++◌, append_assoc, Some, None, Ok, ap, sym, refl}
use Rattle.std.specs.Prelude.{if◌then◌else◌, codes}
use Rattle.sdf_values.proofs.Elements.{type_is_found}
use Rattle.sdf_values.specs.TypeNames.{element_name}
use Rattle.sdf_values.specs.declared.type_name.ElementType.{ElementType}
use Rattle.sdf_values.specs.declared.type_name.TypeName.{TypeName}
use Rattle.usda_grammar.specs.Machine.{step}
use Rattle.usda_grammar.specs.Words.{keyword_of}
use Rattle.usda_grammar.specs.declared.kinds.Keyword.TheVariants as keyword
use Rattle.usda_grammar.specs.declared.kinds.WordKind.TheVariants as token
use Rattle.usda_grammar.specs.declared.symbols.Symbol.{Symbol}
use Rattle.usda_grammar.specs.declared.symbols.Symbol.TheVariants as symbol
use Rattle.usda_lists.specs.declared.edit.ListEdit.{ListEdit}
use Rattle.usda_lists.specs.declared.edit.ListEdit.TheVariants.{Explicit, Delete, Add, Prepend, Append, Reorder}
use Rattle.usda_statements.specs.Headings.{begun, as_relationship, with_brackets, of_element, one_of}
use Rattle.usda_statements.specs.declared.heading.Heading.{Heading}
use Rattle.usda_words.specs.Words.{Word}
use Rattle.usda_drafts.specs.Acts.{bodies_act, prims_act, layers_act}
use Rattle.usda_drafts.specs.Bodies.{headed, type_act, after_variability_act, after_custom_act, after_edit_act, after_reorder_act, statement_act, brackets_act}
use Rattle.usda_drafts.specs.Refusals.{then_with}
use Rattle.usda_drafts.specs.declared.draft.Draft.{Draft}
use Rattle.value_texts.specs.Cuts.{Said}
use Rattle.value_texts.specs.ValueWords.{name_said, type_said, open_bracket, close_bracket}
use Rattle.layer_texts.specs.PropertyWords.{flag_words}
use Rattle.layer_reads.specs.Taking.{AreTaken}
use Rattle.layer_reads.proofs.Taking.{together}
use Rattle.layer_reads.proofs.TypeWords.{type_word}
use Rattle.layer_reads.specs.Items.{Left, AreItems}
use Rattle.layer_reads.specs.Standing.{Standing, IsAt}
use Rattle.layer_reads.proofs.EditChain.{word_of, is_edit}
use Rattle.layer_reads.proofs.Words.{saying_word, word_taken, past}
use Rattle.layer_reads.specs.Bodies.{Rests}
use Rattle.layer_reads.proofs.Bodies.{statement_with}
use Rattle.layer_reads.proofs.Hands.{Headed}

abbrev heading_of : ListEdit → Bool → Bool → Heading
heading_of edit custom uniform = record { edit = edit; custom = custom; uniform = uniform; ty = None }

pub headed_at : (at : Standing) (h : Heading) (d : Draft) → IsAt at d → Headed at h (headed h d)
headed_at at h d is = record { is_at = record { stands = is.stands; free = is.free; shut = is.shut; shallow = is.shallow }; heading = refl }

-- behind a statement
abbrev pub Back : List Symbol
Back = symbol.MaybeSemicolon ∷ symbol.PrimBody ∷ []

-- the word of a type
typed : (e : ElementType) (w : Word) (d : Draft) → type_act (record w { text = element_name e }) d ≡ Ok (headed (record d.heading { ty = Some (one_of e) }) d)
unfolding type_act
typed e w d = ap (λ o. then_with w.start (of_element o d.heading) (λ h. headed h d)) (type_is_found e)

module _ (at : Standing) (name : List ℕ) (said : List Said) (to : List Symbol) (After : Draft → Type 0) where
  -- what is to be shown of the words from the name on, by the words before it
  abbrev Goes : Heading → List Symbol → Type 0
  Goes h rest = (d : Draft) → Headed at h d → AreTaken (symbol.PropertyName ∷ rest) d (name_said name ∷ said) to After

  -- brackets behind the type
  brackets_then : (h : Heading) (e : ElementType) (array : Bool) (rest : List Symbol) (d : Draft) → Headed at (record h { ty = Some (one_of e) }) d → Goes (record h { ty = Some (record { element = e; array = array }) }) rest
      → AreTaken (symbol.MaybeBrackets ∷ symbol.PropertyName ∷ rest) d ((if array then open_bracket ∷ close_bracket ∷ [] else []) ++ name_said name ∷ said) to After
  unfolding bodies_act prims_act layers_act brackets_act
  brackets_then h e false rest d headed goes = past symbol.MaybeBrackets (symbol.PropertyName ∷ rest) to d (name_said name) said After refl refl (goes d headed)
  brackets_then h e true rest d headed goes =
      let H : Draft → Type 0 = Headed at (record h { ty = Some (record { element = e; array = true }) }) in
      together (symbol.MaybeBrackets ∷ symbol.PropertyName ∷ rest) (symbol.CloseBracket ∷ symbol.PropertyName ∷ rest) to d (open_bracket ∷ []) (close_bracket ∷ name_said name ∷ said) H After
      (word_taken (symbol.MaybeBrackets ∷ symbol.PropertyName ∷ rest) (symbol.CloseBracket ∷ symbol.PropertyName ∷ rest) symbol.MaybeBrackets d open_bracket H headed.is_at.shut (λ below. refl)
      (λ w. (
        record d { heading = with_brackets d.heading },
        record {
          is_at = record { stands = headed.is_at.stands; free = headed.is_at.free; shut = headed.is_at.shut; shallow = headed.is_at.shallow };
          heading = ap with_brackets headed.heading;
        },
        refl,
      )))
      (λ x k.
      together (symbol.CloseBracket ∷ symbol.PropertyName ∷ rest) (symbol.PropertyName ∷ rest) to x (close_bracket ∷ []) (name_said name ∷ said) H After
      (word_taken (symbol.CloseBracket ∷ symbol.PropertyName ∷ rest) (symbol.PropertyName ∷ rest) symbol.CloseBracket x close_bracket H k.is_at.shut (λ below. refl) (λ w. (x, k, refl))) goes)

  -- a symbol that takes the word of a type
  record TakesType (s : Symbol) (tail : List Symbol) : Type 0 where
    starts_it : (below : List Symbol) → step (s ∷ below) (token.Word keyword.Other) ≡ Some (s, symbol.MaybeBrackets ∷ symbol.PropertyName ∷ tail ++ below)
    acts : (w : Word) (d : Draft) → bodies_act s (record w { kind = token.Word keyword.Other }) d ≡ type_act w d

  behind_custom : TakesType symbol.AfterCustom (symbol.MaybeAttributeTail ∷ [])
  unfolding bodies_act after_custom_act after_variability_act type_act
  behind_custom = record { starts_it = λ below. refl; acts = λ w d. refl }

  behind_uniform : TakesType symbol.AfterVariability (symbol.MaybeAttributeTail ∷ [])
  unfolding bodies_act after_variability_act type_act
  behind_uniform = record { starts_it = λ below. refl; acts = λ w d. refl }

  behind_edit : TakesType symbol.AfterEdit (symbol.Dot ∷ symbol.ConnectWord ∷ [])
  unfolding bodies_act after_edit_act after_custom_act after_variability_act type_act
  behind_edit = record { starts_it = λ below. refl; acts = λ w d. refl }

  behind_reorder : TakesType symbol.AfterReorder (symbol.Dot ∷ symbol.ConnectWord ∷ [])
  unfolding bodies_act after_reorder_act after_edit_act after_custom_act after_variability_act type_act
  behind_reorder = record { starts_it = λ below. refl; acts = λ w d. refl }

  type_then : (s : Symbol) (tail : List Symbol) → TakesType s tail → (h : Heading) (ty : TypeName) (d : Draft) → Headed at h d → Goes (record h { ty = Some ty }) (tail ++ Back) → AreTaken (s ∷ Back) d (type_said ty ++ name_said name ∷ said) to After
  type_then s tail t h ty d headed_so goes =
      together (s ∷ Back) (symbol.MaybeBrackets ∷ symbol.PropertyName ∷ tail ++ Back) to d (name_said (element_name ty.element) ∷ []) ((if ty.array then open_bracket ∷ close_bracket ∷ [] else []) ++ name_said name ∷ said)
      (Headed at (record h { ty = Some (one_of ty.element) })) After
      (word_taken (s ∷ Back) (symbol.MaybeBrackets ∷ symbol.PropertyName ∷ tail ++ Back) s d (name_said (element_name ty.element)) (Headed at (record h { ty = Some (one_of ty.element) })) headed_so.is_at.shut
      (λ below.
      ap (λ k. step (s ∷ Back ++ below) (token.Word k)) (type_word ty.element) ∙ t.starts_it (Back ++ below)
      ∙ ap (λ l. Some (s, symbol.MaybeBrackets ∷ symbol.PropertyName ∷ l)) (sym (append_assoc tail Back below)))
      (λ w. (
        headed (record d.heading { ty = Some (one_of ty.element) }) d,
        record {
          is_at = record { stands = headed_so.is_at.stands; free = headed_so.is_at.free; shut = headed_so.is_at.shut; shallow = headed_so.is_at.shallow };
          heading = ap (λ (h : Heading). record h { ty = Some (one_of ty.element) }) headed_so.heading;
        },
        ap (λ k. bodies_act s (record (saying_word (name_said (element_name ty.element)) w) { kind = token.Word k }) d) (type_word ty.element)
            ∙ t.acts (saying_word (name_said (element_name ty.element)) w) d
            ∙ typed ty.element (saying_word (name_said (element_name ty.element)) w) d,
      )))
      (λ x k. brackets_then h ty.element ty.array (tail ++ Back) x k goes)

  -- `rel`, behind `custom` or an edit word
  record TakesRel (s : Symbol) : Type 0 where
    starts_it : (below : List Symbol) → step (s ∷ below) (token.Word keyword.Rel) ≡ Some (s, symbol.PropertyName ∷ symbol.MaybeTargets ∷ symbol.MaybePropertyMetadata ∷ below)
    acts : (w : Word) (d : Draft) → bodies_act s (record w { kind = token.Word keyword.Rel }) d ≡ Ok (headed (as_relationship d.heading) d)

  rel_behind_custom : TakesRel symbol.AfterCustom
  unfolding bodies_act after_custom_act after_variability_act
  rel_behind_custom = record { starts_it = λ below. refl; acts = λ w d. refl }

  rel_behind_edit : TakesRel symbol.AfterEdit
  unfolding bodies_act after_edit_act after_custom_act after_variability_act
  rel_behind_edit = record { starts_it = λ below. refl; acts = λ w d. refl }

  rel_behind_reorder : TakesRel symbol.AfterReorder
  unfolding bodies_act after_reorder_act after_edit_act after_custom_act after_variability_act
  rel_behind_reorder = record { starts_it = λ below. refl; acts = λ w d. refl }

  rel_then : (s : Symbol) → TakesRel s → (h : Heading) (d : Draft) → Headed at h d → Goes (as_relationship h) (symbol.MaybeTargets ∷ symbol.MaybePropertyMetadata ∷ Back) → AreTaken (s ∷ Back) d (name_said (codes "rel") ∷ name_said name ∷ said) to After
  rel_then s t h d headed_so goes =
      together (s ∷ Back) (symbol.PropertyName ∷ symbol.MaybeTargets ∷ symbol.MaybePropertyMetadata ∷ Back) to d (name_said (codes "rel") ∷ []) (name_said name ∷ said) (Headed at (as_relationship h)) After
      (word_taken (s ∷ Back) (symbol.PropertyName ∷ symbol.MaybeTargets ∷ symbol.MaybePropertyMetadata ∷ Back) s d (name_said (codes "rel")) (Headed at (as_relationship h)) headed_so.is_at.shut (λ below. t.starts_it (Back ++ below))
      (λ w. (
        headed (as_relationship d.heading) d,
        record {
          is_at = record { stands = headed_so.is_at.stands; free = headed_so.is_at.free; shut = headed_so.is_at.shut; shallow = headed_so.is_at.shallow };
          heading = ap as_relationship headed_so.heading;
        },
        t.acts (saying_word (name_said (codes "rel")) w) d,
      )))
      goes

-- ---- whole statements, by the words before the name

module _ (at : Standing) (name : List ℕ) (said : List Said) (to : Left) (After : Draft → Type 0) where
  abbrev Behind : Heading → List Symbol → Type 0
  Behind h rest = Goes at name said (to.symbols ++ symbol.PrimBody ∷ []) After h rest

  abbrev Attribute : Bool → Bool → TypeName → Heading
  Attribute custom uniform ty = record { edit = Explicit; custom = custom; uniform = uniform; ty = Some ty }

  pub attribute_begun : (custom uniform : Bool) (ty : TypeName) → Behind (Attribute custom uniform ty) (symbol.MaybeAttributeTail ∷ Back)
      → AreItems symbol.PrimBody (flag_words custom (codes "custom") ++ flag_words uniform (codes "uniform") ++ type_said ty ++ name_said name ∷ said) (Rests at) After
  unfolding statement_act after_edit_act after_custom_act after_variability_act bodies_act type_act
  attribute_begun true true ty goes =
      statement_with at (name_said (codes "custom")) (name_said (codes "uniform") ∷ type_said ty ++ name_said name ∷ said) (symbol.AfterCustom ∷ []) to (Headed at (heading_of Explicit true false)) After refl (λ below. refl)
      (λ w d h. (headed (heading_of Explicit true false) d, headed_at at (heading_of Explicit true false) d h, refl))
      (λ d h.
      together (symbol.AfterCustom ∷ Back) (symbol.AfterVariability ∷ Back) (to.symbols ++ symbol.PrimBody ∷ []) d (name_said (codes "uniform") ∷ []) (type_said ty ++ name_said name ∷ said) (Headed at (heading_of Explicit true true)) After
      (word_taken (symbol.AfterCustom ∷ Back) (symbol.AfterVariability ∷ Back) symbol.AfterCustom d (name_said (codes "uniform")) (Headed at (heading_of Explicit true true)) h.is_at.shut (λ below. refl)
      (λ w. (
        headed (record d.heading { uniform = true }) d,
        record {
          is_at = record { stands = h.is_at.stands; free = h.is_at.free; shut = h.is_at.shut; shallow = h.is_at.shallow };
          heading = ap (λ (h : Heading). record h { uniform = true }) h.heading;
        },
        refl,
      )))
      (λ e k.
      type_then at name said (to.symbols ++ symbol.PrimBody ∷ []) After symbol.AfterVariability (symbol.MaybeAttributeTail ∷ []) (behind_uniform at name said (to.symbols ++ symbol.PrimBody ∷ []) After) (heading_of Explicit true true) ty e k goes))
  attribute_begun true false ty goes =
      statement_with at (name_said (codes "custom")) (type_said ty ++ name_said name ∷ said) (symbol.AfterCustom ∷ []) to (Headed at (heading_of Explicit true false)) After refl (λ below. refl)
      (λ w d h. (headed (heading_of Explicit true false) d, headed_at at (heading_of Explicit true false) d h, refl))
      (λ d h.
      type_then at name said (to.symbols ++ symbol.PrimBody ∷ []) After symbol.AfterCustom (symbol.MaybeAttributeTail ∷ []) (behind_custom at name said (to.symbols ++ symbol.PrimBody ∷ []) After) (heading_of Explicit true false) ty d h goes)
  attribute_begun false true ty goes =
      statement_with at (name_said (codes "uniform")) (type_said ty ++ name_said name ∷ said) (symbol.AfterVariability ∷ []) to (Headed at (heading_of Explicit false true)) After refl (λ below. refl)
      (λ w d h. (headed (heading_of Explicit false true) d, headed_at at (heading_of Explicit false true) d h, refl))
      (λ d h.
      type_then at name said (to.symbols ++ symbol.PrimBody ∷ []) After symbol.AfterVariability (symbol.MaybeAttributeTail ∷ []) (behind_uniform at name said (to.symbols ++ symbol.PrimBody ∷ []) After) (heading_of Explicit false true) ty d h goes)
  attribute_begun false false ty goes =
      statement_with at (name_said (element_name ty.element)) ((if ty.array then open_bracket ∷ close_bracket ∷ [] else []) ++ name_said name ∷ said) (symbol.MaybeBrackets ∷ symbol.PropertyName ∷ symbol.MaybeAttributeTail ∷ []) to
      (Headed at (record (heading_of Explicit false false) { ty = Some (one_of ty.element) })) After refl (λ below. ap (λ k. step (symbol.PrimBody ∷ below) (token.Word k)) (type_word ty.element))
      (λ w d h. (
        headed (record (heading_of Explicit false false) { ty = Some (one_of ty.element) }) d,
        headed_at at (record (heading_of Explicit false false) { ty = Some (one_of ty.element) }) d h,
        ap (λ k. statement_act (token.Word k) (saying_word (name_said (element_name ty.element)) w) d) (type_word ty.element) ∙ typed ty.element (saying_word (name_said (element_name ty.element)) w) (headed (begun Explicit) d),
      ))
      (λ d h. brackets_then at name said (to.symbols ++ symbol.PrimBody ∷ []) After (heading_of Explicit false false) ty.element ty.array (symbol.MaybeAttributeTail ∷ Back) d h goes)

  pub relationship_begun : (custom : Bool) → Behind (heading_of Explicit custom false) (symbol.MaybeTargets ∷ symbol.MaybePropertyMetadata ∷ Back)
      → AreItems symbol.PrimBody (flag_words custom (codes "custom") ++ name_said (codes "rel") ∷ name_said name ∷ said) (Rests at) After
  unfolding statement_act after_edit_act after_custom_act after_variability_act
  relationship_begun true goes =
      statement_with at (name_said (codes "custom")) (name_said (codes "rel") ∷ name_said name ∷ said) (symbol.AfterCustom ∷ []) to (Headed at (heading_of Explicit true false)) After refl (λ below. refl)
      (λ w d h. (headed (heading_of Explicit true false) d, headed_at at (heading_of Explicit true false) d h, refl))
      (λ d h. rel_then at name said (to.symbols ++ symbol.PrimBody ∷ []) After symbol.AfterCustom (rel_behind_custom at name said (to.symbols ++ symbol.PrimBody ∷ []) After) (heading_of Explicit true false) d h goes)
  relationship_begun false goes =
      statement_with at (name_said (codes "rel")) (name_said name ∷ said) (symbol.PropertyName ∷ symbol.MaybeTargets ∷ symbol.MaybePropertyMetadata ∷ []) to (Headed at (heading_of Explicit false false)) After refl (λ below. refl)
      (λ w d h. (headed (heading_of Explicit false false) d, headed_at at (heading_of Explicit false false) d h, refl)) goes

  -- behind an edit word

  abbrev EditedAttribute : ListEdit → TypeName → Heading
  EditedAttribute edit ty = record { edit = edit; custom = false; uniform = false; ty = Some ty }

  -- an edit word, and what follows it
  record EditsBy (edit : ListEdit) (text : List ℕ) (s : Symbol) : Type 0 where
    starts_it : (below : List Symbol) → step (symbol.PrimBody ∷ below) (token.Word (keyword_of text)) ≡ Some (symbol.PrimBody, s ∷ symbol.MaybeSemicolon ∷ symbol.PrimBody ∷ below)
    acts : (w : Word) (d : Draft) → statement_act (token.Word (keyword_of text)) (saying_word (name_said text) w) d ≡ Ok (headed (heading_of edit false false) d)

  edited : (edit : ListEdit) (text : List ℕ) (s : Symbol) (more : List Said) → EditsBy edit text s
      → ((d : Draft) → Headed at (heading_of edit false false) d → AreTaken (s ∷ Back) d more (to.symbols ++ symbol.PrimBody ∷ []) After) → AreItems symbol.PrimBody (name_said text ∷ more) (Rests at) After
  edited edit text s more e goes =
      statement_with at (name_said text) more (s ∷ []) to (Headed at (heading_of edit false false)) After refl e.starts_it
      (λ w d h. (headed (heading_of edit false false) d, headed_at at (heading_of edit false false) d h, e.acts w d)) goes

  deletes : EditsBy Delete (codes "delete") symbol.AfterEdit
  unfolding statement_act
  deletes = record { starts_it = λ below. refl; acts = λ w d. refl }

  adds : EditsBy Add (codes "add") symbol.AfterEdit
  unfolding statement_act
  adds = record { starts_it = λ below. refl; acts = λ w d. refl }

  prepends : EditsBy Prepend (codes "prepend") symbol.AfterEdit
  unfolding statement_act
  prepends = record { starts_it = λ below. refl; acts = λ w d. refl }

  appends : EditsBy Append (codes "append") symbol.AfterEdit
  unfolding statement_act
  appends = record { starts_it = λ below. refl; acts = λ w d. refl }

  reorders : EditsBy Reorder (codes "reorder") symbol.AfterReorder
  unfolding statement_act
  reorders = record { starts_it = λ below. refl; acts = λ w d. refl }

  by_edit : (edit : ListEdit) (ty : TypeName) (d : Draft) → Headed at (heading_of edit false false) d → Behind (EditedAttribute edit ty) (symbol.Dot ∷ symbol.ConnectWord ∷ Back)
      → AreTaken (symbol.AfterEdit ∷ Back) d (type_said ty ++ name_said name ∷ said) (to.symbols ++ symbol.PrimBody ∷ []) After
  by_edit edit ty d h goes =
      type_then at name said (to.symbols ++ symbol.PrimBody ∷ []) After symbol.AfterEdit (symbol.Dot ∷ symbol.ConnectWord ∷ []) (behind_edit at name said (to.symbols ++ symbol.PrimBody ∷ []) After) (heading_of edit false false) ty d h goes

  rel_by_edit : (edit : ListEdit) (d : Draft) → Headed at (heading_of edit false false) d → Behind (heading_of edit false false) (symbol.MaybeTargets ∷ symbol.MaybePropertyMetadata ∷ Back)
      → AreTaken (symbol.AfterEdit ∷ Back) d (name_said (codes "rel") ∷ name_said name ∷ said) (to.symbols ++ symbol.PrimBody ∷ []) After
  rel_by_edit edit d h goes = rel_then at name said (to.symbols ++ symbol.PrimBody ∷ []) After symbol.AfterEdit (rel_behind_edit at name said (to.symbols ++ symbol.PrimBody ∷ []) After) (heading_of edit false false) d h goes

  pub attribute_edited : (edit : ListEdit) (ty : TypeName) → is_edit edit ≡ true → Behind (EditedAttribute edit ty) (symbol.Dot ∷ symbol.ConnectWord ∷ Back)
      → AreItems symbol.PrimBody (name_said (word_of edit) ∷ type_said ty ++ name_said name ∷ said) (Rests at) After
  attribute_edited Explicit ty is goes = absurd cc
  attribute_edited Delete ty is goes = edited Delete (codes "delete") symbol.AfterEdit (type_said ty ++ name_said name ∷ said) deletes (λ d h. by_edit Delete ty d h goes)
  attribute_edited Add ty is goes = edited Add (codes "add") symbol.AfterEdit (type_said ty ++ name_said name ∷ said) adds (λ d h. by_edit Add ty d h goes)
  attribute_edited Prepend ty is goes = edited Prepend (codes "prepend") symbol.AfterEdit (type_said ty ++ name_said name ∷ said) prepends (λ d h. by_edit Prepend ty d h goes)
  attribute_edited Append ty is goes = edited Append (codes "append") symbol.AfterEdit (type_said ty ++ name_said name ∷ said) appends (λ d h. by_edit Append ty d h goes)
  attribute_edited Reorder ty is goes =
      edited Reorder (codes "reorder") symbol.AfterReorder (type_said ty ++ name_said name ∷ said) reorders
      (λ d h.
      type_then at name said (to.symbols ++ symbol.PrimBody ∷ []) After symbol.AfterReorder (symbol.Dot ∷ symbol.ConnectWord ∷ []) (behind_reorder at name said (to.symbols ++ symbol.PrimBody ∷ []) After) (heading_of Reorder false false) ty d h goes)

  pub relationship_edited : (edit : ListEdit) → is_edit edit ≡ true → Behind (heading_of edit false false) (symbol.MaybeTargets ∷ symbol.MaybePropertyMetadata ∷ Back)
      → AreItems symbol.PrimBody (name_said (word_of edit) ∷ name_said (codes "rel") ∷ name_said name ∷ said) (Rests at) After
  relationship_edited Explicit is goes = absurd cc
  relationship_edited Delete is goes = edited Delete (codes "delete") symbol.AfterEdit (name_said (codes "rel") ∷ name_said name ∷ said) deletes (λ d h. rel_by_edit Delete d h goes)
  relationship_edited Add is goes = edited Add (codes "add") symbol.AfterEdit (name_said (codes "rel") ∷ name_said name ∷ said) adds (λ d h. rel_by_edit Add d h goes)
  relationship_edited Prepend is goes = edited Prepend (codes "prepend") symbol.AfterEdit (name_said (codes "rel") ∷ name_said name ∷ said) prepends (λ d h. rel_by_edit Prepend d h goes)
  relationship_edited Append is goes = edited Append (codes "append") symbol.AfterEdit (name_said (codes "rel") ∷ name_said name ∷ said) appends (λ d h. rel_by_edit Append d h goes)
  relationship_edited Reorder is goes =
      edited Reorder (codes "reorder") symbol.AfterReorder (name_said (codes "rel") ∷ name_said name ∷ said) reorders
      (λ d h. rel_then at name said (to.symbols ++ symbol.PrimBody ∷ []) After symbol.AfterReorder (rel_behind_reorder at name said (to.symbols ++ symbol.PrimBody ∷ []) After) (heading_of Reorder false false) d h goes)

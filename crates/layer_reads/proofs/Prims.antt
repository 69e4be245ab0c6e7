-- Prims: their titles, their metadata, and their ends.
use Rattle.std.proofs.Common.{◌≡◌, ◌∙◌, ℕ, false, List, [], ◌∷◌, ◌++◌, append_assoc, Option, Some, None, Ok, Err, ap, sym, refl, subst}
use Rattle.std.specs.Prelude.{if◌then◌else◌}
use Rattle.plain_data.specs.Ends.{last, front, last-push, front-push}
use Rattle.usd_names.specs.Names.{is_identifier}
use Rattle.sdf_paths.specs.Paths.{plain}
use Rattle.sdf_paths.specs.declared.element.Element.{Element}
use Rattle.sdf_values.specs.Print.{quoted}
use Rattle.sdf_values.specs.declared.refusal.RefusalKind.TheVariants.{Syntax, DuplicateSpec}
use Rattle.spec_parts.specs.declared.items.Specifier.{Specifier}
use Rattle.spec_parts.specs.declared.items.Specifier.TheVariants as specifier
use Rattle.spec_parts.specs.declared.spec.Spec.{Spec}
use Rattle.usda_fields.specs.Names.{if_named}
use Rattle.usda_grammar.specs.Machine.{step}
use Rattle.usda_grammar.specs.Words.{keyword_of}
use Rattle.usda_grammar.specs.declared.kinds.Keyword.TheVariants as keyword
use Rattle.usda_grammar.specs.declared.kinds.WordKind.TheVariants as token
use Rattle.usda_grammar.specs.declared.symbols.Symbol.{Symbol}
use Rattle.usda_grammar.specs.declared.symbols.Symbol.TheVariants as symbol
use Rattle.usda_lists.specs.Acts.{and_then}
use Rattle.usda_words.specs.Words.{Word}
use Rattle.usda_writer.specs.Texts.{specifier_text}
use Rattle.usda_drafts.specs.Acts.{bodies_act, prims_act, layers_act}
use Rattle.usda_drafts.specs.Bodies.{statement_act}
use Rattle.usda_drafts.specs.Closed.{is_closed, with_closed}
use Rattle.usda_drafts.specs.Metadata.{root_act}
use Rattle.usda_drafts.specs.Owners.{owner_of, with_child}
use Rattle.usda_drafts.specs.Places.{prim_place}
use Rattle.usda_drafts.specs.Prims.{specifier_of, specifier_act, prim_type_act, prim_name_act, named_prim, entered_prim, with_prim, prim_at, entered, with_statement_over, left, left_for, body_end_act}
use Rattle.usda_drafts.specs.Refusals.{placed}
use Rattle.usda_drafts.specs.declared.draft.Draft.{Draft}
use Rattle.usda_drafts.specs.declared.draft.Opening.{Opening}
use Rattle.usda_drafts.specs.declared.owner.Owner.{Owner}
use Rattle.value_texts.specs.Cuts.{Said}
use Rattle.value_texts.specs.ValueWords.{name_said, string_said, open_brace, close_brace}
use Rattle.value_texts.specs.Words.{as_word}
use Rattle.value_texts.proofs.StringTokens.{string_means}
use Rattle.layer_texts.specs.FieldWords.{spec_words, block_words}
use Rattle.layer_texts.specs.LayerWords.{type_words, prim_head_words}
use Rattle.layer_reads.specs.Taking.{AreTaken}
use Rattle.layer_reads.proofs.Taking.{together, above, weaker}
use Rattle.layer_reads.specs.Bodies.{Rests, IsPrimPlace, inside, closed, IsPrimRead}
use Rattle.layer_reads.specs.Items.{Left, AreItems}
use Rattle.layer_reads.specs.Specs.{IsSpecKept}
use Rattle.layer_reads.specs.Standing.{Standing, IsAt}
use Rattle.layer_reads.proofs.Bodies.{at_rest, statement_items}
use Rattle.layer_reads.proofs.Items.{one_item, nothing_left, step_left}
use Rattle.layer_reads.proofs.Specs.{block_read}
use Rattle.layer_reads.proofs.Words.{saying_word, last_word, word_taken, past}

-- ---- the words of specifiers

specifier_word : (s : Specifier) → keyword_of (specifier_text s) ≡ keyword.Specifier
specifier_word specifier.Def = refl
specifier_word specifier.Over = refl
specifier_word specifier.Class = refl

specifier_back : (s : Specifier) → specifier_of (specifier_text s) ≡ s
unfolding specifier_of
specifier_back specifier.Def = refl
specifier_back specifier.Over = refl
specifier_back specifier.Class = refl

-- the prim that begins
abbrev opening_of : Specifier → Option (List ℕ) → Opening
opening_of s ty = record { specifier = s; type_name = ty; is_too_deep = false }

-- a draft in which such a prim begins
record Begins (at : Standing) (s : Specifier) (ty : Option (List ℕ)) (d : Draft) : Type 0 where
  is_at : IsAt at d
  opens : d.opening ≡ opening_of s ty

specified : (at : Standing) (s : Specifier) (w : Word) (d : Draft) → IsAt at d → (next : Draft) × Begins at s None next × (specifier_act (specifier_text s) d ≡ Ok next)
unfolding specifier_act
specified at s w d h = (
  record d { opening = opening_of (specifier_of (specifier_text s)) None },
  record { is_at = record { stands = h.stands; free = h.free; shut = h.shut; shallow = refl }; opens = ap (λ s. opening_of s None) (specifier_back s) },
  refl,
)

-- ---- the name

module _ (name : List ℕ) (path : List Element) (at : Standing) (here : IsPrimPlace name path at) (s : Specifier) where
  -- a draft inside the prim, of which nothing is said yet
  abbrev entering : Option (List ℕ) → Standing
  entering ty = record at { owner = owner_of path s ty; outer = at.outer ++ with_child name at.owner ∷ [] }

  named : (ty : Option (List ℕ)) (w : Word) (d : Draft) → Begins at s ty d → (next : Draft) × IsAt (entering ty) next × (placed w.start (prim_name_act (quoted name) d) ≡ Ok next)
  unfolding prim_name_act named_prim entered_prim with_prim prim_at entered
  named ty w d h = (
    with_prim name path d,
    record {
      stands = ap (λ (p : Standing). record p { owner = owner_of path d.opening.specifier d.opening.type_name; outer = p.outer ++ with_child name p.owner ∷ [] }) h.is_at.stands
          ∙ ap (λ (o : Opening). record at { owner = owner_of path o.specifier o.type_name; outer = at.outer ++ with_child name at.owner ∷ [] }) h.opens;
      free = h.is_at.free;
      shut = h.is_at.shut;
      shallow = h.is_at.shallow;
    },
    ap (placed w.start)
        (ap (λ o. and_then (if_named is_identifier o) (λ name. named_prim name d)) (string_means name here.utf8)
        ∙ ap (λ b. and_then (if b then Ok name else Err Syntax) (λ name. named_prim name d)) here.named
        ∙ ap (λ (p : Standing). and_then (prim_place p.owner.said.path name) (λ path. entered_prim name path d)) h.is_at.stands
        ∙ ap (λ r. and_then r (λ path. entered_prim name path d)) here.place
        ∙ ap (λ (p : Standing). if is_closed path p.specs then Err DuplicateSpec else Ok (with_prim name path d)) h.is_at.stands
        ∙ ap (λ b. if b then Err DuplicateSpec else Ok (with_prim name path d)) here.free),
  )

  by_name : (ty : Option (List ℕ)) (to : List Symbol) (d : Draft) (said : List Said) (mid : List Symbol) (After : Draft → Type 0) → Begins at s ty d → ((e : Draft) → IsAt (entering ty) e → AreTaken mid e said to After)
      → AreTaken (symbol.PrimName ∷ mid) d (string_said (quoted name) ∷ said) to After
  unfolding bodies_act prims_act layers_act
  by_name ty to d said mid After h rest =
      together (symbol.PrimName ∷ mid) mid to d (string_said (quoted name) ∷ []) said (IsAt (entering ty)) After
      (word_taken (symbol.PrimName ∷ mid) mid symbol.PrimName d (string_said (quoted name)) (IsAt (entering ty)) h.is_at.shut (λ below. refl) (λ w. named ty w d h)) rest

  -- the type and the name, and then more words
  titled : (ty : Option (List ℕ)) (to : List Symbol) (d : Draft) (said : List Said) (mid : List Symbol) (After : Draft → Type 0) → Begins at s None d → ((e : Draft) → IsAt (entering ty) e → AreTaken mid e said to After)
      → AreTaken (symbol.MaybeTypeName ∷ symbol.PrimName ∷ mid) d (type_words ty ++ string_said (quoted name) ∷ said) to After
  unfolding bodies_act prims_act layers_act prim_type_act
  titled None to d said mid After h rest =
      past symbol.MaybeTypeName (symbol.PrimName ∷ mid) to d (string_said (quoted name)) said After refl refl (by_name None to d said mid After h rest)
  titled (Some t) to d said mid After h rest =
      together (symbol.MaybeTypeName ∷ symbol.PrimName ∷ mid) (symbol.PrimName ∷ mid) to d (name_said t ∷ []) (string_said (quoted name) ∷ said) (Begins at s (Some t)) After
      (word_taken (symbol.MaybeTypeName ∷ symbol.PrimName ∷ mid) (symbol.PrimName ∷ mid) symbol.MaybeTypeName d (name_said t) (Begins at s (Some t)) h.is_at.shut (λ below. refl)
      (λ w. (
        record d { opening = record d.opening { type_name = Some t } },
        record { is_at = record { stands = h.is_at.stands; free = h.is_at.free; shut = h.is_at.shut; shallow = h.is_at.shallow }; opens = ap (λ (o : Opening). record o { type_name = Some t }) h.opens },
        refl,
      )))
      (λ e k. by_name (Some t) to e said mid After k rest)

-- ---- the body and its end

-- the innermost owner is over
pub left_at : (o : Owner) (at done : Standing) (d : Draft) → done.outer ≡ at.outer ++ o ∷ [] → Rests done d → IsAt (closed o at done) (left (with_statement_over d))
unfolding left with_statement_over
left_at o at done d outer h =
    let over_draft : Draft = with_statement_over d in
    subst (λ x. IsAt (closed o at done) (left_for x over_draft)) (sym (ap last ends ∙ last-push at.outer o))
    (record {
      stands = ap (λ (p : Standing). record p { specs = with_closed p.owner p.specs; owner = o; outer = front p.outer }) h.stands
          ∙ ap (λ l. record done { specs = with_closed done.owner done.specs; owner = o; outer = l }) (ap front outer ∙ front-push at.outer o);
      free = refl;
      shut = h.shut;
      shallow = h.shallow;
    })
  where
    ends : (with_statement_over d).outer ≡ at.outer ++ o ∷ []
    ends = ap (λ (p : Standing). p.outer) h.stands ∙ outer

-- the words between the braces, and the closing one, from inside a prim or a variant
pub body_taken : (o : Owner) (at begun done : Standing) (d : Draft) (body : List Said) (to : List Symbol) → done.outer ≡ at.outer ++ o ∷ [] → AreItems symbol.PrimBody body (Rests begun) (Rests done) → IsAt begun d
    → AreTaken (symbol.PrimBody ∷ symbol.BodyEnd ∷ to) d (body ++ close_brace ∷ []) to (IsAt (closed o at done))
unfolding bodies_act prims_act layers_act body_end_act
body_taken o at begun done d body to outer items h =
    let back : List Symbol = symbol.BodyEnd ∷ to in
    let l : Left = items.left nothing_left in
    together (symbol.PrimBody ∷ back) ((l.symbols ++ symbol.PrimBody ∷ []) ++ back) to d body (close_brace ∷ []) (Rests done) (IsAt (closed o at done))
    (above (symbol.PrimBody ∷ []) (l.symbols ++ symbol.PrimBody ∷ []) back d body (Rests done) (items.taken nothing_left d (at_rest begun d h)))
    (λ e k.
    last_word ((l.symbols ++ symbol.PrimBody ∷ []) ++ back) to symbol.BodyEnd e (left (with_statement_over e)) close_brace (IsAt (closed o at done)) k.shut
    (λ below. step_left l.symbols symbol.PrimBody back below (as_word close_brace).kind l.each refl) (λ w. refl) (left_at o at done e outer k))

-- ---- prims

module _ (name : List ℕ) (path : List Element) (spec : Spec) (at done : Standing) (body : List Said) (here : IsPrimPlace name path at) (kept : IsSpecKept (plain path) spec) (outer : done.outer ≡ at.outer ++ with_child name at.owner ∷ [])
    (items : AreItems symbol.PrimBody body (Rests (inside path spec.body.specifier spec.body.type_name spec (with_child name at.owner) at)) (Rests done)) where
  abbrev Sp : Specifier
  Sp = spec.body.specifier

  abbrev Begun : Standing
  Begun = inside path Sp spec.body.type_name spec (with_child name at.owner) at

  abbrev Rest : List Said
  Rest = (block_words (spec_words spec) ++ open_brace ∷ []) ++ (body ++ close_brace ∷ [])

  -- behind the specifier
  rest_taken : (to : List Symbol) (d : Draft) → Begins at Sp None d
      → AreTaken (symbol.MaybeTypeName ∷ symbol.PrimName ∷ symbol.MaybePrimMetadata ∷ symbol.OpenBrace ∷ symbol.PrimBody ∷ symbol.BodyEnd ∷ to) d
      (type_words spec.body.type_name ++ string_said (quoted name) ∷ Rest) to (IsAt (closed (with_child name at.owner) at done))
  unfolding owner_of
  rest_taken to d h =
      let more : List Symbol = symbol.PrimBody ∷ symbol.BodyEnd ∷ to in
      titled name path at here Sp spec.body.type_name to d Rest (symbol.MaybePrimMetadata ∷ symbol.OpenBrace ∷ more) (IsAt (closed (with_child name at.owner) at done)) h
      (λ e k.
      together (symbol.MaybePrimMetadata ∷ symbol.OpenBrace ∷ more) more to e (block_words (spec_words spec) ++ open_brace ∷ []) (body ++ close_brace ∷ []) (IsAt Begun) (IsAt (closed (with_child name at.owner) at done))
      (above (symbol.MaybePrimMetadata ∷ symbol.OpenBrace ∷ []) [] more e (block_words (spec_words spec) ++ open_brace ∷ []) (IsAt Begun) (block_read path Sp spec (entering name path at here Sp spec.body.type_name) e kept k))
      (λ f m. body_taken (with_child name at.owner) at Begun done f body to outer items m))

  said_is : prim_head_words name spec ++ body ++ close_brace ∷ [] ≡ name_said (specifier_text Sp) ∷ (type_words spec.body.type_name ++ string_said (quoted name) ∷ Rest)
  said_is = by spec.body.type_name
    where
      by : (ty : Option (List ℕ)) → ((name_said (specifier_text Sp) ∷ []) ++ type_words ty ++ (string_said (quoted name) ∷ []) ++ block_words (spec_words spec) ++ (open_brace ∷ [])) ++ body ++ close_brace ∷ []
          ≡ name_said (specifier_text Sp) ∷ (type_words ty ++ string_said (quoted name) ∷ Rest)
      by None = ap (λ l. name_said (specifier_text Sp) ∷ string_said (quoted name) ∷ l) (append_assoc (block_words (spec_words spec) ++ open_brace ∷ []) body (close_brace ∷ []))
      by (Some t) = ap (λ l. name_said (specifier_text Sp) ∷ name_said t ∷ string_said (quoted name) ∷ l) (append_assoc (block_words (spec_words spec) ++ open_brace ∷ []) body (close_brace ∷ []))

  child_items : AreItems symbol.PrimBody (prim_head_words name spec ++ body ++ close_brace ∷ []) (Rests at) (Rests (closed (with_child name at.owner) at done))
  unfolding statement_act
  child_items =
      subst (λ l. AreItems symbol.PrimBody l (Rests at) (Rests (closed (with_child name at.owner) at done))) (sym said_is)
      (statement_items at (name_said (specifier_text Sp)) _ (symbol.MaybeTypeName ∷ symbol.PrimName ∷ symbol.MaybePrimMetadata ∷ symbol.OpenBrace ∷ symbol.PrimBody ∷ symbol.BodyEnd ∷ []) (Begins at Sp None)
      (Rests (closed (with_child name at.owner) at done)) refl (λ below. ap (λ k. step (symbol.PrimBody ∷ below) (token.Word k)) (specifier_word Sp))
      (λ w d h. let x = specified at Sp w d h in (x.0, x.1, ap (λ k. statement_act (token.Word k) (saying_word (name_said (specifier_text Sp)) w) d) (specifier_word Sp) ∙ x.2))
      (λ d h.
      weaker (symbol.MaybeTypeName ∷ symbol.PrimName ∷ symbol.MaybePrimMetadata ∷ symbol.OpenBrace ∷ symbol.PrimBody ∷ symbol.BodyEnd ∷ []) [] d _ (IsAt (closed (with_child name at.owner) at done)) (Rests (closed (with_child name at.owner) at done))
      (rest_taken [] d h) (at_rest (closed (with_child name at.owner) at done))))

  root_items : AreItems symbol.RootStatements (prim_head_words name spec ++ body ++ close_brace ∷ []) (IsAt at) (IsAt (closed (with_child name at.owner) at done))
  unfolding bodies_act prims_act layers_act root_act
  root_items =
      let back : List Symbol = symbol.MaybeSemicolon ∷ symbol.RootStatements ∷ [] in
      let mid : List Symbol = symbol.MaybeTypeName ∷ symbol.PrimName ∷ symbol.MaybePrimMetadata ∷ symbol.OpenBrace ∷ symbol.PrimBody ∷ symbol.BodyEnd ∷ back in
      subst (λ l. AreItems symbol.RootStatements l (IsAt at) (IsAt (closed (with_child name at.owner) at done))) (sym said_is)
      (one_item symbol.RootStatements (name_said (specifier_text Sp)) _ (IsAt at) (IsAt (closed (with_child name at.owner) at done)) refl
      (λ d h.
      together (symbol.RootStatements ∷ []) mid back d (name_said (specifier_text Sp) ∷ []) _ (Begins at Sp None) (IsAt (closed (with_child name at.owner) at done))
      (word_taken (symbol.RootStatements ∷ []) mid symbol.RootStatements d (name_said (specifier_text Sp)) (Begins at Sp None) h.shut (λ below. ap (λ k. step (symbol.RootStatements ∷ below) (token.Word k)) (specifier_word Sp))
      (λ w. let x = specified at Sp w d h in (x.0, x.1, ap (λ k. root_act (token.Word k) (saying_word (name_said (specifier_text Sp)) w) d) (specifier_word Sp) ∙ x.2)))
      (λ e k. rest_taken back e k)))

pub child_read : IsPrimRead symbol.PrimBody Rests
child_read = child_items

pub root_read : IsPrimRead symbol.RootStatements IsAt
root_read = root_items

-- Variant sets and their variants.
use Rattle.std.proofs.Common.{◌≡◌, ◌∙◌, ℕ, true, false, List, [], ◌∷◌, ◌++◌, append_assoc, None, Ok, Err, ap, sym, refl, subst}
use Rattle.std.specs.Prelude.{if◌then◌else◌, codes}
use Rattle.std.specs.Str.{is_utf8}
use Rattle.usd_names.specs.Names.{is_identifier, is_variant}
use Rattle.sdf_paths.specs.Paths.{plain}
use Rattle.sdf_paths.specs.declared.element.Element.{Element}
use Rattle.sdf_values.specs.Print.{quoted}
use Rattle.sdf_values.specs.declared.refusal.RefusalKind.TheVariants.{Syntax, DuplicateSpec, TooDeep}
use Rattle.spec_parts.specs.declared.items.Specifier.TheVariants.{Over}
use Rattle.spec_parts.specs.declared.spec.Spec.{Spec}
use Rattle.usda_fields.specs.Names.{if_named}
use Rattle.usda_grammar.specs.declared.symbols.Symbol.{Symbol}
use Rattle.usda_grammar.specs.declared.symbols.Symbol.TheVariants as symbol
use Rattle.usda_lists.specs.Acts.{and_then}
use Rattle.usda_words.specs.Words.{Word}
use Rattle.usda_drafts.specs.Acts.{bodies_act, prims_act, layers_act}
use Rattle.usda_drafts.specs.Bodies.{statement_act}
use Rattle.usda_drafts.specs.Closed.{is_closed}
use Rattle.usda_drafts.specs.Owners.{owner_of, with_variant, with_set, has_set}
use Rattle.usda_drafts.specs.Places.{variant_place}
use Rattle.usda_drafts.specs.Prims.{entered, with_variant_at, entered_variant, named_variant, variant_name_act, begun_set, set_name_act, open_act}
use Rattle.usda_drafts.specs.Refusals.{placed, refused}
use Rattle.usda_drafts.specs.declared.draft.Draft.{Draft}
use Rattle.value_texts.specs.Cuts.{Said}
use Rattle.value_texts.specs.ValueWords.{name_said, string_said, equals, open_brace, close_brace}
use Rattle.value_texts.specs.Words.{as_word}
use Rattle.value_texts.proofs.StringTokens.{string_means}
use Rattle.layer_texts.specs.FieldWords.{spec_words, block_words}
use Rattle.layer_texts.specs.LayerWords.{variant_head_words}
use Rattle.layer_reads.proofs.Taking.{together, above}
use Rattle.layer_reads.specs.Items.{Left, AreItems}
use Rattle.layer_reads.specs.Specs.{IsSpecKept}
use Rattle.layer_reads.specs.Standing.{Standing, IsAt}
use Rattle.layer_reads.proofs.EditedLists.{equals_taken}
use Rattle.layer_reads.proofs.Items.{item_with, nothing_left, step_left}
use Rattle.layer_reads.proofs.Specs.{block_read}
use Rattle.layer_reads.proofs.Words.{word_taken, last_word}
use Rattle.layer_reads.specs.Bodies.{Rests, IsVariantPlace, IsVariantRead, IsSetRead, inside, closed}
use Rattle.layer_reads.proofs.Bodies.{at_rest, statement_items}
use Rattle.layer_reads.proofs.Prims.{body_taken}

-- ---- variants

module _ (name : List ℕ) (path : List Element) (at : Standing) (here : IsVariantPlace name path at) where
  -- a draft inside the variant, of which nothing is said yet
  abbrev Entering : Standing
  Entering = record at { owner = owner_of path Over None; outer = at.outer ++ with_variant name at.owner ∷ [] }

  named : (w : Word) (d : Draft) → IsAt at d → (next : Draft) × IsAt Entering next × (placed w.start (variant_name_act (quoted name) d) ≡ Ok next)
  unfolding variant_name_act named_variant entered_variant with_variant_at entered
  named w d h = (
    with_variant_at name path d,
    record {
      stands = ap (λ (p : Standing). record p { owner = owner_of path Over None; outer = p.outer ++ with_variant name p.owner ∷ [] }) h.stands;
      free = h.free;
      shut = h.shut;
      shallow = h.shallow;
    },
    ap (placed w.start)
        (ap (λ o. and_then (if_named is_variant o) (λ name. named_variant name d)) (string_means name here.utf8)
        ∙ ap (λ b. and_then (if b then Ok name else Err Syntax) (λ name. named_variant name d)) here.named
        ∙ ap (λ (p : Standing). and_then (variant_place p.owner.said.path p.owner.set name) (λ path. entered_variant name path d)) h.stands
        ∙ ap (λ r. and_then r (λ path. entered_variant name path d)) here.place
        ∙ ap (λ (p : Standing). if is_closed path p.specs then Err DuplicateSpec else Ok (with_variant_at name path d)) h.stands
        ∙ ap (λ b. if b then Err DuplicateSpec else Ok (with_variant_at name path d)) here.free),
  )

module _ (name : List ℕ) (path : List Element) (spec : Spec) (at done : Standing) (body : List Said) (here : IsVariantPlace name path at) (kept : IsSpecKept (plain path) spec) (outer : done.outer ≡ at.outer ++ with_variant name at.owner ∷ [])
    (items : AreItems symbol.PrimBody body (Rests (inside path Over None spec (with_variant name at.owner) at)) (Rests done)) where
  abbrev Begun : Standing
  Begun = inside path Over None spec (with_variant name at.owner) at

  abbrev End : Draft → Type 0
  End = IsAt (closed (with_variant name at.owner) at done)

  variant_items : AreItems symbol.VariantList (variant_head_words name spec ++ body ++ close_brace ∷ []) (IsAt at) End
  unfolding bodies_act prims_act owner_of
  variant_items =
      let block : List Said = block_words (spec_words spec) ++ open_brace ∷ [] in
      let tail : List Said = body ++ close_brace ∷ [] in
      let more : List Symbol = symbol.PrimBody ∷ symbol.BodyEnd ∷ symbol.VariantList ∷ [] in
      let mid : List Symbol = symbol.MaybePrimMetadata ∷ symbol.OpenBrace ∷ more in
      subst (λ l. AreItems symbol.VariantList (string_said (quoted name) ∷ l) (IsAt at) End) (sym (append_assoc block body (close_brace ∷ [])))
      (item_with symbol.VariantList (string_said (quoted name)) (block ++ tail) (IsAt at) End nothing_left refl
      (λ d h.
      together (symbol.VariantList ∷ []) mid (symbol.VariantList ∷ []) d (string_said (quoted name) ∷ []) (block ++ tail) (IsAt (Entering name path at here)) End
      (word_taken (symbol.VariantList ∷ []) mid symbol.VariantList d (string_said (quoted name)) (IsAt (Entering name path at here)) h.shut (λ below. refl) (λ w. named name path at here w d h))
      (λ e k.
      together mid more (symbol.VariantList ∷ []) e block tail (IsAt Begun) End
      (above (symbol.MaybePrimMetadata ∷ symbol.OpenBrace ∷ []) [] more e block (IsAt Begun) (block_read path Over spec (Entering name path at here) e kept k))
      (λ f m. body_taken (with_variant name at.owner) at Begun done f body (symbol.VariantList ∷ []) outer items m))))

pub variant_read : IsVariantRead
variant_read = variant_items

-- ---- sets

set_named : (set : List ℕ) (at : Standing) (w : Word) (d : Draft) → is_utf8 set ≡ true → is_identifier set ≡ true → has_set set at.owner ≡ false → IsAt at d
    → (next : Draft) × IsAt (record at { owner = with_set set at.owner }) next × (placed w.start (set_name_act (quoted set) d) ≡ Ok next)
unfolding set_name_act begun_set
set_named set at w d utf8 identifier new h = (
  record d { owner = with_set set d.owner },
  record { stands = ap (λ (p : Standing). record p { owner = with_set set p.owner }) h.stands; free = h.free; shut = h.shut; shallow = h.shallow },
  ap (placed w.start)
      (ap (λ o. and_then (if_named is_identifier o) (λ name. begun_set name d)) (string_means set utf8)
      ∙ ap (λ b. and_then (if b then Ok set else Err Syntax) (λ name. begun_set name d)) identifier
      ∙ ap (λ (p : Standing). if has_set set p.owner then Err DuplicateSpec else Ok (record d { owner = with_set set d.owner })) h.stands
      ∙ ap (λ b. if b then Err DuplicateSpec else Ok (record d { owner = with_set set d.owner })) new),
)

pub set_read : IsSetRead
unfolding bodies_act prims_act layers_act statement_act open_act
set_read set at done variants utf8 identifier new items =
    let begun : Standing = record at { owner = with_set set at.owner } in
    let l : Left = items.left nothing_left in
    let tail : List Said = variants ++ close_brace ∷ [] in
    statement_items at (name_said (codes "variantSet")) (string_said (quoted set) ∷ equals ∷ open_brace ∷ tail) (symbol.SetName ∷ symbol.Equals ∷ symbol.OpenBrace ∷ symbol.VariantList ∷ symbol.CloseBrace ∷ []) (IsAt at) (Rests done) refl (λ below. refl)
    (λ w d h. (d, h, refl))
    (λ d h.
    together (symbol.SetName ∷ symbol.Equals ∷ symbol.OpenBrace ∷ symbol.VariantList ∷ symbol.CloseBrace ∷ []) (symbol.Equals ∷ symbol.OpenBrace ∷ symbol.VariantList ∷ symbol.CloseBrace ∷ []) [] d (string_said (quoted set) ∷ []) (equals ∷ open_brace ∷ tail)
    (IsAt begun) (Rests done)
    (word_taken (symbol.SetName ∷ symbol.Equals ∷ symbol.OpenBrace ∷ symbol.VariantList ∷ symbol.CloseBrace ∷ []) (symbol.Equals ∷ symbol.OpenBrace ∷ symbol.VariantList ∷ symbol.CloseBrace ∷ []) symbol.SetName d (string_said (quoted set)) (IsAt begun) h.shut
    (λ below. refl) (λ w. set_named set at w d utf8 identifier new h))
    (λ e k.
    together (symbol.Equals ∷ symbol.OpenBrace ∷ symbol.VariantList ∷ symbol.CloseBrace ∷ []) (symbol.OpenBrace ∷ symbol.VariantList ∷ symbol.CloseBrace ∷ []) [] e (equals ∷ []) (open_brace ∷ tail) (IsAt begun) (Rests done)
    (equals_taken (symbol.OpenBrace ∷ symbol.VariantList ∷ symbol.CloseBrace ∷ []) e k.shut (IsAt begun) k)
    (λ f m.
    together (symbol.OpenBrace ∷ symbol.VariantList ∷ symbol.CloseBrace ∷ []) (symbol.VariantList ∷ symbol.CloseBrace ∷ []) [] f (open_brace ∷ []) tail (IsAt begun) (Rests done)
    (last_word (symbol.OpenBrace ∷ symbol.VariantList ∷ symbol.CloseBrace ∷ []) (symbol.VariantList ∷ symbol.CloseBrace ∷ []) symbol.OpenBrace f f open_brace (IsAt begun) m.shut (λ below. refl)
    (λ w. ap (λ b. if b then Err (refused TooDeep w.start) else Ok f) m.shallow) m)
    (λ g n.
    together (symbol.VariantList ∷ symbol.CloseBrace ∷ []) ((l.symbols ++ symbol.VariantList ∷ []) ++ symbol.CloseBrace ∷ []) [] g variants (close_brace ∷ []) (IsAt done) (Rests done)
    (above (symbol.VariantList ∷ []) (l.symbols ++ symbol.VariantList ∷ []) (symbol.CloseBrace ∷ []) g variants (IsAt done) (items.taken nothing_left g n))
    (λ x o.
    last_word ((l.symbols ++ symbol.VariantList ∷ []) ++ symbol.CloseBrace ∷ []) [] symbol.CloseBrace x x close_brace (Rests done) o.shut
    (λ below. step_left l.symbols symbol.VariantList (symbol.CloseBrace ∷ []) below (as_word close_brace).kind l.each refl) (λ w. refl) (at_rest done x o))))))

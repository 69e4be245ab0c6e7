-- The metadata of a prim or a variant as a whole.
use Rattle.std.proofs.Common.{◌≡◌, false, List, [], ◌∷◌, ◌++◌, append_assoc, Ok, Err, ap, sym, refl, subst}
use Rattle.std.specs.Prelude.{if◌then◌else◌, codes}
use Rattle.sdf_paths.specs.Paths.{plain}
use Rattle.sdf_paths.specs.declared.element.Element.{Element}
use Rattle.sdf_values.specs.declared.refusal.RefusalKind.TheVariants.{TooDeep}
use Rattle.spec_parts.specs.declared.items.Specifier.{Specifier}
use Rattle.spec_parts.specs.declared.spec.Spec.{Spec}
use Rattle.usda_fields.specs.Owners.{owner_at, with_meta}
use Rattle.usda_fields.specs.declared.field.PathField.TheVariants as path_field
use Rattle.usda_fields.specs.declared.field.ReferenceField.TheVariants as reference_field
use Rattle.usda_fields.specs.declared.field.TextField.TheVariants as text_field
use Rattle.usda_fields.specs.declared.owner.OwnerDraft.{OwnerDraft}
use Rattle.usda_grammar.specs.declared.symbols.Symbol.{Symbol}
use Rattle.usda_grammar.specs.declared.symbols.Symbol.TheVariants as symbol
use Rattle.usda_words.specs.Words.{Word}
use Rattle.usda_drafts.specs.Acts.{bodies_act, prims_act, layers_act}
use Rattle.usda_drafts.specs.Prims.{open_act}
use Rattle.usda_drafts.specs.Refusals.{refused}
use Rattle.usda_drafts.specs.declared.draft.Draft.{Draft}
use Rattle.value_texts.specs.Cuts.{Said}
use Rattle.value_texts.specs.ValueWords.{open_paren, close_paren, open_brace}
use Rattle.value_texts.specs.Words.{as_word}
use Rattle.layer_texts.specs.FieldWords.{meta_words, list_words, selection_words, spec_words, block_words}
use Rattle.layer_texts.specs.ListWords.{word, string_words, path_words, reference_words}
use Rattle.layer_reads.specs.Taking.{AreTaken}
use Rattle.layer_reads.proofs.Taking.{together, above}
use Rattle.layer_reads.specs.Fields.{with_strings, with_path_lists, with_references}
use Rattle.layer_reads.specs.Items.{Left, AreItems}
use Rattle.layer_reads.specs.Kept.{lists_of, has_items}
use Rattle.layer_reads.specs.Selections.{with_selected}
use Rattle.layer_reads.specs.Specs.{IsSpecKept, behind_metadata, IsMetadataRead, IsBlockRead}
use Rattle.layer_reads.specs.Standing.{Standing, saying, IsAt}
use Rattle.layer_reads.proofs.Fields.{strings_read, paths_read, references_read}
use Rattle.layer_reads.proofs.Items.{items_both, nothing_left, step_left}
use Rattle.layer_reads.proofs.OwnerMeta.{prim_meta}
use Rattle.layer_reads.proofs.Selections.{selections_read}
use Rattle.layer_reads.proofs.Words.{word_then, last_word, past}

module _ (path : List Element) (specifier : Specifier) (spec : Spec) (at : Standing) (kept : IsSpecKept (plain path) spec) where
  abbrev Said0 : OwnerDraft
  Said0 = owner_at path specifier

  abbrev Said1 : OwnerDraft
  Said1 = with_meta spec.body.meta Said0

  abbrev Said2 : OwnerDraft
  Said2 = with_strings text_field.ApiSchemas spec.body.api_schemas (lists_of spec.body.api_schemas) Said1

  abbrev Said3 : OwnerDraft
  Said3 = with_strings text_field.ClipSets spec.body.clip_sets (lists_of spec.body.clip_sets) Said2

  abbrev Said4 : OwnerDraft
  Said4 = with_path_lists path_field.Inherits spec.arcs.inherits (lists_of spec.arcs.inherits) Said3

  abbrev Said5 : OwnerDraft
  Said5 = with_strings text_field.VariantSets spec.arcs.variant_sets (lists_of spec.arcs.variant_sets) Said4

  abbrev Said6 : OwnerDraft
  Said6 = with_selected spec.arcs.selections (has_items spec.arcs.selections) Said5

  abbrev Said7 : OwnerDraft
  Said7 = with_references reference_field.References spec.arcs.references (lists_of spec.arcs.references) Said6

  abbrev Said8 : OwnerDraft
  Said8 = with_references reference_field.Payload spec.arcs.payloads (lists_of spec.arcs.payloads) Said7

  abbrev Is : OwnerDraft → Draft → Type 0
  Is s = IsAt (saying s at)

  metadata_items : AreItems symbol.PrimMetadata (spec_words spec) (Is Said0) (Is (behind_metadata path specifier spec))
  unfolding spec_words
  metadata_items =
      let w9 : List Said = list_words (word (codes "specializes")) path_words spec.arcs.specializes in
      let w8 : List Said = list_words (word (codes "payload")) reference_words spec.arcs.payloads in
      let w7 : List Said = list_words (word (codes "references")) reference_words spec.arcs.references in
      let w6 : List Said = selection_words spec.arcs.selections in
      let w5 : List Said = list_words (word (codes "variantSets")) string_words spec.arcs.variant_sets in
      let w4 : List Said = list_words (word (codes "inherits")) path_words spec.arcs.inherits in
      let w3 : List Said = list_words (word (codes "clipSets")) string_words spec.body.clip_sets in
      let w2 : List Said = list_words (word (codes "apiSchemas")) string_words spec.body.api_schemas in
      let w1 : List Said = meta_words spec.body.meta in
      let end : Draft → Type 0 = Is (behind_metadata path specifier spec) in
      items_both symbol.PrimMetadata (w1 ++ w2 ++ w3 ++ w4 ++ w5 ++ w6 ++ w7 ++ w8) w9 (Is Said0) (Is Said8) end
      (items_both symbol.PrimMetadata (w1 ++ w2 ++ w3 ++ w4 ++ w5 ++ w6 ++ w7) w8 (Is Said0) (Is Said7) (Is Said8)
      (items_both symbol.PrimMetadata (w1 ++ w2 ++ w3 ++ w4 ++ w5 ++ w6) w7 (Is Said0) (Is Said6) (Is Said7)
      (items_both symbol.PrimMetadata (w1 ++ w2 ++ w3 ++ w4 ++ w5) w6 (Is Said0) (Is Said5) (Is Said6)
      (items_both symbol.PrimMetadata (w1 ++ w2 ++ w3 ++ w4) w5 (Is Said0) (Is Said4) (Is Said5)
      (items_both symbol.PrimMetadata (w1 ++ w2 ++ w3) w4 (Is Said0) (Is Said3) (Is Said4)
      (items_both symbol.PrimMetadata (w1 ++ w2) w3 (Is Said0) (Is Said2) (Is Said3)
      (items_both symbol.PrimMetadata w1 w2 (Is Said0) (Is Said1) (Is Said2) (prim_meta spec.body.meta Said0 at kept.meta) (strings_read text_field.ApiSchemas spec.body.api_schemas Said1 at kept.api_schemas))
      (strings_read text_field.ClipSets spec.body.clip_sets Said2 at kept.clip_sets)) (paths_read path_field.Inherits spec.arcs.inherits Said3 at kept.inherits))
      (strings_read text_field.VariantSets spec.arcs.variant_sets Said4 at kept.variant_sets)) (selections_read spec.arcs.selections Said5 at kept.selections))
      (references_read reference_field.References spec.arcs.references Said6 at kept.references)) (references_read reference_field.Payload spec.arcs.payloads Said7 at kept.payloads))
      (paths_read path_field.Specializes spec.arcs.specializes Said8 at kept.specializes)

pub metadata_read : IsMetadataRead
metadata_read = metadata_items

-- ---- between brackets

opened : (w : Word) (d : Draft) → d.opening.is_too_deep ≡ false → open_act w.start d ≡ Ok d
unfolding open_act
opened w d h = ap (λ b. if b then Err (refused TooDeep w.start) else Ok d) h

pub block_taken : (words : List Said) (a b : Standing) (d : Draft) → AreItems symbol.PrimMetadata words (IsAt a) (IsAt b) → IsAt a d
    → AreTaken (symbol.MaybePrimMetadata ∷ symbol.OpenBrace ∷ []) d (block_words words ++ open_brace ∷ []) [] (IsAt b)
unfolding bodies_act prims_act layers_act
block_taken [] a b d items h =
    past symbol.MaybePrimMetadata (symbol.OpenBrace ∷ []) [] d open_brace [] (IsAt b) refl refl
    (last_word (symbol.OpenBrace ∷ []) [] symbol.OpenBrace d d open_brace (IsAt b) h.shut (λ below. refl) (λ w. opened w d h.shallow) (items.unsaid refl d h))
block_taken (x ∷ words) a b d items h =
    let back : List Symbol = symbol.CloseParen ∷ symbol.OpenBrace ∷ [] in
    let l : Left = items.left nothing_left in
    word_then (symbol.MaybePrimMetadata ∷ symbol.OpenBrace ∷ []) (symbol.PrimMetadata ∷ back) [] symbol.MaybePrimMetadata d d open_paren _ (IsAt b) h.shut (λ below. refl) (λ w. opened w d h.shallow)
    (subst (λ l. AreTaken (symbol.PrimMetadata ∷ back) d l [] (IsAt b)) (sym (append_assoc (x ∷ words) (close_paren ∷ []) (open_brace ∷ [])))
    (together (symbol.PrimMetadata ∷ back) ((l.symbols ++ symbol.PrimMetadata ∷ []) ++ back) [] d (x ∷ words) (close_paren ∷ open_brace ∷ []) (IsAt b) (IsAt b)
    (above (symbol.PrimMetadata ∷ []) (l.symbols ++ symbol.PrimMetadata ∷ []) back d (x ∷ words) (IsAt b) (items.taken nothing_left d h))
    (λ e k.
    word_then ((l.symbols ++ symbol.PrimMetadata ∷ []) ++ back) (symbol.OpenBrace ∷ []) [] symbol.CloseParen e e close_paren (open_brace ∷ []) (IsAt b) k.shut
    (λ below. step_left l.symbols symbol.PrimMetadata back below (as_word close_paren).kind l.each refl) (λ w. refl)
    (last_word (symbol.OpenBrace ∷ []) [] symbol.OpenBrace e e open_brace (IsAt b) k.shut (λ below. refl) (λ w. opened w e k.shallow) k))))

pub block_read : IsBlockRead
block_read path specifier spec at d kept h =
    block_taken (spec_words spec) (saying (owner_at path specifier) at) (saying (behind_metadata path specifier spec) at) d (metadata_read path specifier spec at kept) h

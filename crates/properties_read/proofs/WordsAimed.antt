-- Behind each word of the grammar, where a value is open or comes next, what is expected of it fits what it goes to, whatever that is.
use Rattle.std.proofs.Common.{◌≡◌, ◌∙◌, sym, ap, refl, subst, ℕ, true, false, not, ◌||◌, List, [], ◌∷◌, ◌++◌, Some, Ok, ◌⊎◌, inl, inr}
use Rattle.std.proofs.lemmas.Bool.{not-true}
use Rattle.plain_data.specs.Exact.{both_true}
use Rattle.usda_fields.specs.Owners as owner
use Rattle.usda_fields.specs.Variants as variants
use Rattle.usda_fields.specs.declared.keys.KeyRule.{KeyRule}
use Rattle.usda_grammar.specs.Table.{starts}
use Rattle.usda_grammar.specs.declared.kinds.Keyword.{Keyword}
use Rattle.usda_grammar.specs.declared.kinds.Keyword.TheVariants as word
use Rattle.usda_grammar.specs.declared.kinds.WordKind.{WordKind}
use Rattle.usda_grammar.specs.declared.kinds.WordKind.TheVariants as token
use Rattle.usda_grammar.specs.declared.symbols.Symbol.{Symbol}
use Rattle.usda_grammar.specs.declared.symbols.Symbol.TheVariants as symbol
use Rattle.usda_statements.specs.OpenValues.{is_open}
use Rattle.usda_values.specs.declared.shape.Shape.TheVariants.{Dictionary}
use Rattle.usda_words.specs.Words.{Word}
use Rattle.usda_drafts.specs.Acts.{layers_act, prims_act, bodies_act}
use Rattle.usda_drafts.specs.Metadata.{key_act, variants_act, edited_act, prim_item_act, head_item_act, property_key_act, property_item_act}
use Rattle.usda_drafts.specs.Values.{aimed, aimed_at_key, with_said}
use Rattle.usda_drafts.specs.declared.aim.Goal.{Goal}
use Rattle.usda_drafts.specs.declared.aim.Goal.TheVariants as goal
use Rattle.usda_drafts.specs.declared.draft.Draft.{Draft}
use Rattle.layer_reads.specs.Keys.{is_plain_key, is_plain_head_key}
use Rattle.value_texts.proofs.Tests.{other_holds}
use Rattle.properties_read.specs.Aims.{awaits_value, leads_to_value, is_calm}
use Rattle.properties_read.proofs.Awaiting.{opens_still, starts_still}
use Rattle.properties_read.proofs.Drafts.{then_made}
use Rattle.properties_read.proofs.Aimed.{same_draft, first_aimed, AimsOr, still, unless_still, mark_aimed, brackets_aimed, tail_aims, samples_aim, Expects}

-- behind a symbol that leads to no value, none comes next
pub none_behind : (s : Symbol) (rest : List Symbol) → leads_to_value s ≡ false → is_calm (s ∷ rest) ≡ true → awaits_value rest ≡ false
none_behind s rest h calm =
    let p = both_true (leads_to_value s || not (awaits_value rest)) (is_calm rest) calm in
    not-true (awaits_value rest) (other_holds (leads_to_value s) (not (awaits_value rest)) h p.0)

-- ---- marks, which are one word

mark_pushes : (k : WordKind) (pushed : List Symbol) → starts symbol.MaybeBrackets k ≡ Some pushed → pushed ≡ symbol.CloseBracket ∷ []
mark_pushes token.OpenBracket pushed e = cc
mark_pushes k pushed e = absurd cc

equals_pushes : (k : WordKind) (pushed : List Symbol) → starts symbol.Equals k ≡ Some pushed → pushed ≡ []
equals_pushes token.Equals pushed e = cc
equals_pushes k pushed e = absurd cc

colon_pushes : (k : WordKind) (pushed : List Symbol) → starts symbol.Colon k ≡ Some pushed → pushed ≡ []
colon_pushes token.Colon pushed e = cc
colon_pushes k pushed e = absurd cc

brace_pushes : (k : WordKind) (pushed : List Symbol) → starts symbol.CloseBrace k ≡ Some pushed → pushed ≡ []
brace_pushes token.CloseBrace pushed e = cc
brace_pushes k pushed e = absurd cc

bracket_pushes : (k : WordKind) (pushed : List Symbol) → starts symbol.CloseBracket k ≡ Some pushed → pushed ≡ []
bracket_pushes token.CloseBracket pushed e = cc
bracket_pushes k pushed e = absurd cc

-- What is known of a word where it stands makes what is expected at a key: at one of a prim or a variant, of the layer, behind an edit word
-- that is a key itself, and at one of a property.
pub record AimsKeys (At : Goal → Draft → Type 0) (Known : Symbol → WordKind → Word → Draft → Type 0) : Type 0 where
  pub prim : (x : Keyword) (w : Word) (rule : KeyRule) (d : Draft) → is_plain_key x ≡ true → Known symbol.PrimMetadata (token.Word x) w d → At goal.OwnerKey (aimed_at_key goal.OwnerKey w.text rule d)
  pub head : (x : Keyword) (w : Word) (rule : KeyRule) (d : Draft) → is_plain_head_key x ≡ true → Known symbol.HeadItems (token.Word x) w d → At goal.OwnerKey (aimed_at_key goal.OwnerKey w.text rule d)
  pub edited : (w : Word) (rule : KeyRule) (d : Draft) → Known symbol.EditedField token.Equals w d → At goal.OwnerKey (aimed_at_key goal.OwnerKey d.word rule d)
  pub property : (x : Keyword) (w : Word) (d next : Draft) → Known symbol.PropertyMetadata (token.Word x) w d → property_key_act w d ≡ Ok next → At next.aim.goal next

module _ (At : Goal → Draft → Type 0) (Known : Symbol → WordKind → Word → Draft → Type 0) (expects : Expects At) (keys : AimsKeys At Known) where
  -- what is expected of the next value of the draft
  abbrev Is : Draft → Type 0
  Is d = At d.aim.goal d

  -- ---- words of owners

  key_aims : (key : List ℕ) (at : ℕ) (d next : Draft) → ((rule : KeyRule) → At goal.OwnerKey (aimed_at_key goal.OwnerKey key rule d)) → key_act key at d ≡ Ok next → Is next
  unfolding key_act aimed_at_key
  key_aims key at d next known e =
      let m = then_made at (owner.key_act key d.owner.said) (λ (rule : KeyRule). aimed_at_key goal.OwnerKey key rule d) next e in
      subst Is {x = aimed_at_key goal.OwnerKey key m.0 d} m.1.1 (known m.0)

  variants_aims : (w : Word) (d next : Draft) → variants_act w d ≡ Ok next → Is next
  unfolding variants_act
  variants_aims w d next e =
      let m = then_made w.start (variants.variants_act d.owner.said) (λ said. aimed goal.Variants Dictionary (with_said d said)) next e in
      subst Is {x = aimed goal.Variants Dictionary (with_said d m.0)} m.1.1 (expects.chosen (aimed goal.Variants Dictionary (with_said d m.0)))

  -- ---- words behind which a value may come next

  metadata_aims : (k : WordKind) (w : Word) (d next : Draft) (pushed : List Symbol) → starts symbol.PrimMetadata k ≡ Some pushed → Known symbol.PrimMetadata k w d → prim_item_act k w d ≡ Ok next → AimsOr At pushed next
  unfolding prim_item_act
  metadata_aims (token.Word word.StringField) w d next pushed e known a = still At (symbol.Equals ∷ symbol.StringList ∷ symbol.MaybeSemicolon ∷ symbol.PrimMetadata ∷ []) pushed next refl e
  metadata_aims (token.Word word.PathField) w d next pushed e known a = still At (symbol.Equals ∷ symbol.PathList ∷ symbol.MaybeSemicolon ∷ symbol.PrimMetadata ∷ []) pushed next refl e
  metadata_aims (token.Word word.ReferenceField) w d next pushed e known a = still At (symbol.Equals ∷ symbol.ReferenceList ∷ symbol.MaybeSemicolon ∷ symbol.PrimMetadata ∷ []) pushed next refl e
  metadata_aims (token.Word word.Edit) w d next pushed e known a = still At (symbol.EditedField ∷ symbol.MaybeSemicolon ∷ symbol.PrimMetadata ∷ []) pushed next refl e
  metadata_aims (token.Word word.Reorder) w d next pushed e known a = still At (symbol.EditedField ∷ symbol.MaybeSemicolon ∷ symbol.PrimMetadata ∷ []) pushed next refl e
  metadata_aims token.Quoted w d next pushed e known a = still At (symbol.MaybeSemicolon ∷ symbol.PrimMetadata ∷ []) pushed next refl e
  metadata_aims (token.Word word.Variants) w d next pushed e known a = inl (variants_aims w d next a)
  metadata_aims (token.Word x) w d next pushed e known a = inl (key_aims w.text w.start d next (λ rule. keys.prim x w rule d refl known) a)
  metadata_aims k w d next pushed e known a = absurd cc

  head_aims : (k : WordKind) (w : Word) (d next : Draft) (pushed : List Symbol) → starts symbol.HeadItems k ≡ Some pushed → Known symbol.HeadItems k w d → head_item_act k w d ≡ Ok next → AimsOr At pushed next
  unfolding head_item_act
  head_aims (token.Word word.SubLayers) w d next pushed e known a = still At (symbol.Equals ∷ symbol.SubLayerList ∷ symbol.MaybeSemicolon ∷ symbol.HeadItems ∷ []) pushed next refl e
  head_aims token.Quoted w d next pushed e known a = still At (symbol.MaybeSemicolon ∷ symbol.HeadItems ∷ []) pushed next refl e
  head_aims (token.Word x) w d next pushed e known a = inl (key_aims w.text w.start d next (λ rule. keys.head x w rule d refl known) a)
  head_aims k w d next pushed e known a = absurd cc

  edited_aims : (k : WordKind) (w : Word) (d next : Draft) (pushed : List Symbol) → starts symbol.EditedField k ≡ Some pushed → Known symbol.EditedField k w d → edited_act k w d ≡ Ok next → AimsOr At pushed next
  unfolding edited_act
  edited_aims token.Equals w d next pushed e known a = inl (key_aims d.word d.word_at d next (λ rule. keys.edited w rule d known) a)
  edited_aims (token.Word word.StringField) w d next pushed e known a = still At (symbol.Equals ∷ symbol.StringList ∷ []) pushed next refl e
  edited_aims (token.Word word.PathField) w d next pushed e known a = still At (symbol.Equals ∷ symbol.PathList ∷ []) pushed next refl e
  edited_aims (token.Word word.ReferenceField) w d next pushed e known a = still At (symbol.Equals ∷ symbol.ReferenceList ∷ []) pushed next refl e
  edited_aims k w d next pushed e known a = absurd cc

  property_aims : (k : WordKind) (w : Word) (d next : Draft) (pushed : List Symbol) → starts symbol.PropertyMetadata k ≡ Some pushed → Known symbol.PropertyMetadata k w d → property_item_act k w d ≡ Ok next → AimsOr At pushed next
  unfolding property_item_act
  property_aims (token.Word x) w d next pushed e known a = inl (keys.property x w d next known a)
  property_aims token.Quoted w d next pushed e known a = still At (symbol.MaybeSemicolon ∷ symbol.PropertyMetadata ∷ []) pushed next refl e
  property_aims k w d next pushed e known a = absurd cc

  -- ---- all symbols

  pub word_aimed : (s : Symbol) (w : Word) (d next : Draft) (pushed below : List Symbol) → starts s w.kind ≡ Some pushed → is_calm (s ∷ below) ≡ true → Known s w.kind w d
      → (awaits_value (s ∷ below) ≡ true → Is d) → is_open d.value ≡ false → bodies_act s w d ≡ Ok next
      → (is_open next.value ≡ true) ⊎ (awaits_value (pushed ++ below) ≡ true) → Is next
  unfolding bodies_act prims_act layers_act
  word_aimed symbol.Value w d next pushed below e calm known aimed shut b h = first_aimed At expects w d next b (aimed refl)
  word_aimed symbol.Dictionary w d next pushed below e calm known aimed shut b h = first_aimed At expects w d next b (aimed refl)
  word_aimed symbol.MembersOrEnd w d next pushed below e calm known aimed shut b h = subst Is (same_draft d next b) (aimed refl)
  word_aimed symbol.MoreMembers w d next pushed below e calm known aimed shut b h = subst Is (same_draft d next b) (aimed refl)
  word_aimed symbol.ElementsOrEnd w d next pushed below e calm known aimed shut b h = subst Is (same_draft d next b) (aimed refl)
  word_aimed symbol.MoreElements w d next pushed below e calm known aimed shut b h = subst Is (same_draft d next b) (aimed refl)
  word_aimed symbol.DictionaryEntries w d next pushed below e calm known aimed shut b h = subst Is (same_draft d next b) (aimed refl)
  word_aimed symbol.EntryKey w d next pushed below e calm known aimed shut b h = subst Is (same_draft d next b) (aimed refl)
  word_aimed symbol.MaybeSeparator w d next pushed below e calm known aimed shut b h = subst Is (same_draft d next b) (aimed refl)
  word_aimed symbol.Equals w d next pushed below e calm known aimed shut b h = mark_aimed At d next pushed below (equals_pushes w.kind pushed e) aimed shut (same_draft d next b) h
  word_aimed symbol.Colon w d next pushed below e calm known aimed shut b h = mark_aimed At d next pushed below (colon_pushes w.kind pushed e) aimed shut (same_draft d next b) h
  word_aimed symbol.CloseBrace w d next pushed below e calm known aimed shut b h = mark_aimed At d next pushed below (brace_pushes w.kind pushed e) aimed shut (same_draft d next b) h
  word_aimed symbol.CloseBracket w d next pushed below e calm known aimed shut b h = mark_aimed At d next pushed below (bracket_pushes w.kind pushed e) aimed shut (same_draft d next b) h
  word_aimed symbol.MaybeBrackets w d next pushed below e calm known aimed shut b h = brackets_aimed At expects w d next pushed below (mark_pushes w.kind pushed e) aimed shut b h
  word_aimed symbol.PrimMetadata w d next pushed below e calm known aimed shut b h =
      unless_still At symbol.PrimMetadata w d next pushed below refl shut b (none_behind symbol.PrimMetadata below refl calm) (metadata_aims w.kind w d next pushed e known b) h
  word_aimed symbol.HeadItems w d next pushed below e calm known aimed shut b h =
      unless_still At symbol.HeadItems w d next pushed below refl shut b (none_behind symbol.HeadItems below refl calm) (head_aims w.kind w d next pushed e known b) h
  word_aimed symbol.EditedField w d next pushed below e calm known aimed shut b h =
      unless_still At symbol.EditedField w d next pushed below refl shut b (none_behind symbol.EditedField below refl calm) (edited_aims w.kind w d next pushed e known b) h
  word_aimed symbol.MaybeAttributeTail w d next pushed below e calm known aimed shut b h =
      unless_still At symbol.MaybeAttributeTail w d next pushed below refl shut b (none_behind symbol.MaybeAttributeTail below refl calm) (tail_aims At expects w.kind d next pushed e b) h
  word_aimed symbol.SamplesOrEnd w d next pushed below e calm known aimed shut b h =
      unless_still At symbol.SamplesOrEnd w d next pushed below refl shut b (none_behind symbol.SamplesOrEnd below refl calm) (samples_aim At expects w.kind w d next pushed e b) h
  word_aimed symbol.PropertyMetadata w d next pushed below e calm known aimed shut b h =
      unless_still At symbol.PropertyMetadata w d next pushed below refl shut b (none_behind symbol.PropertyMetadata below refl calm) (property_aims w.kind w d next pushed e known b) h
  word_aimed s w d next pushed below e calm known aimed shut b h =
      unless_still At s w d next pushed below refl shut b (none_behind s below refl calm) (inr (not-true (awaits_value pushed) (both_true (is_calm pushed) (not (awaits_value pushed)) (ap opens_still (sym e) ∙ starts_still s w.kind refl)).1)) h

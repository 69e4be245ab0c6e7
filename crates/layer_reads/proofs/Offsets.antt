-- The words of an offset and a scale behind an item.
use Rattle.std.proofs.Common.{◌≡◌, ◌∙◌, ◌<◌, ◌^◌, ◌&&◌, Bool, true, false, T, List, [], ◌∷◌, Some, Ok, Err, ap, sym, refl, arith}
use Rattle.std.specs.Prelude.{if◌then◌else◌, codes, ℤ, pos, unsigned_abs, nat_le, int_le}
use Rattle.std.specs.Fmt.{signed_decimal}
use Rattle.std.proofs.lemmas.Bool.Decides.{nat_tests}
use Rattle.sdf_values.specs.Scales.{Offset, IsOffset}
use Rattle.sdf_values.specs.declared.refusal.RefusalKind.TheVariants.{OffsetRange}
use Rattle.usda_grammar.specs.declared.symbols.Symbol.{Symbol}
use Rattle.usda_grammar.specs.declared.symbols.Symbol.TheVariants as symbol
use Rattle.usda_lists.specs.Offsets.{identity, offset_act, with_number, with_part}
use Rattle.usda_lists.specs.declared.offset.OffsetKey.{OffsetKey}
use Rattle.usda_lists.specs.declared.offset.OffsetKey.TheVariants as key
use Rattle.usda_statements.specs.OpenValues.{is_open}
use Rattle.usda_words.specs.Words.{Word}
use Rattle.usda_drafts.specs.Acts.{bodies_act, prims_act, layers_act}
use Rattle.usda_drafts.specs.Lists.{offset_key_act, number_act}
use Rattle.usda_drafts.specs.declared.draft.Draft.{Draft}
use Rattle.value_texts.specs.ValueWords.{name_said, number_said, open_paren, close_paren, equals, semicolon}
use Rattle.value_texts.proofs.WholeLeaves.{small_writable, whole_read}
use Rattle.layer_texts.specs.ListWords.{words_unless_identity}
use Rattle.layer_texts.proofs.Paths.{scale_short}
use Rattle.layer_reads.specs.Taking.{AreTaken}
use Rattle.layer_reads.proofs.Words.{saying_word, word_then, last_word}

holds : (b : Bool) → T b → b ≡ true
holds true h = refl
holds false h = absurd h

-- a number that is printed is read as the number
number_read : (k : OffsetKey) (n : ℤ) (o : Offset) → unsigned_abs n < 10 ^ 34 → offset_act k (signed_decimal n) o ≡ with_part k (Some n) o
number_read k n o h =
    let w = small_writable n h in
    let r = whole_read n w.0 in
    ap (λ t. offset_act k t o) (sym w.1) ∙ ap (λ x. with_number k x o) r.1 ∙ ap (λ x. with_part k x o) r.2

pub offset_read : (o p : Offset) → IsOffset o → offset_act key.Offset (signed_decimal o.offset) p ≡ Ok (record p { offset = o.offset })
offset_read o p h =
    number_read key.Offset o.offset p (let e = h.offset_within in omega (arith, e))
    ∙ ap (λ b. if b then Ok (record p { offset = o.offset }) else Err OffsetRange) within
  where
    within : nat_le (unsigned_abs o.offset) 1000000000 ≡ true
    within = let e = h.offset_within in grind (arith, nat_tests)

pub scale_read : (o p : Offset) → IsOffset o → offset_act key.Scale (signed_decimal o.scale) p ≡ Ok (record p { scale = o.scale })
scale_read o p h =
    number_read key.Scale o.scale p (scale_short o.scale h.scale_least h.scale_most)
    ∙ ap (λ b. if b && int_le o.scale (pos 1000000) then Ok (record p { scale = o.scale }) else Err OffsetRange) (holds (int_le (pos 1) o.scale) h.scale_least.le)
    ∙ ap (λ b. if b then Ok (record p { scale = o.scale }) else Err OffsetRange) (holds (int_le o.scale (pos 1000000)) h.scale_most.le)

-- ---- the words, whatever item they belong to: `Has` is the draft whose last item has this offset, with the key whose number comes next

module _ (Has : Offset → OffsetKey → Draft) (shut : (o : Offset) (k : OffsetKey) → is_open (Has o k).value ≡ false) (keyed : (o : Offset) (k l : OffsetKey) → record (Has o k) { offset_key = l } ≡ Has o l)
    (numbered : (o p : Offset) (k : OffsetKey) (w : Word) → offset_act k w.text o ≡ Ok p → number_act (Has o k).list w (Has o k) ≡ Ok (Has p k)) where
  key_acts : (o : Offset) (k l : OffsetKey) (w : Word) → offset_key_act w (Has o k) ≡ Ok (record (Has o k) { offset_key = l }) → offset_key_act w (Has o k) ≡ Ok (Has o l)
  key_acts o k l w h = h ∙ ap Ok (keyed o k l)

  pub offset_taken : (o : Offset) (k : OffsetKey) (After : Draft → Type 0) → IsOffset o → After (Has o key.Scale) → AreTaken (symbol.MaybeOffsets ∷ []) (Has identity k) (words_unless_identity false o) [] After
  unfolding bodies_act prims_act layers_act offset_key_act
  offset_taken o k After h is =
      let items : List Symbol = symbol.OffsetItems ∷ symbol.CloseParen ∷ [] in
      let more : List Symbol = symbol.MaybeSemicolon ∷ items in
      let half : Offset = record identity { offset = o.offset } in
      word_then (symbol.MaybeOffsets ∷ []) items [] symbol.MaybeOffsets (Has identity k) (Has identity k) open_paren _ After (shut identity k) (λ below. refl) (λ w. refl)
      (word_then items (symbol.Equals ∷ symbol.OffsetNumber ∷ more) [] symbol.OffsetItems (Has identity k) (Has identity key.Offset) (name_said (codes "offset")) _ After (shut identity k) (λ below. refl)
      (λ w. key_acts identity k key.Offset (saying_word (name_said (codes "offset")) w) refl)
      (word_then (symbol.Equals ∷ symbol.OffsetNumber ∷ more) (symbol.OffsetNumber ∷ more) [] symbol.Equals (Has identity key.Offset) (Has identity key.Offset) equals _ After (shut identity key.Offset) (λ below. refl) (λ w. refl)
      (word_then (symbol.OffsetNumber ∷ more) more [] symbol.OffsetNumber (Has identity key.Offset) (Has half key.Offset) (number_said (signed_decimal o.offset)) _ After (shut identity key.Offset) (λ below. refl)
      (λ w. numbered identity half key.Offset (saying_word (number_said (signed_decimal o.offset)) w) (offset_read o identity h))
      (word_then more items [] symbol.MaybeSemicolon (Has half key.Offset) (Has half key.Offset) semicolon _ After (shut half key.Offset) (λ below. refl) (λ w. refl)
      (word_then items (symbol.Equals ∷ symbol.OffsetNumber ∷ more) [] symbol.OffsetItems (Has half key.Offset) (Has half key.Scale) (name_said (codes "scale")) _ After (shut half key.Offset) (λ below. refl)
      (λ w. key_acts half key.Offset key.Scale (saying_word (name_said (codes "scale")) w) refl)
      (word_then (symbol.Equals ∷ symbol.OffsetNumber ∷ more) (symbol.OffsetNumber ∷ more) [] symbol.Equals (Has half key.Scale) (Has half key.Scale) equals _ After (shut half key.Scale) (λ below. refl) (λ w. refl)
      (word_then (symbol.OffsetNumber ∷ more) more [] symbol.OffsetNumber (Has half key.Scale) (Has o key.Scale) (number_said (signed_decimal o.scale)) _ After (shut half key.Scale) (λ below. refl)
      (λ w. numbered half o key.Scale (saying_word (number_said (signed_decimal o.scale)) w) (scale_read o half h))
      (last_word more [] symbol.CloseParen (Has o key.Scale) (Has o key.Scale) close_paren After (shut o key.Scale) (λ below. refl) (λ w. refl) is))))))))

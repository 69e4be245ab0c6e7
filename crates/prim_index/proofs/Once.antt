-- Items each once by their texts, with a table of the texts that were met.
use Rattle.std.proofs.Common.{◌≡◌, ◌∙◌, sym, ap, refl, ℕ, ◌+◌, ◌<◌, Bool, true, false, cond, ◌||◌, List, [], ◌∷◌, ◌++◌, take, drop, length, get_or, Option, Some, inl, inr}
use Rattle.std.specs.List.{list_any}
use Rattle.std.specs.Option.{is_some}
use Rattle.std.proofs.lemmas.Bool.{cases_Bool}
use Rattle.std.proofs.lemmas.List.Folds.{list_any_more}
use Rattle.list_ops.specs.ListEdits.{firsts, without}
use Rattle.list_ops.proofs.EditLemmas.{firsts_more, without_none}

or_true : (b : Bool) → true ≡ (b || true)
or_true true = refl
or_true false = refl

or_false : (b : Bool) → b ≡ (b || false)
or_false true = refl
or_false false = refl

module _ {K T : Type 0} (same : K → K → Bool) (text_of : T → K) where
  -- items of one text are one
  abbrev pub same_item : T → T → Bool
  same_item a b = same (text_of a) (text_of b)

  -- what is met are the texts of these items
  abbrev pub AreMet : (K → Option Bool) → List T → Type 0
  AreMet met items = (q : K) → is_some (met q) ≡ list_any (λ y. same (text_of y) q) items

  -- those that are kept of the first items, and what will be kept of the others
  abbrev pub so_far : List T → ℕ → List T → List T
  so_far items i once = once ++ without same_item (firsts same_item (drop i items)) (take i items)

  pub none_so_far : (items : List T) → so_far items 0 [] ≡ firsts same_item items
  none_so_far items = without_none same_item (firsts same_item items)

  module _ (items : List T) (i : ℕ) (x : T) (met : K → Option Bool) (once whole : List T) (within : i < length items) (item : x ≡ get_or items i x) (are_met : AreMet met (take i items))
      (before : so_far items i once ≡ whole) (has : Bool) (told : has ≡ is_some (met (text_of x))) where
    pub kept_once : has ≡ false → so_far items (i + 1) (once ++ x ∷ []) ≡ whole
    kept_once new =
        firsts_more same_item items once (once ++ x ∷ []) i x whole within item
        (ap (λ (b : Bool). cond b once (once ++ x ∷ [])) (sym (sym (are_met (text_of x)) ∙ (sym told ∙ new)))) before

    pub passed_over : has ≡ true → so_far items (i + 1) once ≡ whole
    passed_over old =
        firsts_more same_item items once once i x whole within item
        (ap (λ (b : Bool). cond b once (once ++ x ∷ [])) (sym (sym (are_met (text_of x)) ∙ (sym told ∙ old)))) before

  module _ (exact : (a b : K) → same a b ≡ true → a ≡ b) where
    alike : (a b : K) → a ≡ b → same a b ≡ same b a
    alike a b e = ap (λ (k : K). same a k) (sym e) ∙ ap (λ (k : K). same k a) e

    either_way : (a b : K) → same a b ≡ same b a
    either_way a b = elim (cases_Bool (same a b)) [
      | inl one ↦ alike a b (exact a b one)
      | inr two ↦ elim (cases_Bool (same b a)) [ inl one ↦ alike a b (sym (exact b a one)) | inr also ↦ two ∙ sym also ]
    ]

    module _ (items : List T) (i : ℕ) (x : T) (met : K → Option Bool) (within : i < length items) (item : x ≡ get_or items i x) (are_met : AreMet met (take i items)) where
      one_more : (q : K) → list_any (λ y. same (text_of y) q) (take (i + 1) items) ≡ (is_some (met q) || same (text_of x) q)
      one_more q =
          list_any_more (λ y. same (text_of y) q) items i x within
          ∙ (ap (λ (y : T). list_any (λ z. same (text_of z) q) (take i items) || same (text_of y) q) (sym item)
          ∙ ap (λ (b : Bool). b || same (text_of x) q) (sym (are_met q)))

      -- an item of a text that was met changes nothing
      pub still_met : is_some (met (text_of x)) ≡ true → AreMet met (take (i + 1) items)
      still_met there q = elim (cases_Bool (same (text_of x) q)) [
        | inl one ↦
            let here : is_some (met q) ≡ true = ap (λ (k : K). is_some (met k)) (sym (exact (text_of x) q one)) ∙ there in
            here ∙ (or_true (is_some (met q)) ∙ (ap (λ (b : Bool). is_some (met q) || b) (sym one) ∙ sym (one_more q)))
        | inr other ↦ or_false (is_some (met q)) ∙ (ap (λ (b : Bool). is_some (met q) || b) (sym other) ∙ sym (one_more q))
      ]

      -- a new text is noted
      pub now_met : (next : K → Option Bool) → ((q : K) → next q ≡ cond (same q (text_of x)) (Some true) (met q)) → AreMet next (take (i + 1) items)
      now_met next noted q = elim (cases_Bool (same q (text_of x))) [
        | inl one ↦
            let back : same (text_of x) q ≡ true = either_way (text_of x) q ∙ one in
            ap is_some (noted q) ∙ (ap (λ (b : Bool). is_some (cond b (Some true) (met q))) one
            ∙ (or_true (is_some (met q)) ∙ (ap (λ (b : Bool). is_some (met q) || b) (sym back) ∙ sym (one_more q))))
        | inr other ↦
            let back : same (text_of x) q ≡ false = either_way (text_of x) q ∙ other in
            ap is_some (noted q) ∙ (ap (λ (b : Bool). is_some (cond b (Some true) (met q))) other
            ∙ (or_false (is_some (met q)) ∙ (ap (λ (b : Bool). is_some (met q) || b) (sym back) ∙ sym (one_more q))))
      ]

-- What says nothing of a list leaves it as it is, but for repeats, and those are dropped once.
use Rattle.std.proofs.Common.{◌≡◌, ◌∙◌, ap, sym, refl, ℕ, ◌+◌, ◌<◌, ◌==◌, Bool, true, false, not, cond, ◌||◌, List, [], ◌∷◌, filter, length, drop, get_or, Option, Some, None, append-nil, arith}
use Rattle.std.proofs.lemmas.Bool.Decides.{nat_tests}
use Rattle.std.proofs.lemmas.List.{at_drop_more, nil_from_length}
use Rattle.list_ops.specs.declared.op.ListOp.{ListOp}
use Rattle.list_ops.specs.ListEdits.{contains, without, firsts, until_listed, grouped, with_deleted, with_added, with_prepended, with_appended, edited, applied, all_applied}
use Rattle.list_ops.specs.Opinions.{has_items, has_edits, is_opinion}
use Rattle.list_ops.proofs.EditLemmas.{without_none}

-- ---- edits without items

neither : (a b : Bool) → (a || b) ≡ false → (a ≡ false) × (b ≡ false)
neither false b h = (refl, h)
neither true b h = absurd (cc h)

module _ {T : Type 0} (same : T → T → Bool) where
  until_none : (xs : List T) → until_listed same [] xs ≡ xs
  until_none [] = refl
  until_none (x ∷ xs) = ap (λ l. x ∷ l) (until_none xs)

  no_order : (xs : List T) → grouped same [] xs ≡ xs
  no_order xs = append-nil (until_listed same [] xs) ∙ until_none xs

  no_append : (xs : List T) → with_appended same [] xs ≡ xs
  no_append xs = append-nil (without same xs []) ∙ without_none same xs

  -- a list of length 0 has no items
  none_of : (xs : List T) → (length xs == 0) ≡ true → xs ≡ []
  none_of xs h = nil_from_length xs (zero (length xs) h)
    where
      zero : (n : ℕ) → (n == 0) ≡ true → n ≡ 0
      zero n is = grind (arith, nat_tests)

  -- an edit without items, as the length of its list tells
  pub nothing_deleted : (d xs : List T) → (length d == 0) ≡ true → firsts same xs ≡ with_deleted same d xs
  nothing_deleted d xs h = sym (ap (λ l. with_deleted same l xs) (none_of d h) ∙ without_none same (firsts same xs))

  pub nothing_added : (a xs : List T) → (length a == 0) ≡ true → xs ≡ with_added same a xs
  nothing_added a xs h = sym (ap (λ l. with_added same l xs) (none_of a h) ∙ append-nil xs)

  pub nothing_prepended : (p xs : List T) → (length p == 0) ≡ true → xs ≡ with_prepended same p xs
  nothing_prepended p xs h = sym (ap (λ l. with_prepended same l xs) (none_of p h) ∙ without_none same xs)

  pub nothing_appended : (b xs : List T) → (length b == 0) ≡ true → xs ≡ with_appended same b xs
  nothing_appended b xs h = sym (ap (λ l. with_appended same l xs) (none_of b h) ∙ no_append xs)

  pub nothing_ordered : (o xs : List T) → (length o == 0) ≡ true → xs ≡ grouped same (firsts same o) xs
  nothing_ordered o xs h = sym (ap (λ l. grouped same (firsts same l) xs) (none_of o h) ∙ no_order xs)

  -- what is added to the empty list
  pub added_to_none : (a xs : List T) → xs ≡ [] → firsts same a ≡ with_added same a xs
  added_to_none a xs none = sym (without_none same (firsts same a)) ∙ ap (with_added same a) (sym none)

  no_edits_with : (o b p a d xs : List T) → has_items d ≡ false → has_items a ≡ false → has_items p ≡ false → has_items b ≡ false → has_items o ≡ false
      → grouped same (firsts same o) (with_appended same b (with_prepended same p (with_added same a (with_deleted same d xs)))) ≡ firsts same xs
  no_edits_with (x ∷ o) b p a d xs hd ha hp hb ho = absurd (cc ho)
  no_edits_with [] (x ∷ b) p a d xs hd ha hp hb ho = absurd (cc hb)
  no_edits_with [] [] (x ∷ p) a d xs hd ha hp hb ho = absurd (cc hp)
  no_edits_with [] [] [] (x ∷ a) d xs hd ha hp hb ho = absurd (cc ha)
  no_edits_with [] [] [] [] (x ∷ d) xs hd ha hp hb ho = absurd (cc hd)
  no_edits_with [] [] [] [] [] xs hd ha hp hb ho =
      no_order (with_appended same [] (with_prepended same [] (with_added same [] (with_deleted same [] xs))))
      ∙ (no_append (with_prepended same [] (with_added same [] (with_deleted same [] xs)))
      ∙ (without_none same (with_added same [] (with_deleted same [] xs))
      ∙ (append-nil (with_deleted same [] xs)
      ∙ without_none same (firsts same xs))))

  nothing_edited : (op : ListOp T) (xs : List T) → has_edits op ≡ false → edited same op xs ≡ firsts same xs
  nothing_edited op xs h =
      let fourth = neither _ (has_items op.ordered) h in
      let third = neither _ (has_items op.appended) fourth.0 in
      let second = neither _ (has_items op.prepended) third.0 in
      let first = neither (has_items op.deleted) (has_items op.added) second.0 in
      no_edits_with op.ordered op.appended op.prepended op.added op.deleted xs first.0 first.1 second.1 third.1 fourth.1

  -- what is no opinion drops repeats alone
  pub nothing_applied : (op : ListOp T) (xs : List T) → is_opinion op ≡ false → applied same op xs ≡ firsts same xs
  nothing_applied op xs h = by op.explicit h
    where
      by : (e : Option (List T)) → (elim e as (λ _. Bool) [ Some ys ↦ true | None ↦ has_edits op ]) ≡ false
          → (elim e as (λ _. List T) [ Some ys ↦ firsts same ys | None ↦ edited same op xs ]) ≡ firsts same xs
      by (Some ys) none = absurd (cc none)
      by None none = nothing_edited op xs none

-- ---- lists without repeats

filters_commute : {T : Type 0} (p q : T → Bool) (xs : List T) → filter p (filter q xs) ≡ filter q (filter p xs)
filters_commute p q [] = refl
filters_commute p q (x ∷ xs) = by (filters_commute p q xs) (p x) (q x) refl refl
  where
    by : filter p (filter q xs) ≡ filter q (filter p xs) → (a b : Bool) → p x ≡ a → q x ≡ b → filter p (cond b (x ∷ filter q xs) (filter q xs)) ≡ filter q (cond a (x ∷ filter p xs) (filter p xs))
    by behind true true first second =
        ap (λ c. cond c (x ∷ filter p (filter q xs)) (filter p (filter q xs))) first
        ∙ (ap (λ l. x ∷ l) behind ∙ sym (ap (λ c. cond c (x ∷ filter q (filter p xs)) (filter q (filter p xs))) second))
    by behind true false first second = behind ∙ sym (ap (λ c. cond c (x ∷ filter q (filter p xs)) (filter q (filter p xs))) second)
    by behind false true first second = ap (λ c. cond c (x ∷ filter p (filter q xs)) (filter p (filter q xs))) first ∙ behind
    by behind false false first second = behind

filtered_once : {T : Type 0} (p : T → Bool) (xs : List T) → filter p (filter p xs) ≡ filter p xs
filtered_once p [] = refl
filtered_once p (x ∷ xs) = by (filtered_once p xs) (p x) refl
  where
    by : filter p (filter p xs) ≡ filter p xs → (a : Bool) → p x ≡ a → filter p (cond a (x ∷ filter p xs) (filter p xs)) ≡ cond a (x ∷ filter p xs) (filter p xs)
    by behind true is = ap (λ c. cond c (x ∷ filter p (filter p xs)) (filter p (filter p xs))) is ∙ ap (λ l. x ∷ l) behind
    by behind false is = behind

module _ {T : Type 0} (same : T → T → Bool) where
  -- no item stands again behind itself
  abbrev Apart : List T → Type 0
  Apart [] = Unit {0}
  Apart (x ∷ xs) = (without same xs (x ∷ []) ≡ xs) × Apart xs

  apart_left : (out ys : List T) → Apart ys → Apart (without same ys out)
  apart_left out [] apart = apart
  apart_left out (y ∷ ys) apart = by (apart_left out ys apart.1) (not (contains same out y))
    where
      by : Apart (without same ys out) → (b : Bool) → Apart (cond b (y ∷ without same ys out) (without same ys out))
      by behind true = (
        filters_commute (λ z. not (contains same (y ∷ []) z)) (λ z. not (contains same out z)) ys ∙ ap (λ l. without same l out) apart.0,
        behind,
      )
      by behind false = behind

  firsts_apart : (xs : List T) → Apart (firsts same xs)
  firsts_apart [] = tt
  firsts_apart (x ∷ xs) = (filtered_once (λ z. not (contains same (x ∷ []) z)) (firsts same xs), apart_left (x ∷ []) (firsts same xs) (firsts_apart xs))

  apart_firsts : (xs : List T) → Apart xs → firsts same xs ≡ xs
  apart_firsts [] apart = refl
  apart_firsts (x ∷ xs) apart = ap (λ l. x ∷ without same l (x ∷ [])) (apart_firsts xs apart.1) ∙ ap (λ l. x ∷ l) apart.0

  -- repeats are dropped once
  pub firsts_once : (xs : List T) → firsts same (firsts same xs) ≡ firsts same xs
  firsts_once xs = apart_firsts (firsts same xs) (firsts_apart xs)

  -- a list is known to have no repeats
  abbrev pub IsOnce : Bool → List T → Type 0
  IsOnce known xs = known ≡ true → firsts same xs ≡ xs

  -- one opinion more
  applied_more : (ops : List (ListOp T)) (i : ℕ) (op : ListOp T) (xs whole : List T) → i < length ops → op ≡ get_or ops i op → all_applied same (drop i ops) xs ≡ whole
      → all_applied same (drop (i + 1) ops) (applied same op xs) ≡ whole
  applied_more ops i op xs whole within is before =
      ap (λ y. all_applied same (y ∷ drop (i + 1) ops) xs) is ∙ (sym (at_drop_more (λ l. all_applied same l xs) ops i op within) ∙ before)

  module _ (ops : List (ListOp T)) (i : ℕ) (op : ListOp T) (xs next whole : List T) (within : i < length ops) (item : op ≡ get_or ops i op) (before : all_applied same (drop i ops) xs ≡ whole) where
    -- an opinion is applied, or what is none to a list that may have repeats
    pub step_applied : (told known : Bool) → next ≡ applied same op xs → told ≡ is_opinion op → known ≡ not told → (all_applied same (drop (i + 1) ops) next ≡ whole) × IsOnce known next
    step_applied told known is tells knows =
        (ap (all_applied same (drop (i + 1) ops)) is ∙ applied_more ops i op xs whole within item before, once told knows tells)
      where
        once : (told : Bool) → known ≡ not told → told ≡ is_opinion op → known ≡ true → firsts same next ≡ next
        once true knows tells so = absurd (cc (knows, so))
        once false knows tells so =
            let firsts_of : next ≡ firsts same xs = is ∙ nothing_applied same op xs (sym tells) in
            ap (firsts same) firsts_of ∙ (firsts_once xs ∙ sym firsts_of)

    -- what is no opinion is passed over
    pub step_passed : (known : Bool) → next ≡ xs → is_opinion op ≡ false → firsts same xs ≡ xs → (all_applied same (drop (i + 1) ops) next ≡ whole) × IsOnce known next
    step_passed known is none once = (
      ap (all_applied same (drop (i + 1) ops)) (is ∙ sym (nothing_applied same op xs none ∙ once)) ∙ applied_more ops i op xs whole within item before,
      λ so. ap (firsts same) is ∙ (once ∙ sym is),
    )

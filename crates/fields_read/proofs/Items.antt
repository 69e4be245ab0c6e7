-- Items of which something holds, and lists in which each stands once.
use Rattle.std.proofs.Common.{◌≡◌, ◌≤◌, ◌∙◌, ℕ, suc, Bool, true, false, not, cond, List, [], ◌∷◌, ◌++◌, Option, Some, None, Result, Ok, Err, length, refl, ap, sym, subst, arith}
use Rattle.std.specs.Option.{option_map}
use Rattle.std.specs.List.{filter}
use Rattle.std.proofs.lemmas.List.{length-append}
use Rattle.plain_data.specs.Ends.{last, front}
use Rattle.list_ops.specs.ListEdits.{contains, firsts}
use Rattle.sdf_values.specs.declared.refusal.RefusalKind.{RefusalKind}
use Rattle.usda_lists.specs.Acts.{and_then}
use Rattle.usda_lists.specs.Lists.{amended, amend_last}
use Rattle.layer_reads.specs.Kept.{AreKept}
use Rattle.value_texts.specs.Each.{AreAll}
use Rattle.value_texts.proofs.EachOf.{all_push, all_filter, all_front, all_last}
use Rattle.fields_read.specs.Lists.{IsAtMost}

-- ---- what holds of each

module _ {T : Type 0} (W : T → Type 0) where
  pub all_firsts : (same : T → T → Bool) (xs : List T) → AreAll W xs → AreAll W (firsts same xs)
  all_firsts same [] all = tt
  all_firsts same (x ∷ xs) all = (all.0, all_filter W (λ y. not (contains same (x ∷ []) y)) (firsts same xs) (all_firsts same xs all.1))

-- ---- each once

-- the test passes each of these
abbrev Pass : {T : Type 0} → (T → Bool) → List T → Type 0
Pass p xs = AreAll (λ x. p x ≡ true) xs

filter_passes : {T : Type 0} (p : T → Bool) (xs : List T) → Pass p (filter p xs)
filter_passes p [] = tt
filter_passes p (x ∷ xs) = by (p x) refl (filter_passes p xs)
  where
    by : (b : Bool) → p x ≡ b → Pass p (filter p xs) → Pass p (cond b (x ∷ filter p xs) (filter p xs))
    by true e rest = (e, rest)
    by false e rest = rest

filter_stays : {T : Type 0} (p : T → Bool) (xs : List T) → Pass p xs → filter p xs ≡ xs
filter_stays p [] h = refl
filter_stays p (x ∷ xs) h = ap (λ b. cond b (x ∷ filter p xs) (filter p xs)) h.0 ∙ ap (λ l. x ∷ l) (filter_stays p xs h.1)

module _ {T : Type 0} (same : T → T → Bool) where
  -- another item than x
  abbrev other : T → T → Bool
  other x y = not (contains same (x ∷ []) y)

  -- each is another item than those before it
  abbrev AreOnce : List T → Type 0
  AreOnce [] = Unit {0}
  AreOnce (x ∷ xs) = Pass (other x) xs × AreOnce xs

  once_filter : (p : T → Bool) (xs : List T) → AreOnce xs → AreOnce (filter p xs)
  once_filter p [] h = tt
  once_filter p (x ∷ xs) h = by (p x) (once_filter p xs h.1)
    where
      by : (b : Bool) → AreOnce (filter p xs) → AreOnce (cond b (x ∷ filter p xs) (filter p xs))
      by true rest = (all_filter (λ y. other x y ≡ true) p xs h.0, rest)
      by false rest = rest

  firsts_once : (xs : List T) → AreOnce (firsts same xs)
  firsts_once [] = tt
  firsts_once (x ∷ xs) = (filter_passes (other x) (firsts same xs), once_filter (other x) (firsts same xs) (firsts_once xs))

  once_stays : (xs : List T) → AreOnce xs → firsts same xs ≡ xs
  once_stays [] h = refl
  once_stays (x ∷ xs) h = ap (λ l. x ∷ l) (ap (filter (other x)) (once_stays xs h.1) ∙ filter_stays (other x) xs h.0)

  -- where repeats are dropped, none is left
  pub firsts_kept : (W : T → Type 0) (xs : List T) → AreAll W xs → AreKept same W (firsts same xs)
  firsts_kept W xs all = record { each = all_firsts W same xs all; once = once_stays (firsts same xs) (firsts_once xs) }

  -- among one item or none there are no repeats
  pub few_stay : (n : ℕ) (xs : List T) → n ≤ 1 → length xs ≤ n → firsts same xs ≡ xs
  few_stay n [] one few = refl
  few_stay n (x ∷ []) one few = refl
  few_stay n (x ∷ y ∷ xs) one few = absurd (omega arith)

-- ---- how many there are

pub more_push : {T : Type 0} (most : Option ℕ) (xs : List T) (x : T) → IsAtMost most (length xs) → IsAtMost (option_map suc most) (length (xs ++ x ∷ []))
more_push None xs x few = tt
more_push (Some n) xs x few = omega (arith, length-append xs (x ∷ []))

-- ---- the last item, changed

front_length : {T : Type 0} (xs : List T) (x y : T) → last xs ≡ Some x → length (front xs ++ y ∷ []) ≡ length xs
front_length [] x y e = absurd cc
front_length (z ∷ []) x y e = refl
front_length (z ∷ w ∷ xs) x y e = ap suc (front_length (w ∷ xs) x y e)

-- ---- a change of the last item

-- what a change may make of an item: one that is such again
abbrev pub Keeps : {T : Type 0} → (T → Type 0) → (T → Result T RefusalKind) → Type 0
Keeps {T} W change = (x y : T) → W x → change x ≡ Ok y → W y

module _ {T : Type 0} (W : T → Type 0) (change : T → Result T RefusalKind) (keeps : Keeps W change) where
  -- the items behind it
  pub amend_keeps : (xs ys : List T) → AreAll W xs → amend_last change xs ≡ Ok ys → AreAll W ys
  amend_keeps xs ys all h = by (last xs) refl h
    where
      changed : (x : T) → last xs ≡ Some x → (r : Result T RefusalKind) → change x ≡ r → and_then r (λ new. Ok (front xs ++ new ∷ [])) ≡ Ok ys → AreAll W ys
      changed x e (Ok y) c g =
          let is : front xs ++ y ∷ [] ≡ ys = cc in
          subst (AreAll W) is (all_push W (front xs) y (all_front W xs all) (keeps x y (all_last W xs x all e) c))
      changed x e (Err k) c g = absurd cc

      by : (o : Option T) → last xs ≡ o → amended change o xs ≡ Ok ys → AreAll W ys
      by None e g = (let is : xs ≡ ys = cc in subst (AreAll W) is all)
      by (Some x) e g = changed x e (change x) refl g

-- and there are as many
pub amend_length : {T : Type 0} (change : T → Result T RefusalKind) (xs ys : List T) → amend_last change xs ≡ Ok ys → length ys ≡ length xs
amend_length {T} change xs ys h = by (last xs) refl h
  where
    changed : (x : T) → last xs ≡ Some x → (r : Result T RefusalKind) → and_then r (λ new. Ok (front xs ++ new ∷ [])) ≡ Ok ys → length ys ≡ length xs
    changed x e (Ok y) g =
        let is : front xs ++ y ∷ [] ≡ ys = cc in
        ap length (sym is) ∙ front_length xs x y e
    changed x e (Err k) g = absurd cc

    by : (o : Option T) → last xs ≡ o → amended change o xs ≡ Ok ys → length ys ≡ length xs
    by None e g = (let is : xs ≡ ys = cc in ap length (sym is))
    by (Some x) e g = changed x e (change x) g

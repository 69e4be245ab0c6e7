-- Items that are mapped one after the other, until one has no image.
use Rattle.std.proofs.Common.{◌≡◌, ◌∙◌, sym, ap, refl, ℕ, ◌+◌, ◌<◌, length, get_or, drop, map, List, [], ◌∷◌, ◌++◌, append_assoc, Option, Some, None, append-nil}
use Rattle.std.proofs.lemmas.List.{drop_more}
use Rattle.composition.specs.Values.{all_some}

-- images so far, before those of the other items
abbrev pub joined : {T : Type 0} → List T → Option (List T) → Option (List T)
joined out (Some ys) = Some (out ++ ys)
joined out None = None

pub joined_start : {T : Type 0} (o : Option (List T)) → joined [] o ≡ o
joined_start (Some ys) = refl
joined_start None = refl

pub joined_end : {T : Type 0} (out : List T) → joined out (all_some []) ≡ Some out
joined_end out = ap Some (append-nil out)

pub joined_more : {T : Type 0} (out : List T) (y : T) (rest : List (Option T)) → joined out (all_some (Some y ∷ rest)) ≡ joined (out ++ y ∷ []) (all_some rest)
joined_more {T} out y rest = by_rest (all_some rest)
  where
    by_rest : (o : Option (List T)) → joined out (elim o as (λ _. Option (List T)) [ Some ys ↦ Some (y ∷ ys) | None ↦ None ]) ≡ joined (out ++ y ∷ []) o
    by_rest (Some ys) = ap Some (sym (append_assoc out (y ∷ []) ys))
    by_rest None = refl

module _ {X Y : Type 0} (f : X → Option Y) (xs : List X) (i : ℕ) (x : X) (within : i < length xs) (item : x ≡ get_or xs i x) (kept : List Y) where
  left : drop i xs ≡ x ∷ drop (i + 1) xs
  left = drop_more xs i x within ∙ ap (λ (y : X). y ∷ drop (i + 1) xs) (sym item)

  pub joined_next : (y : Y) → f x ≡ Some y → joined kept (all_some (map f (drop i xs))) ≡ joined (kept ++ y ∷ []) (all_some (map f (drop (i + 1) xs)))
  joined_next y is =
      ap (λ (zs : List X). joined kept (all_some (map f zs))) left
      ∙ (ap (λ (o : Option Y). joined kept (all_some (o ∷ map f (drop (i + 1) xs)))) is
      ∙ joined_more kept y (map f (drop (i + 1) xs)))

  pub joined_none : f x ≡ None → joined kept (all_some (map f (drop i xs))) ≡ None
  joined_none is =
      ap (λ (zs : List X). joined kept (all_some (map f zs))) left
      ∙ ap (λ (o : Option Y). joined kept (all_some (o ∷ map f (drop (i + 1) xs)))) is

-- What holds of each item of a list, where an item comes to it or goes.
use Rattle.std.proofs.Common.{◌≡◌, Bool, true, false, cond, List, [], ◌∷◌, ◌++◌, Some, subst}
use Rattle.std.specs.List.{filter}
use Rattle.plain_data.specs.Ends.{last, front}
use Rattle.value_texts.specs.Each.{AreAll}

-- what follows of each item follows of all
pub all_so : {T : Type 0} (W V : T → Type 0) → ((x : T) → W x → V x) → (xs : List T) → AreAll W xs → AreAll V xs
all_so W V so [] all = tt
all_so W V so (x ∷ xs) all = (so x all.0, all_so W V so xs all.1)

module _ {T : Type 0} (W : T → Type 0) where
  -- an item more
  pub all_push : (xs : List T) (x : T) → AreAll W xs → W x → AreAll W (xs ++ x ∷ [])
  all_push [] x all h = (h, tt)
  all_push (y ∷ ys) x all h = (all.0, all_push ys x all.1 h)

  -- the last item, and the items before it
  pub all_last : (xs : List T) (x : T) → AreAll W xs → last xs ≡ Some x → W x
  all_last [] x all e = absurd cc
  all_last (y ∷ []) x all e = (let is : y ≡ x = cc in subst W is all.0)
  all_last (y ∷ z ∷ xs) x all e = all_last (z ∷ xs) x all.1 e

  pub all_front : (xs : List T) → AreAll W xs → AreAll W (front xs)
  all_front [] all = tt
  all_front (x ∷ []) all = tt
  all_front (x ∷ y ∷ xs) all = (all.0, all_front (y ∷ xs) all.1)

  -- the items that pass a test
  pub all_filter : (p : T → Bool) (xs : List T) → AreAll W xs → AreAll W (filter p xs)
  all_filter p [] all = tt
  all_filter p (x ∷ xs) all = by (p x) (all_filter p xs all.1)
    where
      by : (b : Bool) → AreAll W (filter p xs) → AreAll W (cond b (x ∷ filter p xs) (filter p xs))
      by true rest = (all.0, rest)
      by false rest = rest

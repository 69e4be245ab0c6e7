-- Rounds, one at a time, and names that are one.
use Rattle.std.proofs.Common.{Bool, true, false, cond, ◌||◌, Option, Some, None, is_some}
use Rattle.std.specs.Option.{option_or}
use Rattle.std.specs.Ordering.{nat_cmp}
use Rattle.std.specs.Cmp.Lexicographic.{slice_cmp}
use Rattle.std.proofs.lemmas.Map.Lookups.{exact_bytes}
use Rattle.variant_select.specs.Rounds.{same_name}
use Rattle.std.proofs.Common.{◌≡◌, ℕ, zero, suc, ◌+◌, ◌-◌, List, [], ◌∷◌, ◌++◌, refl, ap, sym, ◌∙◌, append-nil, length, length-append, arith}
use Rattle.std.specs.Cmp.{Equal-is}
use Rattle.variant_select.specs.declared.met.Met.{Met}
use Rattle.variant_select.specs.Rounds.{after_rounds, after_round, choices}

pub from_none : (f : List (List ℕ × List ℕ) → List Met) (k : ℕ) → k ≡ 16 → after_rounds f k [] ≡ choices f
unfolding choices
from_none f k h = ap (λ n. after_rounds f n []) h

pub one_round : (f : List (List ℕ × List ℕ) → List Met) (k n : ℕ) (chosen : List (List ℕ × List ℕ)) → n ≡ suc k → after_rounds f n chosen ≡ after_rounds f k (after_round f chosen)
unfolding after_rounds
one_round f k n chosen h = ap (λ m. after_rounds f m chosen) h

pub no_round : (f : List (List ℕ × List ℕ) → List Met) (chosen : List (List ℕ × List ℕ)) → after_rounds f 0 chosen ≡ chosen
unfolding after_rounds
no_round f chosen = refl

-- after a round that decides nothing another would be the same
pub no_more : (f : List (List ℕ × List ℕ) → List Met) (k : ℕ) (chosen : List (List ℕ × List ℕ)) → after_round f chosen ≡ chosen → after_rounds f k chosen ≡ chosen
unfolding after_rounds
no_more f zero chosen h = refl
no_more f (suc k) chosen h = ap (λ c. after_rounds f k c) h ∙ no_more f k chosen h

pub one_name : (a b : List ℕ) → same_name a b ≡ true → a ≡ b
one_name a b h = exact_bytes a b ((Equal-is (slice_cmp nat_cmp a b)).0 h)

pub cond_or : (b x : Bool) → cond b true x ≡ (b || x)
cond_or true x = refl
cond_or false x = refl

-- a first opinion that is noted at its set: what is found at a set of that name, or else elsewhere
pub noted : (b : Bool) (new old : Option (List ℕ)) (v : List ℕ) → new ≡ cond b (Some v) old → (b ≡ true → old ≡ None) → ◌≡◌ {A = Option (List ℕ)} new (option_or old (elim b [ true ↦ Some v | false ↦ None ]))
noted true new old v h none = h ∙ sym (ap (λ o. option_or o (Some v)) (none refl))
noted false new (Some w) v h none = h
noted false new None v h none = h

-- where there is an opinion already, another changes nothing
pub known_before : (b : Bool) (old other : Option (List ℕ)) → (b ≡ true → is_some old ≡ true) → ◌≡◌ {A = Option (List ℕ)} old (option_or old (elim b [ true ↦ other | false ↦ None ]))
known_before true (Some w) other h = refl
known_before true None other h = absurd (cc (h refl))
known_before false (Some w) other h = refl
known_before false None other h = refl

pub none_added : (xs ys : List (List ℕ × List ℕ)) → length (xs ++ ys) ≡ length xs → xs ++ ys ≡ xs
none_added xs [] h = append-nil xs
none_added xs (y ∷ ys) h = absurd (omega (arith, h, length-append xs (y ∷ ys)))

pub none_there : (o : Option (List ℕ)) → false ≡ is_some o → o ≡ None
none_there None h = refl
none_there (Some v) h = absurd (cc h)

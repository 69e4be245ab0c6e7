-- A world that is a number.
use Rattle.std.specs.Prelude.{◌≡◌, ◌≢◌, ◌+◌, ◌≤◌, ℕ, zero, suc, List, [], ◌∷◌, Option, Some, None, Result, Ok, Err, ◌<◌, Contains, AllPairs, slice_index_or}
use Rattle.std.proofs.Common.{refl, arith, sym, lit≤}
use Rattle.std.specs.List.Sorted.{IsStrictlySortedBy}
use Rattle.std.specs.Ordering.{nat_cmp}
use Rattle.compose_api.specs.Agreement.{Agree}

-- the number at the key 0, and nothing at any other
abbrev pub held : ℕ → ℕ → ℕ
held w zero = w
held w (suc k) = 0

-- the root reads the key 0
abbrev pub reads : ℕ → List ℕ
reads zero = 0 ∷ []
reads (suc p) = []

-- the root has the world as its entry, any other place has 0
abbrev pub entry : ℕ → ℕ → ℕ
entry w zero = w
entry w (suc p) = 0

-- a place whose entry is not 0 has one child
abbrev pub children : ℕ → List ℕ
children zero = []
children (suc e) = 1 ∷ []

-- a batch is the world that comes after it, or none, which is refused at its operation 1 with the fault 7
abbrev pub after : ℕ → Option ℕ → Result ℕ (ℕ × ℕ)
after w None = Err (1, 7)
after w (Some n) = Ok n

-- each place but the root lies below the root
abbrev pub parent : ℕ → Option ℕ
parent zero = None
parent (suc p) = Some 0

-- the root has the depth 0, any other place the depth 1
abbrev pub depth : ℕ → ℕ
depth zero = 0
depth (suc p) = 1

-- no place has two children that are one
pub are_different : (w p : ℕ) → AllPairs (λ x y. x ≢ y) (children (entry w p))
are_different zero zero = λ i j d below within. absurd (omega arith)
are_different (suc w) zero = λ i j d below within. absurd (omega arith)
are_different w (suc p) = λ i j d below within. absurd (omega arith)

-- what is in the list of 1 alone is 1
pub only_one : (k q : ℕ) → k < 1 → slice_index_or (1 ∷ []) k q ≡ q → q ≡ 1
only_one zero q within is = sym is
only_one (suc k) q within is = absurd (omega arith)

-- a child lies right below its place, and within 64 levels
pub are_below : (w p q : ℕ) → Contains (children (entry w p)) q → (parent q ≡ Some p) × (depth q ≡ depth p + 1) × (depth q ≤ 64)
are_below zero zero q has = absurd (omega (arith, has.1))
are_below (suc w) zero q has = let e = only_one has.0 q has.1 has.2 in rw e (refl, refl, lit≤ tt)
are_below w (suc p) q has = absurd (omega (arith, has.1))

-- what a place reads settles its entry
pub covers : (w v p : ℕ) → Agree (held w) (held v) (reads p) → (entry v p ≡ entry w p) × (reads p ≡ reads p)
covers w v zero agree = (sym (agree 0 (0, lit≤ tt, refl)), refl)
covers w v (suc p) agree = (refl, refl)

-- no place reads two keys
pub are_in_order : (w p : ℕ) → IsStrictlySortedBy nat_cmp (reads p)
unfolding IsStrictlySortedBy
are_in_order w zero = (tt, tt)
are_in_order w (suc p) = tt

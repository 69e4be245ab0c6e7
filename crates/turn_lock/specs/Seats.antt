-- What callers read of a desk and of a seat.
use Rattle.std.specs.Prelude.{◌≡◌, ℕ, zero, suc, ◌+◌, ◌<◌, nat_lt, List, [], ◌∷◌, ◌++◌, filter, Some, None}
use Rattle.turn_lock.specs.Weights.{times}
use Rattle.turn_lock.specs.Turns.{IsIdle}
use Rattle.turn_lock.specs.declared.rule.Journalled.{Ghosts}
use Rattle.turn_lock.specs.declared.view.Part.{Part}
use Rattle.turn_lock.specs.declared.view.View.{View}
use Rattle.turn_lock.specs.declared.seat.Seat.{Seat}
use Rattle.turn_lock.specs.declared.desk.Desk.{Desk}

-- the numbers from a on, n of them
abbrev pub numbers_from : ℕ → ℕ → List ℕ
numbers_from a zero = []
numbers_from a (suc n) = a ∷ numbers_from (a + 1) n

-- the entries that bear one of these numbers, in order
abbrev pub own_entries : {E : Type 0} → (E → ℕ) → List ℕ → List E → List E
own_entries bears numbers es = filter (λ e. nat_lt 0 (times (bears e) numbers)) es

module _ {T E N : Type 0} {g : Ghosts T E N} where
  -- what the seat knows
  abbrev pub view_of : Seat T E N g → View E N
  view_of s = s.place.me.0

  -- what the seat has seen, and its numbers
  abbrev pub part_of : Seat T E N g → Part E
  part_of s = s.place.me.0.mine

  -- the entries that the seat has seen
  abbrev pub seen : Seat T E N g → List E
  seen s = s.place.me.0.mine.seen

  -- the number that the entries of the seat bear
  abbrev pub number : Seat T E N g → ℕ
  number s = s.number

  -- its number, and then those of the seats joined into it
  abbrev pub numbers : Seat T E N g → List ℕ
  numbers s = s.place.me.0.mine.own

  -- how many spare numbers the seat has
  abbrev pub spares : Seat T E N g → ℕ
  spares s = s.spare

  -- the spare numbers of the seat, in order
  abbrev pub spare_numbers : Seat T E N g → List ℕ
  spare_numbers s = numbers_from s.least s.spare

  -- the seat holds no turn
  abbrev pub IsFree : Seat T E N g → Type 0
  IsFree s = (s.place.me.1 ≡ []) × IsIdle s.place.me.0

  -- the seat holds the turn, and the value stood for `taken` when it was taken
  abbrev pub HasTurn : Seat T E N g → List E → Type 0
  HasTurn s taken = (s.place.me.1 ≡ (0, None) ∷ []) × (s.place.me.0.turn ≡ Some taken)

  -- the numbers are the same before and after: its own, those of joined seats, and spare ones
  abbrev pub SameNumbers : Seat T E N g → Seat T E N g → Type 0
  SameNumbers s t = (t.number ≡ s.number) × (t.place.me.0.mine.own ≡ s.place.me.0.mine.own) × (numbers_from t.least t.spare ≡ numbers_from s.least s.spare)

  -- the seat was made on this desk
  abbrev pub IsSeatOf : Desk T E N → Seat T E N g → Type 0
  IsSeatOf d s = (s.place.table_id ≡ d.table.shared.table_id) × (s.place.me.0.name ≡ Some (g.named d.table.shared.key.first.value))

  -- the seat has every number of the desk
  abbrev pub HasAll : Desk T E N → Seat T E N g → Type 0
  HasAll d s = (k : ℕ) → k < d.table.shared.key.seats → 0 < times k (s.place.me.0.mine.own ++ numbers_from s.least s.spare)

module _ {T E N : Type 0} where
  -- the name that each value of the desk has
  abbrev pub desk_name : (T → N) → Desk T E N → N
  desk_name named d = named d.table.shared.key.first.value

  -- how many seats the desk has numbers for
  abbrev pub seats_of : Desk T E N → ℕ
  seats_of d = d.table.shared.key.seats

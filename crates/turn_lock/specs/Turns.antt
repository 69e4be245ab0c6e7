-- The rule of a desk's table, and what each step tells.
-- Word 0 is the next ticket to be drawn, word 1 the ticket that is served, both modulo 2 ^ 64. Slot 0 has the value.
use Rattle.std.specs.Prelude.{◌≡◌, ◌≢◌, ◌⊎◌, ℕ, ◌+◌, ◌-◌, ◌%◌, ◌^◌, ◌<◌, ◌≤◌, ◌==◌, nat_lt, cond, List, [], ◌∷◌, ◌++◌, length, slice_index, Option, Some, None, All}
use mathlib.Core.Option.{some}
use lib.ListN.{get_elem?}
use Rattle.atomic_table.specs.Table.{State, Me, Step}
use Rattle.turn_lock.specs.Weights.{total, below, span, only, times}
use Rattle.turn_lock.specs.declared.view.Part.{Part}
use Rattle.turn_lock.specs.declared.view.View.{View}

-- no entry bears one of the numbers
abbrev pub NoneBorne : {E : Type 0} → (E → ℕ) → List ℕ → List E → Type 0
NoneBorne bears numbers es = All (λ e. times (bears e) numbers ≡ 0) es

-- the list goes on with entries that bear this number
abbrev pub Adds : {E : Type 0} → (E → ℕ) → ℕ → List E → List E → Type 0
Adds {E} bears number log more = (added : List E) × (more ≡ log ++ added) × All (λ e. bears e ≡ number) added

module _ {E : Type 0} where
  -- the entries that a seat has seen, its own numbers, and its spare numbers: the least one and how many
  abbrev pub part : List E → List ℕ → ℕ → ℕ → Part E
  part seen own least spare = record { seen = seen; own = own; least = least; spare = spare }

  -- nothing was seen, and there is no number
  abbrev pub nothing : Part E
  nothing = part [] [] 0 0

  -- it has no number
  abbrev pub IsBare : Part E → Type 0
  IsBare p = (p.own ≡ []) × (p.spare ≡ 0)

  -- the weight of all its numbers
  abbrev pub weight : (ℕ → ℕ) → Part E → ℕ
  weight h p = total h p.own + span h p.least p.spare

  -- the longer of two lists, and the first of two that are as long
  abbrev pub longer : List E → List E → List E
  longer xs ys = cond (nat_lt (length xs) (length ys)) ys xs

  -- the numbers of both and the longer list, with the spare numbers of the first that has any
  abbrev pub merged : Part E → Part E → Part E
  merged p q = part (longer p.seen q.seen) (p.own ++ q.own) (cond (p.spare == 0) q.least p.least) (cond (p.spare == 0) q.spare p.spare)

  module _ (bears : E → ℕ) where
    -- the list begins with what was seen, and no entry after that bears one of the own numbers
    abbrev pub GoesOn : Part E → List E → Type 0
    GoesOn p log = (rest : List E) × (log ≡ p.seen ++ rest) × NoneBorne bears p.own rest

    -- no entry bears a spare number
    abbrev pub Unused : Part E → List E → Type 0
    Unused p log = All (λ e. span (only (bears e)) p.least p.spare ≡ 0) log

    -- the list goes on from what was seen, without the own numbers; spare numbers are in no entry, and they are the last of the desk
    pub record PartFits (seats : ℕ) (log : List E) (p : Part E) : Type 0 where
      pub seen : GoesOn p log
      pub unused : Unused p log
      pub top : 0 < p.spare → p.least + p.spare ≡ seats

    -- the list is the longer one, which goes on from the other
    abbrev pub Longer : Part E → Part E → List E → Type 0
    Longer p q seen = ((seen ≡ p.seen) × GoesOn q p.seen) ⊎ ((seen ≡ q.seen) × GoesOn p q.seen)

module _ {E N : Type 0} where
  -- what a seat knows: the name of its desk, its own part, that of a seat joined into it, its tickets, and its turn if it noted one
  abbrev pub view : Option N → Part E → Part E → List ℕ → Option (List E) → View E N
  view name mine told tickets turn = record { name = name; mine = mine; told = told; tickets = tickets; turn = turn }

  -- the first seat of a desk has the number 0, and all others as spare ones
  abbrev pub first_view : List E → N → ℕ → View E N
  first_view seen name seats = view (Some name) (part seen (0 ∷ []) 1 (seats - 1)) nothing [] None

  -- a seat that was joined into another
  abbrev pub spent : View E N
  spent = view None nothing nothing [] None

  -- the seat draws the ticket t
  abbrev pub drawn : ℕ → View E N → View E N
  drawn t v = view v.name v.mine v.told (t ∷ []) v.turn

  -- the seat notes its turn, and the list for which the value stands
  abbrev pub noted : List E → View E N → View E N
  noted log v = view v.name v.mine v.told v.tickets (Some log)

  -- the value is at home again with this list
  abbrev pub returned : List E → View E N → View E N
  returned log v = view v.name (part log v.mine.own v.mine.least v.mine.spare) v.told [] None

  -- the least spare number is given up
  abbrev pub kept : View E N → View E N
  kept v = view v.name (part v.mine.seen v.mine.own (v.mine.least + 1) (v.mine.spare - 1)) v.told v.tickets v.turn

  -- a new seat has it
  abbrev pub split_off : View E N → View E N
  split_off v = view v.name (part v.mine.seen (v.mine.least ∷ []) 0 0) nothing [] None

  -- what the other seat knew is noted beside the seat's own
  abbrev pub joined : View E N → View E N → View E N
  joined v w = view v.name v.mine w.mine v.tickets v.turn

  -- what was told is its own from now on
  abbrev pub settled : View E N → View E N
  settled v = view v.name (merged v.mine v.told) nothing v.tickets v.turn

  -- it has no ticket, and no turn
  abbrev pub IsIdle : View E N → Type 0
  IsIdle v = (v.tickets ≡ []) × (v.turn ≡ None)

  module _ (bears : E → ℕ) where
    -- what a seat knows is true of a desk of this name and so many seats, with this ticket served and this list
    pub record Fits (name : N) (seats now : ℕ) (log : List E) (v : View E N) : Type 0 where
      pub desk : (x : N) → v.name ≡ Some x → x ≡ name
      pub one : length v.tickets ≤ length v.mine.own
      pub mine : PartFits bears seats log v.mine
      pub told : PartFits bears seats log v.told
      -- a view that notes its turn has the ticket that is served, and the list for which the value stood
      pub turn : (taken : List E) → v.turn ≡ Some taken → (v.tickets ≡ now ∷ []) × (taken ≡ log)

    module _ {T : Type 0} (entries : T → List E) (named : T → N) where
      -- the value lies in the slot, has the name of the desk and stands for this list
      abbrev pub AtHome : N → List E → State (Option T) (View E N) → Type 0
      AtHome name log s = (value : T) × (get_elem? s.homes 0 ≡ some (some (Some value))) × (entries value ≡ log) × (named value ≡ name)

      -- the rule of the table, which holds between any two steps
      pub record Kept (name : N) (seats : ℕ) (s : State (Option T) (View E N)) : Type 0 where
        pub now : ℕ
        pub waiting : ℕ
        pub log : List E
        pub words : length s.words ≡ 2
        pub slots : length s.homes ≡ 1
        pub seats_fit : seats ≤ 256
        pub next_is : slice_index s.words 0 ≡ (now + waiting) % 2 ^ 64
        pub now_is : slice_index s.words 1 ≡ now % 2 ^ 64
        -- the tickets in the views are different, and they are the numbers from `now` on, as many as wait
        pub tickets : (h : ℕ → ℕ) → total (λ v. total h v.tickets) s.views ≡ span h now waiting
        -- each number of the desk is in one view, once
        pub numbers : (h : ℕ → ℕ) → total (λ v. weight h v.mine + weight h v.told) s.views ≡ below h seats
        pub borne : All (λ e. bears e < seats) log
        pub fits : (id : ℕ) (v : View E N) → get_elem? s.views id ≡ some v → Fits name seats now log v
        -- while no view notes a turn, the value is at home
        pub home : ((id : ℕ) (v : View E N) → get_elem? s.views id ≡ some v → v.turn ≡ None) → AtHome name log s

      -- what a seat knows, and the slots that it has
      abbrev pub Sat : Type 0
      Sat = Me (Option T) (View E N)

      -- a ticket was drawn
      abbrev pub draws : Step (Option T) → Sat → ℕ → Sat → Type 0
      draws st m r n = (t : ℕ) × (r ≡ t % 2 ^ 64) × (n ≡ (drawn t m.0, m.1))

      -- the slot was taken, with a value that has the desk's name, and whose list goes on from what the seat had seen
      abbrev pub Takes : Sat → Sat → Type 0
      Takes m n = (value : T) × (n ≡ (noted (entries value) m.0, (0, Some value) ∷ m.1)) × ((x : N) → m.0.name ≡ Some x → named value ≡ x) × GoesOn bears m.0.mine (entries value)

      -- the ticket that is served was looked at: where it is the seat's own the slot is taken, and else nothing changes
      abbrev pub looks : Step (Option T) → Sat → ℕ → Sat → Type 0
      looks st m r n = (t : ℕ) → m.0.tickets ≡ t ∷ [] → (r ≡ t % 2 ^ 64 → Takes m n) × (r ≢ t % 2 ^ 64 → n ≡ m)

      -- the slot was given back with its value, and the seat has seen the list of that value
      abbrev pub advances : Step (Option T) → Sat → ℕ → Sat → Type 0
      advances st m r n = (value : T) → m.1 ≡ (0, Some value) ∷ [] → n ≡ (returned (entries value) m.0, [])

      -- what came with the joined seat is the seat's own, and of the two lists one goes on from the other
      abbrev pub settles : Step (Option T) → Sat → ℕ → Sat → Type 0
      settles st m r n = (n ≡ (settled m.0, m.1)) × Longer bears m.0.mine m.0.told (longer m.0.mine.seen m.0.told.seen) × ((m.0.mine.spare ≡ 0) ⊎ (m.0.told.spare ≡ 0))

      -- no entry that the seat has seen bears a spare number
      abbrev pub unborne : Step (Option T) → Sat → ℕ → Sat → Type 0
      unborne st m r n = (n ≡ m) × Unused bears m.0.mine m.0.mine.seen

-- the view has every number of the desk
abbrev pub IsWhole : {E N : Type 0} → ℕ → View E N → Type 0
IsWhole seats v = (k : ℕ) → k < seats → 0 < weight (only k) v.mine

-- What seats write into a book.
use Rattle.std.specs.Prelude.{◌≡◌, ℕ, zero, suc, ◌<◌, List, [], ◌∷◌, ◌++◌, All}
use Rattle.turn_lock.specs.Seats.{own_entries}
use Rattle.turn_writers.specs.declared.entry.Entry.{Entry}

-- the number of the seat that wrote an entry
abbrev pub writer : Entry → ℕ
writer e = e.by

-- what a seat writes at a step
abbrev pub entry : ℕ → ℕ → Entry
entry by step = record { by = by; step = step }

-- the first entries of a seat, this many, in order
abbrev pub written : ℕ → ℕ → List Entry
written by zero = []
written by (suc n) = written by n ++ entry by n ∷ []

-- the entries of one seat, in order
abbrev pub entries_of : ℕ → List Entry → List Entry
entries_of k es = own_entries writer (k ∷ []) es

-- each of these seats has written this many entries
abbrev pub EachWrote : ℕ → List ℕ → List Entry → Type 0
EachWrote steps numbers es = All (λ k. entries_of k es ≡ written k steps) numbers

-- a seat with these numbers has written only the first entries, fewer than this many
abbrev pub WroteFewer : ℕ → ℕ → List ℕ → List Entry → Type 0
WroteFewer steps by numbers es = (n : ℕ) × n < steps × (own_entries writer numbers es ≡ written by n)

-- each seat below the number has written this many entries, and the book has no others
pub record IsWrittenBy (seats steps : ℕ) (es : List Entry) : Type 0 where
  pub each : (k : ℕ) → k < seats → entries_of k es ≡ written k steps
  pub others : All (λ e. e.by < seats) es

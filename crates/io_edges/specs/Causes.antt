-- How an object counts its faults.
use Rattle.std.specs.Prelude.{◌≡◌, ℕ, ◌+◌, ◌-◌, ◌^◌, ◌≤◌, min}

-- one more; a count stands still at its type's end
abbrev pub one_more : ℕ → ℕ
one_more n = min (n + 1) (2 ^ 64 - 1)

-- the count rose; one that stands at its type's end counts as risen
abbrev pub Rose : ℕ → ℕ → Type 0
Rose before now = one_more before ≤ now

-- where it failed, this one fault was counted, and else none
abbrev pub IsCounted : Type 0 → ℕ → ℕ → Type 0
IsCounted Failed before now = (Failed → now ≡ one_more before) × ((Failed → ⊥) → now ≡ before)

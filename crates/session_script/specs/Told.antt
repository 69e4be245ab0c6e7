-- What a source tells.
use Rattle.std.specs.Prelude.{◌≡◌, ℕ, Bool, true, false, List, [], Option, Some, None}

-- the fact of the bytes that a source told before and after, where it tells them
abbrev pub BothTold : Option (List ℕ) → Option (List ℕ) → (List ℕ → List ℕ → Type 0) → Type 0
BothTold None new P = Unit {0}
BothTold (Some a) None P = ⊥
BothTold (Some a) (Some b) P = P a b

-- what a source still tells that has these bytes left: nothing once it told its end, since it is not read again
abbrev pub coming : Bool → Option (List ℕ) → Option (List ℕ)
coming true left = Some []
coming false left = left

-- A source tells its end only where nothing is left. Once it did, that is not forgotten, and it has what it had.
abbrev pub Heeds : Bool → Bool → Option (List ℕ) → Option (List ℕ) → Type 0
Heeds true ended before after = (ended ≡ true) × (after ≡ before)
Heeds false true before after = BothTold before after (λ _ left. left ≡ [])
Heeds false false before after = BothTold before after (λ _ _. Unit {0})

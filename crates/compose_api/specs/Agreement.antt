-- Where two worlds have the same at keys, and where not.
-- docs/ARCHITECTURE.md, 'A stage that is kept'.
use Rattle.std.specs.Prelude.{◌≡◌, ◌≢◌, List, Contains}

-- what two worlds have at keys
module _ {Key Held : Type 0} (before after : Key → Held) where
  -- they have the same at each of these
  abbrev pub Agree : List Key → Type 0
  Agree keys = (k : Key) → Contains keys k → before k ≡ after k

  -- these are exactly the keys at which they do not have the same; that they have the same at any other is said outright, since of what
  -- worlds have at keys nothing else is known
  abbrev pub IsChanged : List Key → Type 0
  IsChanged changed = (k : Key) → (Contains changed k → before k ≢ after k) × (¬ (Contains changed k) → before k ≡ after k)

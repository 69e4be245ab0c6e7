-- What holds of each item of a list.
use Rattle.std.specs.Prelude.{List, [], ◌∷◌}

-- this holds of each item
abbrev pub AreAll : {T : Type 0} → (T → Type 0) → List T → Type 0
AreAll W [] = Unit {0}
AreAll W (x ∷ xs) = W x × AreAll W xs

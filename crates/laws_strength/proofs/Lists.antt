-- Facts of each element of a list.
use Rattle.std.proofs.Common.{List, [], ◌∷◌, ◌++◌}
use Rattle.laws_strength.specs.Ways.{Each}

pub each : {X : Type 0} (P Q : X → Type 0) → ((x : X) → P x → Q x) → (xs : List X) → Each P xs → Each Q xs
each P Q f [] all = tt
each P Q f (x ∷ xs) all = (f x all.0, each P Q f xs all.1)

pub together : {X : Type 0} (P : X → Type 0) → (xs ys : List X) → Each P xs → Each P ys → Each P (xs ++ ys)
together P [] ys first second = second
together P (x ∷ xs) ys first second = (first.0, together P xs ys first.1 second)

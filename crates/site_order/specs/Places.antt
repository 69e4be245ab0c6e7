-- Which of several places of one site is kept.
use Rattle.std.specs.Prelude.{Bool, true, false, List, [], ◌∷◌, ◌++◌, map, nat_le, nat_lt}
use Rattle.std.specs.List.{list_any}
use Rattle.std.specs.Borrow.{Bor}
use Rattle.composition.specs.Texts.{both}
use Rattle.composition.specs.Trees as defined
use Rattle.composition.specs.Strength.{Ranked, same_place}
use Rattle.prim_trees.specs.declared.tree.Tree.{Tree}
use Rattle.prim_trees.specs.Meant.{meant}

-- the trees for which these stand
abbrev pub trees_shown : List (Bor Tree) → List defined.Tree
trees_shown ts = map (λ t. meant t.now) ts

-- an earlier place of the same site beats this one where its rank is not greater
abbrev pub beats : Ranked → Ranked → Bool
beats e x = both (nat_le x.1 e.1) (same_place x.0 e.0)

-- a later place of the same site beats this one where its rank is less
abbrev pub beats_later : Ranked → Ranked → Bool
beats_later e x = both (nat_lt x.1 e.1) (same_place x.0 e.0)

-- the places that are kept of those that follow these
abbrev pub kept_after : List Ranked → List Ranked → List Ranked
kept_after earlier [] = []
kept_after earlier (e ∷ later) =
    elim (list_any (beats e) earlier) [
      | true ↦ kept_after (earlier ++ e ∷ []) later
      | false ↦ elim (list_any (beats_later e) later) [ true ↦ kept_after (earlier ++ e ∷ []) later | false ↦ e ∷ kept_after (earlier ++ e ∷ []) later ]
    ]

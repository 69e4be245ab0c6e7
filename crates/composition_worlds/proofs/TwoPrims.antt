-- What is read in the world of two prims, and its stage, by computing.
use Rattle.std.proofs.Common.{◌≡◌, ◌<◌, codes, pos, List, [], ◌∷◌, map, refl, arith}
use Rattle.std.specs.List.{Contains}
use Rattle.sdf_paths.specs.declared.element.Element.TheVariants.{Prim}
use Rattle.composition.specs.Compose.{meaning}
use Rattle.composition.specs.Keys.{Key, load, head, arcs, body, reads}
use Rattle.composition.specs.Dates.{IsTouchedBy, IsOnStage}
use Rattle.composition.specs.Paths.{Path, limits}
use Rattle.composition.specs.Views.{stage}
use Rattle.composition.specs.Visits.{visits}
use Rattle.composition_worlds.specs.Short.{prims}
use Rattle.composition_worlds.specs.WorldDates.{two}
use Rattle.composition_worlds.proofs.Dating.{on_stage, untouched}

abbrev pub a : Path
a = prims (codes "A" ∷ [])

abbrev pub b : Path
b = prims (codes "B" ∷ [])

-- the keys of a root prim without arcs, visited in a round of choices and in its last listing
abbrev pub keys_of : Path → List Key
keys_of p =
    load p ∷ arcs (codes "root.usda") p ∷ head (codes "root.usda") ∷ arcs (codes "root.usda") p ∷ head (codes "root.usda") ∷ body (codes "root.usda") p ∷ []

abbrev pub stage_of_two : List Path
stage_of_two = [] ∷ a ∷ b ∷ []

pub reads_a : reads limits (two (pos 2)) a ≡ keys_of a
unfolding meaning visits
reads_a = refl

pub reads_a_later : reads limits (two (pos 3)) a ≡ keys_of a
unfolding meaning visits
reads_a_later = refl

pub reads_b : reads limits (two (pos 2)) b ≡ keys_of b
unfolding meaning visits
reads_b = refl

pub stage_is : map (λ e. e.0) (stage limits (two (pos 2))) ≡ stage_of_two
unfolding meaning
stage_is = refl

pub root_there : IsOnStage limits (two (pos 2)) []
root_there =
    let within : 0 < 3 = omega arith in
    on_stage limits (two (pos 2)) [] stage_of_two stage_is (0, within, refl)

pub a_there : IsOnStage limits (two (pos 2)) a
a_there =
    let within : 1 < 3 = omega arith in
    on_stage limits (two (pos 2)) a stage_of_two stage_is (1, within, refl)

pub b_there : IsOnStage limits (two (pos 2)) b
b_there =
    let within : 2 < 3 = omega arith in
    on_stage limits (two (pos 2)) b stage_of_two stage_is (2, within, refl)

-- the body of a prim is among its keys
pub body_read : (p : Path) → Contains (keys_of p) (body (codes "root.usda") p)
body_read p =
    let within : 5 < 6 = omega arith in
    (5, within, refl)

-- another value of the second prim does not touch the first, and no more does the value that it had
pub a_untouched : IsTouchedBy limits (two (pos 2)) (two (pos 3)) a → ⊥
a_untouched = untouched limits (two (pos 2)) (two (pos 3)) a (keys_of a) reads_a (refl, (refl, (refl, (refl, (refl, (refl, tt))))))

pub a_untouched_later : IsTouchedBy limits (two (pos 3)) (two (pos 2)) a → ⊥
a_untouched_later = untouched limits (two (pos 3)) (two (pos 2)) a (keys_of a) reads_a_later (refl, (refl, (refl, (refl, (refl, (refl, tt))))))

pub root_untouched : IsTouchedBy limits (two (pos 2)) (two (pos 3)) [] → ⊥
root_untouched = untouched limits (two (pos 2)) (two (pos 3)) [] (head (codes "root.usda") ∷ body (codes "root.usda") [] ∷ []) refl (refl, (refl, tt))

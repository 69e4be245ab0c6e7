-- One batch adds a root prim.
use Rattle.std.proofs.Common.{◌<◌, ◌≡◌, codes, pos, [], ◌∷◌, ap, refl, inl, inr, arith}
use Rattle.composition.specs.Dates.{IsTouchedBy}
use Rattle.composition.specs.Keys.{head, body}
use Rattle.composition.specs.Paths.{limits}
use Rattle.composition_worlds.specs.Short.{prims}
use Rattle.composition_worlds.specs.WorldDates.{two, three, opened, after}
use Rattle.composition_worlds.proofs.Dating.{roots_named, is_read, untouched, off_stage, dated_by_touch, dated_as_new, left}
use Rattle.composition_worlds.proofs.TwoPrims.{b, keys_of, reads_b, stage_of_two, stage_is, b_there}
use Rattle.composition_worlds.proofs.dates.a_new_prim_is_dated.Goals as goal

pub returns-clause-new_prim : goal.returns-clause-new_prim
returns-clause-new_prim c =
    dated_as_new limits (after [] (three (pos 2))) (opened (two (pos 2))) (prims (codes "C" ∷ []))
    (off_stage limits (two (pos 2)) (prims (codes "C" ∷ [])) stage_of_two stage_is (refl, (refl, (refl, tt))) refl)

pub returns-clause-above : goal.returns-clause-above
returns-clause-above c =
    let within : 1 < 2 = omega arith in
    dated_by_touch limits (after [] (three (pos 2))) (opened (two (pos 2))) []
    (inl (record {
      key = body (codes "root.usda") [];
      is_read = is_read limits (two (pos 2)) [] (head (codes "root.usda") ∷ body (codes "root.usda") [] ∷ []) (body (codes "root.usda") []) refl (1, within, refl);
      is_changed = λ e. let same : 2 ≡ 3 = ap roots_named e in absurd (omega arith);
    }))

pub returns-clause-beside : goal.returns-clause-beside
returns-clause-beside c =
    let same : IsTouchedBy limits (two (pos 2)) (three (pos 2)) b → ⊥ =
    untouched limits (two (pos 2)) (three (pos 2)) b (keys_of b) reads_b (refl, (refl, (refl, (refl, (refl, (refl, tt)))))) in
    left limits (after [] (three (pos 2))) (opened (two (pos 2))) b b_there (λ t. elim t [ inl by ↦ same by | inr none ↦ none ])

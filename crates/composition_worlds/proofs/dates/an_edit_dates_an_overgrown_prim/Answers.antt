-- One batch gives another value in the deepest class of a chain.
use Rattle.std.proofs.Common.{◌≡◌, ◌<◌, codes, pos, [], ◌∷◌, ap, inl, refl, arith}
use Rattle.std.specs.List.{Contains}
use Rattle.composition.specs.Compose.{meaning}
use Rattle.composition.specs.Keys.{body, reads}
use Rattle.composition.specs.Visits.{visits}
use Rattle.composition_worlds.specs.Short.{prims, with_room_for}
use Rattle.composition_worlds.specs.WorldAChainOfClasses.{chain}
use Rattle.composition_worlds.specs.WorldDates.{opened, after}
use Rattle.composition_worlds.proofs.Dating.{first_number, same_numbers, dated_by_touch}
use Rattle.composition_worlds.proofs.dates.an_edit_dates_an_overgrown_prim.Goals as goal

-- of the keys that the prim reads, the last is the body of the deepest class
deepest_read : Contains (reads (with_room_for 16) (chain (pos 2)) (prims (codes "c0" ∷ []))) (body (codes "root.usda") (prims (codes "c15" ∷ [])))
unfolding meaning visits
deepest_read =
    let within : 80 < 81 = omega arith in
    (80, within, refl)

pub returns : goal.returns
returns c =
    dated_by_touch (with_room_for 16) (after [] (chain (pos 3))) (opened (chain (pos 2))) (prims (codes "c0" ∷ []))
    (inl (record {
      key = body (codes "root.usda") (prims (codes "c15" ∷ []));
      is_read = deepest_read;
      is_changed = λ e. let same : 2 ≡ 3 = same_numbers (pos 2) (pos 3) (ap first_number e) in absurd (omega arith);
    }))

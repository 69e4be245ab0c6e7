-- The derived order of parts tells every two of them apart.
use Rattle.std.specs.Prelude.{◌≡◌}
use Rattle.std.proofs.Common.{ap}
use Rattle.std.specs.Cmp.Lexicographic.{slice_cmp}
use Rattle.std.specs.Ordering.{nat_cmp}
use Rattle.std.specs.declared.cmp.Ordering.TheVariants.{Equal}
use Rattle.std.proofs.lemmas.Map.Lookups.{exact_bytes}
use Rattle.plain_data.specs.Exact.{then_both}
use Rattle.sdf_paths.specs.PathOrder.{path_tie}
use Rattle.sdf_paths.specs.contracts.path.PathOrd.TheImpl.{ghosts as path_order}
use Rattle.layer_set.specs.KeyOrder.{key_tie}
use Rattle.layer_changes.specs.contracts.part.PartOrd.TheImpl.{ghosts as part_order}
use Rattle.layer_changes.specs.declared.part.Part.{Part}
use Rattle.layer_changes.specs.declared.part.Part.TheVariants.{At, Below}

-- parts that the derived order does not part are one
pub part_tie : (x y : Part) → part_order.cmp x y ≡ Equal → x ≡ y
part_tie (At j) (At k) h = ap At (key_tie j k h)
part_tie (Below a p) (Below b q) h =
    let both = then_both (slice_cmp nat_cmp a b) (path_order.cmp p q) h in
    let name = exact_bytes a b both.0 in
    let path = path_tie p q both.1 in
    cc
part_tie (At j) (Below b q) h = absurd cc
part_tie (Below a p) (At k) h = absurd cc

-- Arcs that compare equal are one.
use Rattle.std.specs.Prelude.{◌≡◌, true}
use Rattle.std.proofs.Common.{rules}
use Rattle.plain_data.specs.Exact.{both_true}
use Rattle.sdf_paths.specs.PathOrder.{path_equal}
use Rattle.path_maps.specs.Maps.{ArcPaths}
use Rattle.path_maps.specs.declared.kind.ArcKind.{ArcKind}
use Rattle.path_maps.specs.contracts.kind.ArcKindPartialEq.TheImpl.{ghosts as kind_eq}
use Rattle.path_maps.specs.contracts.arc_map.ArcMapPartialEq.TheImpl.{ghosts as map_eq}

kind_equal : (x y : ArcKind) → kind_eq.eq x y ≡ true → x ≡ y
kind_equal = search rules

-- maps of arcs that compare equal are one: the same kind, target and author
pub arc_map_same : (x y : ArcPaths) → map_eq.eq x y ≡ true → x ≡ y
arc_map_same x y h =
    let parts = both_true _ _ h in
    let paths = both_true _ _ parts.1 in
    let kind : x.kind ≡ y.kind = kind_equal x.kind y.kind parts.0 in
    let target : x.target ≡ y.target = path_equal x.target y.target paths.0 in
    let author : x.author ≡ y.author = path_equal x.author y.author paths.1 in
    λ i. record { kind = kind i; target = target i; author = author i }

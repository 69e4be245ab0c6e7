-- The derived comparisons of keys tell every two keys apart.
use Rattle.std.specs.Prelude.{◌≡◌, ◌==◌, true}
use Rattle.std.proofs.Common.{ap}
use Rattle.std.specs.Cmp.Lexicographic.{pointwise, slice_cmp}
use Rattle.std.specs.Ordering.{nat_cmp}
use Rattle.std.specs.declared.cmp.Ordering.TheVariants.{Equal}
use Rattle.std.proofs.lemmas.Map.Lookups.{exact_bytes}
use Rattle.plain_data.specs.Exact.{both_true, then_both, text_same}
use Rattle.sdf_paths.specs.PathOrder.{path_equal, path_tie}
use Rattle.sdf_paths.specs.contracts.path.PathPartialEq.TheImpl.{ghosts as path_eq}
use Rattle.sdf_paths.specs.contracts.path.PathOrd.TheImpl.{ghosts as path_order}
use Rattle.layer_set.specs.contracts.key.KeyPartialEq.TheImpl.{ghosts as key_eq}
use Rattle.layer_set.specs.contracts.key.KeyOrd.TheImpl.{ghosts as key_order}
use Rattle.layer_set.specs.declared.key.Key.{Key}
use Rattle.layer_set.specs.declared.key.Key.TheVariants.{Head, Arcs, Body, Load}

-- keys that compare equal are one
pub key_equal : (x y : Key) → key_eq.eq x y ≡ true → x ≡ y
key_equal (Head a) (Head b) h = ap Head (text_same a b h)
key_equal (Arcs a p) (Arcs b q) h =
    let both = both_true (pointwise ◌==◌ a b) (path_eq.eq p q) h in
    let name = text_same a b both.0 in
    let path = path_equal p q both.1 in
    cc
key_equal (Body a p) (Body b q) h =
    let both = both_true (pointwise ◌==◌ a b) (path_eq.eq p q) h in
    let name = text_same a b both.0 in
    let path = path_equal p q both.1 in
    cc
key_equal (Load p) (Load q) h = ap Load (path_equal p q h)
key_equal (Head a) (Arcs b q) h = absurd cc
key_equal (Head a) (Body b q) h = absurd cc
key_equal (Head a) (Load q) h = absurd cc
key_equal (Arcs a p) (Head b) h = absurd cc
key_equal (Arcs a p) (Body b q) h = absurd cc
key_equal (Arcs a p) (Load q) h = absurd cc
key_equal (Body a p) (Head b) h = absurd cc
key_equal (Body a p) (Arcs b q) h = absurd cc
key_equal (Body a p) (Load q) h = absurd cc
key_equal (Load p) (Head b) h = absurd cc
key_equal (Load p) (Arcs b q) h = absurd cc
key_equal (Load p) (Body b q) h = absurd cc

-- keys that the derived order does not part are one
pub key_tie : (x y : Key) → key_order.cmp x y ≡ Equal → x ≡ y
key_tie (Head a) (Head b) h = ap Head (exact_bytes a b h)
key_tie (Arcs a p) (Arcs b q) h =
    let both = then_both (slice_cmp nat_cmp a b) (path_order.cmp p q) h in
    let name = exact_bytes a b both.0 in
    let path = path_tie p q both.1 in
    cc
key_tie (Body a p) (Body b q) h =
    let both = then_both (slice_cmp nat_cmp a b) (path_order.cmp p q) h in
    let name = exact_bytes a b both.0 in
    let path = path_tie p q both.1 in
    cc
key_tie (Load p) (Load q) h = ap Load (path_tie p q h)
key_tie (Head a) (Arcs b q) h = absurd cc
key_tie (Head a) (Body b q) h = absurd cc
key_tie (Head a) (Load q) h = absurd cc
key_tie (Arcs a p) (Head b) h = absurd cc
key_tie (Arcs a p) (Body b q) h = absurd cc
key_tie (Arcs a p) (Load q) h = absurd cc
key_tie (Body a p) (Head b) h = absurd cc
key_tie (Body a p) (Arcs b q) h = absurd cc
key_tie (Body a p) (Load q) h = absurd cc
key_tie (Load p) (Head b) h = absurd cc
key_tie (Load p) (Arcs b q) h = absurd cc
key_tie (Load p) (Body b q) h = absurd cc

-- The derived comparisons of items of references are the readable ones, and tell values apart.
use Rattle.std.specs.Prelude.{◌≡◌, ◌&&◌, Bool, true, List}
use Rattle.std.proofs.Common.{ap, rules}
use Rattle.std.specs.Option.{option_eq, option_cmp}
use Rattle.std.specs.Ordering.{ordering_then}
use Rattle.std.specs.declared.cmp.Ordering.TheVariants.{Equal}
use Rattle.std.proofs.lemmas.Map.Lookups.{exact_bytes}
use Rattle.sdf_paths.specs.contracts.path.PathPartialEq.TheImpl.{ghosts as path_eq}
use Rattle.sdf_paths.specs.declared.element.Element.{Element}
use Rattle.sdf_paths.specs.PathOrder.{path_equal, path_tie}
pub use Rattle.sdf_paths.specs.PathOrder.{path_is}
use Rattle.plain_data.specs.Exact.{both_true, option_same, option_tie, text_same, then_both}
use Rattle.sdf_paths.specs.Order.{text_cmp}
use Rattle.sdf_paths.specs.contracts.path.PathOrd.TheImpl.{ghosts as path_order}
use Rattle.sdf_values.specs.Scales.{Offset}
use Rattle.sdf_values.specs.contracts.offset.LayerOffsetOrd.TheImpl.{ghosts as offset_order}
use Rattle.spec_parts.specs.declared.items.RefItem.{RefItem}
use Rattle.usda_lists.specs.References.{same_text, same_offset, same_item}
use Rattle.usda_lists.specs.contracts.repeats.OrderedItemPartialEq.TheImpl.{ghosts as item_eq}
use Rattle.usda_lists.specs.contracts.repeats.OrderedItemOrd.TheImpl.{ghosts as item_order}

-- the derived equality of items of references is the readable one
pub item_is : ◌≡◌ {A = RefItem → RefItem → Bool} item_eq.eq same_item
item_is = ap (λ (same : List Element → List Element → Bool). λ (x y : RefItem).
    option_eq same_text x.asset y.asset && (option_eq same x.path y.path && same_offset x.offset y.offset)) path_is

offset_equal : (a b : Offset) → same_offset a b ≡ true → a ≡ b
offset_equal a b h = search rules

-- items of references that the derived equality takes for one are one
pub item_equal : (x y : RefItem) → item_eq.eq x y ≡ true → x ≡ y
item_equal x y h =
    let rest = option_eq path_eq.eq x.path y.path && same_offset x.offset y.offset in
    let p : (option_eq same_text x.asset y.asset ≡ true) × (rest ≡ true) = both_true (option_eq same_text x.asset y.asset) rest h in
    let q : (option_eq path_eq.eq x.path y.path ≡ true) × (same_offset x.offset y.offset ≡ true) = both_true (option_eq path_eq.eq x.path y.path) (same_offset x.offset y.offset) p.1 in
    let asset : x.asset ≡ y.asset = option_same same_text text_same x.asset y.asset p.0 in
    let path : x.path ≡ y.path = option_same path_eq.eq path_equal x.path y.path q.0 in
    let offset : x.offset ≡ y.offset = offset_equal x.offset y.offset q.1 in
    λ i. record { asset = asset i; path = path i; offset = offset i }

offset_tie : (a b : Offset) → offset_order.cmp a b ≡ Equal → a ≡ b
offset_tie a b h = search rules

-- items of references that the derived `Ord` takes for equal are one
pub item_tie : (x y : RefItem) → item_order.cmp x y ≡ Equal → x ≡ y
item_tie x y h =
    let rest = ordering_then (option_cmp path_order.cmp x.path y.path) (offset_order.cmp x.offset y.offset) in
    let p : (option_cmp text_cmp x.asset y.asset ≡ Equal) × (rest ≡ Equal) = then_both (option_cmp text_cmp x.asset y.asset) rest h in
    let q : (option_cmp path_order.cmp x.path y.path ≡ Equal) × (offset_order.cmp x.offset y.offset ≡ Equal) = then_both (option_cmp path_order.cmp x.path y.path) (offset_order.cmp x.offset y.offset) p.1 in
    let asset : x.asset ≡ y.asset = option_tie text_cmp exact_bytes x.asset y.asset p.0 in
    let path : x.path ≡ y.path = option_tie path_order.cmp path_tie x.path y.path q.0 in
    let offset : x.offset ≡ y.offset = offset_tie x.offset y.offset q.1 in
    λ i. record { asset = asset i; path = path i; offset = offset i }

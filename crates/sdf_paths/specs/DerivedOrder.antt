-- The derived comparisons of elements tell values apart, and order them as the readable order does.
use Rattle.std.specs.Prelude.{◌≡◌, List, refl}
use Rattle.std.proofs.Common.{ap, sym, ◌∙◌}
use Rattle.std.specs.Cmp.Lexicographic.{slice_cmp}
use Rattle.std.specs.declared.cmp.Ordering.{Ordering}
use Rattle.std.specs.declared.cmp.Ordering.TheVariants.{Equal}
use Rattle.std.proofs.lemmas.Map.Lookups.{exact_bytes}
use Rattle.plain_data.specs.Exact.{slice_cmp_same, then_both}
use Rattle.sdf_paths.specs.Order.{text_cmp, element_cmp, path_cmp}
use Rattle.sdf_paths.specs.contracts.element.ElementOrd.TheImpl.{ghosts as element_order}
use Rattle.sdf_paths.specs.declared.element.Element.{Element}
use Rattle.sdf_paths.specs.declared.element.Element.TheVariants.{Prim, Property, Selection}

-- elements that compare as equal are one
pub element_cmp_same : (x y : Element) → element_cmp x y ≡ Equal → x ≡ y
element_cmp_same (Prim a) (Prim b) h = ap Prim (exact_bytes a b h)
element_cmp_same (Prim a) (Property b) h = cc
element_cmp_same (Prim a) (Selection t w) h = cc
element_cmp_same (Property a) (Prim b) h = cc
element_cmp_same (Property a) (Property b) h = ap Property (exact_bytes a b h)
element_cmp_same (Property a) (Selection t w) h = cc
element_cmp_same (Selection s v) (Prim b) h = cc
element_cmp_same (Selection s v) (Property b) h = cc
element_cmp_same (Selection s v) (Selection t w) h =
    let both = then_both (text_cmp s t) (text_cmp v w) h in
    let set = exact_bytes s t both.0 in
    let variant = exact_bytes v w both.1 in
    cc

-- paths that compare as equal are one
pub path_cmp_same : (x y : List Element) → path_cmp x y ≡ Equal → x ≡ y
path_cmp_same x y h = slice_cmp_same element_cmp element_cmp_same x y h

-- what the derived `Ord` computes
pub element_cmp_is : (x y : Element) → element_order.cmp x y ≡ element_cmp x y
element_cmp_is (Prim a) (Prim b) = refl
element_cmp_is (Prim a) (Property b) = refl
element_cmp_is (Prim a) (Selection t w) = refl
element_cmp_is (Property a) (Prim b) = refl
element_cmp_is (Property a) (Property b) = refl
element_cmp_is (Property a) (Selection t w) = refl
element_cmp_is (Selection s v) (Prim b) = refl
element_cmp_is (Selection s v) (Property b) = refl
element_cmp_is (Selection s v) (Selection t w) = refl

-- elements that the derived `Ord` takes for equal are one
pub element_tie : (x y : Element) → element_order.cmp x y ≡ Equal → x ≡ y
element_tie x y h = element_cmp_same x y (sym (element_cmp_is x y) ∙ h)

-- the derived order, as a function
pub element_order_is : ◌≡◌ {A = Element → Element → Ordering} element_order.cmp element_cmp
element_order_is = λ i x y. element_cmp_is x y i

-- the derived order of paths is the readable one
pub path_order_is : ◌≡◌ {A = List Element → List Element → Ordering} (slice_cmp element_order.cmp) path_cmp
path_order_is = ap slice_cmp element_order_is

-- The derived comparisons of paths are the readable ones.
use Rattle.std.specs.Prelude.{◌≡◌, List, Bool, true, refl}
use Rattle.std.proofs.Common.{ap, sym, ◌∙◌}
use Rattle.std.specs.Cmp.Lexicographic.{pointwise}
use Rattle.std.specs.declared.cmp.Ordering.{Ordering}
use Rattle.std.specs.declared.cmp.Ordering.TheVariants.{Equal}
use Rattle.std.proofs.Common.{rules}
use Rattle.plain_data.specs.Exact.{pointwise_same}
use Rattle.sdf_paths.specs.Order.{path_cmp}
use Rattle.sdf_paths.specs.Paths.{same_element}
use Rattle.sdf_paths.specs.DerivedOrder.{path_cmp_same, path_order_is}
use Rattle.sdf_paths.specs.contracts.element.ElementPartialEq.TheImpl.{ghosts as element_eq}
use Rattle.sdf_paths.specs.contracts.path.PathPartialEq.TheImpl.{ghosts as path_eq}
use Rattle.sdf_paths.specs.contracts.path.PathOrd.TheImpl.{ghosts as path_order}
use Rattle.sdf_paths.specs.declared.element.Element.{Element}
use Rattle.sdf_paths.specs.declared.element.Element.TheVariants.{Prim, Property, Selection}

-- the derived equality of elements is the readable one
pub element_is : (x y : Element) → element_eq.eq x y ≡ same_element x y
element_is (Prim a) (Prim b) = refl
element_is (Prim a) (Property b) = refl
element_is (Prim a) (Selection t w) = refl
element_is (Property a) (Prim b) = refl
element_is (Property a) (Property b) = refl
element_is (Property a) (Selection t w) = refl
element_is (Selection s v) (Prim b) = refl
element_is (Selection s v) (Property b) = refl
element_is (Selection s v) (Selection t w) = refl

element_fun : ◌≡◌ {A = Element → Element → Bool} element_eq.eq same_element
element_fun = λ i x y. element_is x y i

-- the derived equality of paths is the readable one
pub path_is : ◌≡◌ {A = List Element → List Element → Bool} path_eq.eq (pointwise same_element)
path_is = ap pointwise element_fun

element_equal : (x y : Element) → element_eq.eq x y ≡ true → x ≡ y
element_equal = search rules

-- paths that the derived equality takes for one are one
pub path_equal : (x y : List Element) → path_eq.eq x y ≡ true → x ≡ y
path_equal x y h = pointwise_same element_eq.eq element_equal x y h

-- the derived comparison of paths is the readable one
pub path_cmp_is : (x y : List Element) → path_order.cmp x y ≡ path_cmp x y
path_cmp_is x y = λ i. path_order_is i x y

-- maps whose keys are paths are ordered by `path_cmp`
pub order_is : ◌≡◌ {A = List Element → List Element → Ordering} path_order.cmp path_cmp
order_is = path_order_is

-- paths that the derived `Ord` takes for equal are one
pub path_tie : (x y : List Element) → path_order.cmp x y ≡ Equal → x ≡ y
path_tie x y h = path_cmp_same x y (sym (path_cmp_is x y) ∙ h)

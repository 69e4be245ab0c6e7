-- An order of items: by their layer, their path and their offset.
use Rattle.std.specs.Prelude.{◌≡◌, ℕ, List, []}
use Rattle.std.proofs.Common.{refl, sym, ap, ◌∙◌, subst, arith}
use Rattle.std.specs.Cmp.{IsTotalOrder, IsEquivalence, then_total, on_total, nat_cmp_total, int_cmp_total, tied_itself, Equal-is}
use Rattle.std.specs.Cmp.Lexicographic.{slice_cmp, nat_list_cmp_total, lists_total, options_total}
use Rattle.std.specs.Option.{option_cmp}
use Rattle.std.specs.Ordering.{nat_cmp, int_cmp, on, then_cmp, ordering_then, is_eq}
use Rattle.std.specs.declared.cmp.Ordering.{Ordering}
use Rattle.std.specs.declared.cmp.Ordering.TheVariants.{Less, Equal, Greater}
use Rattle.std.proofs.lemmas.Map.Lookups.{exact_bytes, exact_unsigned, exact_signed}
use Rattle.plain_data.specs.Exact.{then_both, option_tie}
use Rattle.sdf_paths.specs.PathOrder.{path_tie, order_is}
use Rattle.sdf_paths.specs.Order.{element_cmp}
use Rattle.sdf_paths.specs.declared.element.Element.{Element}
use Rattle.sdf_paths.specs.declared.element.Element.TheVariants.{Prim, Property, Selection}
use Rattle.sdf_paths.specs.contracts.path.PathOrd.TheImpl.{ghosts as path_order}
use Rattle.composition.specs.Arcs.{Source, Item, own, named, unanchored, same_item}
use Rattle.arc_expand.specs.SameItems.{item_same, item_itself, one_is_same}
use Rattle.composition.proofs.Tests.{one_answer}

-- items that lead to their own stack, those that name a layer, and those that cannot be anchored
abbrev pub rank : Source → ℕ
rank own = 0
rank (named a) = 1
rank (unanchored a) = 2

-- the name of the layer to which an item leads, or the asset as it is written
abbrev pub source_text : Source → List ℕ
source_text own = []
source_text (named a) = a
source_text (unanchored a) = a

-- items go by where they lead, then by path, offset and scale
abbrev pub item_cmp : Item → Item → Ordering
item_cmp =
    then_cmp (on (λ i. rank i.source) nat_cmp)
    (then_cmp (on (λ i. source_text i.source) (slice_cmp nat_cmp))
    (then_cmp (on (λ i. i.path) (option_cmp path_order.cmp))
    (then_cmp (on (λ i. i.offset.offset) int_cmp) (on (λ i. i.offset.scale) int_cmp))))

-- ---- the order of paths is total

element_rank : Element → ℕ
element_rank (Prim a) = 0
element_rank (Property a) = 1
element_rank (Selection s v) = 2

first_text : Element → List ℕ
first_text (Prim a) = a
first_text (Property a) = a
first_text (Selection s v) = s

second_text : Element → List ℕ
second_text (Prim a) = []
second_text (Property a) = []
second_text (Selection s v) = v

by_parts : Element → Element → Ordering
by_parts = then_cmp (on element_rank nat_cmp) (then_cmp (on first_text (slice_cmp nat_cmp)) (on second_text (slice_cmp nat_cmp)))

then_equal : (o : Ordering) → ordering_then o Equal ≡ o
then_equal Less = refl
then_equal Equal = refl
then_equal Greater = refl

parts_are : (x y : Element) → by_parts x y ≡ element_cmp x y
unfolding element_rank first_text second_text by_parts
parts_are (Prim a) (Prim b) = then_equal (slice_cmp nat_cmp a b)
parts_are (Prim a) (Property b) = refl
parts_are (Prim a) (Selection t w) = refl
parts_are (Property a) (Prim b) = refl
parts_are (Property a) (Property b) = then_equal (slice_cmp nat_cmp a b)
parts_are (Property a) (Selection t w) = refl
parts_are (Selection s v) (Prim b) = refl
parts_are (Selection s v) (Property b) = refl
parts_are (Selection s v) (Selection t w) = refl

parts_total : IsTotalOrder by_parts
unfolding by_parts
parts_total =
    then_total (on_total element_rank nat_cmp_total)
    (then_total (on_total first_text nat_list_cmp_total) (on_total second_text nat_list_cmp_total))

element_total : IsTotalOrder element_cmp
element_total = subst (λ (r : Element → Element → Ordering). IsTotalOrder r) (λ i x y. parts_are x y i) parts_total

path_total : IsTotalOrder path_order.cmp
path_total = subst (λ (r : List Element → List Element → Ordering). IsTotalOrder r) (sym order_is) (lists_total element_total)

-- any two items stand in this order, and it is one order
pub item_total : IsTotalOrder item_cmp
item_total =
    then_total (on_total (λ (i : Item). rank i.source) nat_cmp_total)
    (then_total (on_total (λ (i : Item). source_text i.source) nat_list_cmp_total)
    (then_total (on_total (λ (i : Item). i.path) (options_total path_total))
    (then_total (on_total (λ (i : Item). i.offset.offset) int_cmp_total) (on_total (λ (i : Item). i.offset.scale) int_cmp_total))))

source_is : (a b : Source) → rank a ≡ rank b → source_text a ≡ source_text b → a ≡ b
source_is own own r t = refl
source_is (named a) (named b) r t = ap named t
source_is (unanchored a) (unanchored b) r t = ap unanchored t
source_is own (named b) r t = absurd (omega (arith, r))
source_is own (unanchored b) r t = absurd (omega (arith, r))
source_is (named a) own r t = absurd (omega (arith, r))
source_is (named a) (unanchored b) r t = absurd (omega (arith, r))
source_is (unanchored a) own r t = absurd (omega (arith, r))
source_is (unanchored a) (named b) r t = absurd (omega (arith, r))

-- items that the order does not part are one
pub item_tie : (x y : Item) → item_cmp x y ≡ Equal → x ≡ y
item_tie x y h =
    let first = then_both (nat_cmp (rank x.source) (rank y.source)) _ h in
    let second = then_both (slice_cmp nat_cmp (source_text x.source) (source_text y.source)) _ first.1 in
    let third = then_both (option_cmp path_order.cmp x.path y.path) _ second.1 in
    let fourth = then_both (int_cmp x.offset.offset y.offset.offset) (int_cmp x.offset.scale y.offset.scale) third.1 in
    let source = source_is x.source y.source (exact_unsigned (rank x.source) (rank y.source) first.0) (exact_bytes (source_text x.source) (source_text y.source) second.0) in
    let path = option_tie path_order.cmp path_tie x.path y.path third.0 in
    let offset = exact_signed x.offset.offset y.offset.offset fourth.0 in
    let scale = exact_signed x.offset.scale y.offset.scale fourth.1 in
    λ i. record { source = source i; path = path i; offset = record { offset = offset i; scale = scale i } }

-- the test of items holds exactly where the order does not part them
pub item_ties : (x y : Item) → same_item x y ≡ is_eq (item_cmp x y)
item_ties x y =
    one_answer (same_item x y) (is_eq (item_cmp x y)) (item_same x y, one_is_same x y)
    (λ h. item_tie x y ((Equal-is (item_cmp x y)).0 h))
    (λ is. ap (λ (z : Item). is_eq (item_cmp x z)) (sym is) ∙ ap is_eq (tied_itself item_total x))

-- the test of items is an equivalence
pub item_equiv : IsEquivalence same_item
item_equiv = record {
  refl = item_itself;
  symm = λ x y. one_answer (same_item x y) (same_item y x) (item_same x y, one_is_same x y) (λ h. sym (item_same y x h)) (λ is. one_is_same y x (sym is));
  congr = λ x y z h. ap (λ (w : Item). same_item w z) (item_same x y h);
}

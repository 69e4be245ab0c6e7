-- The test of items tells every two apart.
use Rattle.std.proofs.Common.{◌≡◌, ◌∙◌, sym, ap, refl, arith, ℕ, Bool, true, false, IsTrue, ◌↔◌, List, [], ◌∷◌, Option, Some, None}
use Rattle.std.specs.Prelude.{ℤ, pos, negsuc, nat_le}
use Rattle.std.proofs.lemmas.Bool.Decides.{nat_tests}
use Rattle.sdf_paths.specs.Paths.{same_element}
use Rattle.sdf_values.specs.Scales.{Offset}
use Rattle.composition.specs.Texts.{same_list, same_option, both}
use Rattle.composition.specs.Paths.{same_path}
use Rattle.composition.specs.World.{same_number, same_offset}
use Rattle.composition.specs.Arcs.{Source, Item, own, named, unanchored, same_source, same_item}
use Rattle.composition.proofs.Same.{same_text_same, same_itself, element_same, element_itself}
use Rattle.composition.proofs.Tests.{both_hold, both_parts, one_answer}

-- ---- numbers and offsets

same_nat : (m n : ℕ) → nat_le m n ≡ true → nat_le n m ≡ true → m ≡ n
same_nat m n h k = grind (arith, nat_tests)

least : (n : ℕ) → nat_le n n ≡ true
least n = grind (arith, nat_tests)

number_same : (a b : ℤ) → same_number a b ≡ true → a ≡ b
number_same (pos m) (pos n) h = let both = both_parts (nat_le m n) (nat_le n m) h in ap pos (same_nat m n both.0 both.1)
number_same (pos m) (negsuc n) h = absurd cc
number_same (negsuc m) (pos n) h = absurd cc
number_same (negsuc m) (negsuc n) h = let both = both_parts (nat_le n m) (nat_le m n) h in ap negsuc (same_nat m n both.1 both.0)

number_itself : (a : ℤ) → same_number a a ≡ true
number_itself (pos n) = both_hold (nat_le n n) (nat_le n n) (least n) (least n)
number_itself (negsuc n) = both_hold (nat_le n n) (nat_le n n) (least n) (least n)

offset_same : (a b : Offset) → same_offset a b ≡ true → a ≡ b
offset_same a b h =
    let both = both_parts (same_number a.offset b.offset) (same_number a.scale b.scale) h in
    let offset = number_same a.offset b.offset both.0 in
    let scale = number_same a.scale b.scale both.1 in
    λ i. record { offset = offset i; scale = scale i }

offset_itself : (a : Offset) → same_offset a a ≡ true
offset_itself a = both_hold (same_number a.offset a.offset) (same_number a.scale a.scale) (number_itself a.offset) (number_itself a.scale)

-- ---- lists

module _ {T : Type 0} (same : T → T → Bool) where
  list_same : ((x y : T) → same x y ≡ true → x ≡ y) → (xs ys : List T) → same_list same xs ys ≡ true → xs ≡ ys
  list_same exact [] [] h = refl
  list_same exact [] (y ∷ ys) h = absurd cc
  list_same exact (x ∷ xs) [] h = absurd cc
  list_same exact (x ∷ xs) (y ∷ ys) h = by_first (same x y) refl h (list_same exact xs ys)
    where
      by_first : (b : Bool) → same x y ≡ b → (elim b as (λ _. Bool) [ true ↦ same_list same xs ys | false ↦ false ]) ≡ true
          → (same_list same xs ys ≡ true → xs ≡ ys) → (x ∷ xs) ≡ (y ∷ ys)
      by_first true is h rest =
          let first : x ≡ y = exact x y is in
          let others : xs ≡ ys = rest h in
          cc
      by_first false is h rest = absurd cc

  list_itself : ((x : T) → same x x ≡ true) → (xs : List T) → same_list same xs xs ≡ true
  list_itself itself [] = refl
  list_itself itself (x ∷ xs) = ap (λ (b : Bool). elim b as (λ _. Bool) [ true ↦ same_list same xs xs | false ↦ false ]) (itself x) ∙ list_itself itself xs

  option_same : ((x y : T) → same x y ≡ true → x ≡ y) → (x y : Option T) → same_option same x y ≡ true → x ≡ y
  option_same exact None None h = refl
  option_same exact None (Some y) h = absurd cc
  option_same exact (Some x) None h = absurd cc
  option_same exact (Some x) (Some y) h = ap Some (exact x y h)

  option_itself : ((x : T) → same x x ≡ true) → (x : Option T) → same_option same x x ≡ true
  option_itself itself None = refl
  option_itself itself (Some x) = itself x

-- ---- items

source_same : (a b : Source) → same_source a b ≡ true → a ≡ b
source_same own own h = refl
source_same (named a) (named b) h = ap named (same_text_same a b h)
source_same (unanchored a) (unanchored b) h = ap unanchored (same_text_same a b h)
source_same own (named b) h = absurd cc
source_same own (unanchored b) h = absurd cc
source_same (named a) own h = absurd cc
source_same (named a) (unanchored b) h = absurd cc
source_same (unanchored a) own h = absurd cc
source_same (unanchored a) (named b) h = absurd cc

source_itself : (a : Source) → same_source a a ≡ true
source_itself own = refl
source_itself (named a) = same_itself a
source_itself (unanchored a) = same_itself a

-- items that pass the test are one
pub item_same : (a b : Item) → same_item a b ≡ true → a ≡ b
item_same a b h =
    let first = both_parts (same_source a.source b.source) (both (same_option same_path a.path b.path) (same_offset a.offset b.offset)) h in
    let second = both_parts (same_option same_path a.path b.path) (same_offset a.offset b.offset) first.1 in
    let source = source_same a.source b.source first.0 in
    let path = option_same same_path (list_same same_element element_same) a.path b.path second.0 in
    let offset = offset_same a.offset b.offset second.1 in
    λ i. record { source = source i; path = path i; offset = offset i }

-- each item passes the test with itself
pub item_itself : (a : Item) → same_item a a ≡ true
item_itself a =
    both_hold (same_source a.source a.source) (both (same_option same_path a.path a.path) (same_offset a.offset a.offset)) (source_itself a.source)
    (both_hold (same_option same_path a.path a.path) (same_offset a.offset a.offset)
    (option_itself same_path (list_itself same_element element_itself) a.path) (offset_itself a.offset))

-- items that are one pass the test
pub one_is_same : (a b : Item) → a ≡ b → same_item a b ≡ true
one_is_same a b is = ap (λ (x : Item). same_item a x) (sym is) ∙ item_itself a

-- an answer that tells whether two items are one
pub item_told : (a b : Item) (r : Bool) → IsTrue r ↔ (a ≡ b) → r ≡ same_item a b
item_told a b r told = one_answer r (same_item a b) told (item_same a b) (one_is_same a b)

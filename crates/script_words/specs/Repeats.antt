-- When two references are one: as they are written, with offsets in range or not.
use Rattle.std.specs.Prelude.{◌≡◌, ◌&&◌, Bool, true, false, List, refl}
use Rattle.std.proofs.Common.{◌∙◌, ap, rules}
use Rattle.std.specs.Option.{option_eq, option_cmp}
use Rattle.std.specs.Ordering.{int_eq, ordering_then}
use Rattle.std.specs.declared.cmp.Ordering.TheVariants.{Equal}
use Rattle.std.proofs.lemmas.Map.Lookups.{exact_bytes}
use Rattle.sdf_paths.specs.contracts.path.PathPartialEq.TheImpl.{ghosts as path_eq}
use Rattle.sdf_paths.specs.contracts.path.PathOrd.TheImpl.{ghosts as path_order}
use Rattle.sdf_paths.specs.declared.element.Element.{Element}
use Rattle.sdf_paths.specs.PathOrder.{path_equal, path_is, path_tie}
use Rattle.sdf_paths.specs.Order.{text_cmp}
use Rattle.plain_data.specs.Exact.{both_true, option_same, option_tie, text_same, then_both}
use Rattle.sdf_values.specs.Numbers.{DecimalNumber}
use Rattle.sdf_values.specs.contracts.decimal.NumPartialEq.TheImpl.{ghosts as num_eq}
use Rattle.sdf_values.specs.contracts.decimal.NumOrd.TheImpl.{ghosts as num_order}
use Rattle.sdf_values.specs.declared.decimal.Num.{Num}
use Rattle.sdf_values.specs.declared.decimal.Num.TheVariants.{Finite, Inf, NegInf, Nan}
use Rattle.edit_batches.specs.declared.written.WrittenOffset.{WrittenOffset}
use Rattle.edit_batches.specs.declared.written.WrittenReference.{WrittenReference}
use Rattle.usda_lists.specs.References.{same_text, same_path}
use Rattle.script_words.specs.contracts.repeats.OrderedReferencePartialEq.TheImpl.{ghosts as reference_eq}
use Rattle.script_words.specs.contracts.repeats.OrderedReferenceOrd.TheImpl.{ghosts as reference_order}

-- two decimals are one: the same digits and the same exponent
abbrev pub same_decimal : DecimalNumber → DecimalNumber → Bool
same_decimal a b = int_eq a.digits b.digits && int_eq a.exp b.exp

-- two numbers are one; here `nan` is the same as itself
abbrev pub same_number : Num → Num → Bool
same_number (Finite a) (Finite b) = same_decimal a b
same_number Inf Inf = true
same_number NegInf NegInf = true
same_number Nan Nan = true
same_number a b = false

-- two offsets are one, as they are written
abbrev pub same_offset : WrittenOffset → WrittenOffset → Bool
same_offset a b = same_number a.offset b.offset && same_number a.scale b.scale

-- two references are one
abbrev pub same_reference : WrittenReference → WrittenReference → Bool
same_reference a b = option_eq same_text a.asset b.asset && (option_eq same_path a.path b.path && same_offset a.offset b.offset)

-- ---- the derived comparisons are these, and tell references apart

number_is : (x y : Num) → num_eq.eq x y ≡ same_number x y
number_is (Finite a) (Finite b) = refl
number_is (Finite a) Inf = refl
number_is (Finite a) NegInf = refl
number_is (Finite a) Nan = refl
number_is Inf (Finite b) = refl
number_is Inf Inf = refl
number_is Inf NegInf = refl
number_is Inf Nan = refl
number_is NegInf (Finite b) = refl
number_is NegInf Inf = refl
number_is NegInf NegInf = refl
number_is NegInf Nan = refl
number_is Nan (Finite b) = refl
number_is Nan Inf = refl
number_is Nan NegInf = refl
number_is Nan Nan = refl

number_fun : ◌≡◌ {A = Num → Num → Bool} num_eq.eq same_number
number_fun = λ i x y. number_is x y i

-- two references by these comparisons of paths and numbers
abbrev equal_by : (List Element → List Element → Bool) → (Num → Num → Bool) → WrittenReference → WrittenReference → Bool
equal_by path number x y =
    option_eq same_text x.asset y.asset && (option_eq path x.path y.path && (number x.offset.offset y.offset.offset && number x.offset.scale y.offset.scale))

-- the derived equality of references is the one above
pub reference_is : ◌≡◌ {A = WrittenReference → WrittenReference → Bool} reference_eq.eq same_reference
reference_is =
    ap (λ (path : List Element → List Element → Bool). equal_by path num_eq.eq) path_is
    ∙ ap (λ (number : Num → Num → Bool). equal_by same_path number) number_fun

number_equal : (a b : Num) → num_eq.eq a b ≡ true → a ≡ b
number_equal a b h = search rules

-- references that compare equal are one
pub reference_equal : (x y : WrittenReference) → reference_eq.eq x y ≡ true → x ≡ y
reference_equal x y h =
    let numbers = num_eq.eq x.offset.offset y.offset.offset && num_eq.eq x.offset.scale y.offset.scale in
    let rest = option_eq path_eq.eq x.path y.path && numbers in
    let p : (option_eq same_text x.asset y.asset ≡ true) × (rest ≡ true) = both_true (option_eq same_text x.asset y.asset) rest h in
    let q : (option_eq path_eq.eq x.path y.path ≡ true) × (numbers ≡ true) = both_true (option_eq path_eq.eq x.path y.path) numbers p.1 in
    let r : (num_eq.eq x.offset.offset y.offset.offset ≡ true) × (num_eq.eq x.offset.scale y.offset.scale ≡ true)
    = both_true (num_eq.eq x.offset.offset y.offset.offset) (num_eq.eq x.offset.scale y.offset.scale) q.1 in
    let asset : x.asset ≡ y.asset = option_same same_text text_same x.asset y.asset p.0 in
    let path : x.path ≡ y.path = option_same path_eq.eq path_equal x.path y.path q.0 in
    let offset : x.offset.offset ≡ y.offset.offset = number_equal x.offset.offset y.offset.offset r.0 in
    let scale : x.offset.scale ≡ y.offset.scale = number_equal x.offset.scale y.offset.scale r.1 in
    λ i. record { asset = asset i; path = path i; offset = record { offset = offset i; scale = scale i } }

number_tie : (a b : Num) → num_order.cmp a b ≡ Equal → a ≡ b
number_tie a b h = search rules

-- references that the derived order does not part are one
pub reference_tie : (x y : WrittenReference) → reference_order.cmp x y ≡ Equal → x ≡ y
reference_tie x y h =
    let numbers = ordering_then (num_order.cmp x.offset.offset y.offset.offset) (num_order.cmp x.offset.scale y.offset.scale) in
    let rest = ordering_then (option_cmp path_order.cmp x.path y.path) numbers in
    let p : (option_cmp text_cmp x.asset y.asset ≡ Equal) × (rest ≡ Equal) = then_both (option_cmp text_cmp x.asset y.asset) rest h in
    let q : (option_cmp path_order.cmp x.path y.path ≡ Equal) × (numbers ≡ Equal) = then_both (option_cmp path_order.cmp x.path y.path) numbers p.1 in
    let r : (num_order.cmp x.offset.offset y.offset.offset ≡ Equal) × (num_order.cmp x.offset.scale y.offset.scale ≡ Equal)
    = then_both (num_order.cmp x.offset.offset y.offset.offset) (num_order.cmp x.offset.scale y.offset.scale) q.1 in
    let asset : x.asset ≡ y.asset = option_tie text_cmp exact_bytes x.asset y.asset p.0 in
    let path : x.path ≡ y.path = option_tie path_order.cmp path_tie x.path y.path q.0 in
    let offset : x.offset.offset ≡ y.offset.offset = number_tie x.offset.offset y.offset.offset r.0 in
    let scale : x.offset.scale ≡ y.offset.scale = number_tie x.offset.scale y.offset.scale r.1 in
    λ i. record { asset = asset i; path = path i; offset = record { offset = offset i; scale = scale i } }

-- A value of the type that means the same is what is taken.
use Rattle.std.proofs.Common.{◌≡◌, ◌∙◌, ℕ, ◌^◌, ◌&&◌, ◌==◌, not, nat_le, Bool, true, false, List, ◌∷◌, length, map, Option, Some, None, Ok, Err, ap, sym, refl, eqb-true, arith}
use Rattle.std.specs.Prelude.{if◌then◌else◌, ℤ, pos, negsuc, unsigned_abs}
use Rattle.std.specs.Option.{is_some}
use Rattle.std.proofs.lemmas.Bool.Decides.{nat_tests}
use Rattle.std.proofs.lemmas.List.{length-map}
use Rattle.std.proofs.lemmas.Bool.{and_parts}
use Rattle.sdf_values.specs.Numbers.{DecimalNumber, SameNumber}
use Rattle.sdf_values.specs.Scales.{IsTime, IsTimeOf}
use Rattle.sdf_values.specs.Proper.{all_true}
use Rattle.sdf_values.specs.Conforms.{holds, holds_step, item_step, is_element, all_hold, are_members, members_of, one}
use Rattle.sdf_values.specs.declared.decimal.Num.{Num}
use Rattle.sdf_values.specs.declared.decimal.Num.TheVariants as num
use Rattle.sdf_values.specs.declared.refusal.RefusalKind.TheVariants.{ValueShape}
use Rattle.sdf_values.specs.declared.type_name.ElementType.{ElementType}
use Rattle.sdf_values.specs.declared.type_name.ElementType.TheVariants as element
use Rattle.sdf_values.specs.declared.type_name.Precision.{Precision}
use Rattle.sdf_values.specs.declared.type_name.TypeName.{TypeName}
use Rattle.sdf_values.specs.declared.value.Value.{Value}
use Rattle.sdf_values.specs.declared.value.Value.TheOpen.{Value-F}
use Rattle.sdf_values.specs.declared.value.Value.TheVariants as value
use Rattle.usda_values.specs.Scalars.{Taken, take_decimal, take_time, take_whole_time, in_128_bits, decimal_of_whole}
use Rattle.usda_values.specs.Shaping.{Taking, TakenAll, before_all, take_all, take_counted, as_tuple, as_array, take_tuple, take_step, take_item, taken}
use Rattle.usda_values.proofs.TimeLaw.{time_found}
use Rattle.value_shapes.specs.Held.{is_held, held_step, held_item, is_form}
use Rattle.value_shapes.specs.Meanings.{SameMeaning, SameMeanings, itself, whole_as_number, whole_as_time, number_as_time, number_as_truth, word_as_truth, tuple, array, none, more, truth_number, truth_word}
use Rattle.sdf_values.proofs.Values as fold
use Rattle.value_shapes.proofs.Elements.{Test}
use Rattle.value_shapes.proofs.Forms.{form_is, held_size}
use Rattle.value_shapes.proofs.Found.{decimal_found, time_found_of}
use Rattle.value_shapes.proofs.Kept.{kept}
use Rattle.value_shapes.proofs.Taken.{typed}

-- the value is taken wherever it is one of the type
abbrev IsFound : Value → Value → Type 0
IsFound v w = is_held v ≡ true → is_held w ≡ true → (t : TypeName) → holds w t ≡ true → taken v t ≡ Ok w

abbrev AreFound : List Value → List Value → Type 0
AreFound vs ws =
    all_true (map is_held vs) ≡ true → all_true (map is_held ws) ≡ true → (t : TypeName) → all_hold (map holds ws) t ≡ true
    → (take_all (map taken vs) t ≡ Ok ws) × (take_counted (length ws) (map taken vs) t ≡ Ok ws)

-- the types of the values of one token
real_type : (x : Num) (a : Bool) (e : ElementType) → (not a && is_element (Value-F.Number x) e) ≡ true → (p : Precision) × (typed e a ≡ one (element.Real p))
real_type x false (element.Real p) h = (p, refl)
real_type x false _ h = absurd cc
real_type x true e h = absurd cc

time_type : (u : ℤ) (a : Bool) (e : ElementType) → (not a && is_element (Value-F.Time u) e) ≡ true → typed e a ≡ one element.Timecode
time_type u false element.Timecode h = refl
time_type u false _ h = absurd cc
time_type u true e h = absurd cc

truth_type : (b a : Bool) (e : ElementType) → (not a && is_element (Value-F.Bool b) e) ≡ true → typed e a ≡ one element.Bool
truth_type b false element.Bool h = refl
truth_type b false _ h = absurd cc
truth_type b true e h = absurd cc

number_type : (x : Num) (t : TypeName) → holds (value.Number x) t ≡ true → (p : Precision) × (t ≡ one (element.Real p))
number_type x t h = real_type x t.array t.element (sym (ap (λ f. f t) (fold.of_number Test Test holds_step item_step x)) ∙ h)

of_time_type : (u : ℤ) (t : TypeName) → holds (value.Time u) t ≡ true → t ≡ one element.Timecode
of_time_type u t h = time_type u t.array t.element (sym (ap (λ f. f t) (fold.of_time Test Test holds_step item_step u)) ∙ h)

of_truth_type : (b : Bool) (t : TypeName) → holds (value.Bool b) t ≡ true → t ≡ one element.Bool
of_truth_type b t h = truth_type b t.array t.element (sym (ap (λ f. f t) (fold.of_bool Test Test holds_step item_step b)) ∙ h)

-- numbers that are held
held_whole : (n : ℤ) → is_held (value.Whole n) ≡ true → is_some (in_128_bits n) ≡ true
held_whole n h = sym (fold.of_whole Bool Bool held_step held_item n) ∙ h

held_decimal : (d : DecimalNumber) → is_held (value.Number (num.Finite d)) ≡ true → is_form d ≡ true
held_decimal d h = sym (fold.of_number Bool Bool held_step held_item (num.Finite d)) ∙ h

held_time : (u : ℤ) → is_held (value.Time u) ≡ true → IsTime u
held_time u h = let test : nat_le (unsigned_abs u) (10 ^ 30) ≡ true = sym (fold.of_time Bool Bool held_step held_item u) ∙ h in grind (arith, nat_tests)

whole_number : (n : ℤ) (d : DecimalNumber) → SameNumber n (pos 0) d.digits d.exp → IsFound (value.Whole n) (value.Number (num.Finite d))
whole_number n d k hv hw t h =
    let p = number_type (num.Finite d) t h in
    let is : decimal_of_whole n ≡ Some d = decimal_found n d (held_size n (held_whole n hv)) (form_is d (held_decimal d hw)) k in
    ap (taken (value.Whole n)) p.1 ∙ ap (λ f. f (one (element.Real p.0))) (fold.of_whole Taking Taking take_step take_item n) ∙ ap take_decimal is

whole_time : (n u : ℤ) → SameNumber n (pos 0) u (negsuc 17) → IsFound (value.Whole n) (value.Time u)
whole_time n u k hv hw t h =
    let p = time_found_of n u (held_time u hw) k in
    ap (taken (value.Whole n)) (of_time_type u t h) ∙ ap (λ f. f (one element.Timecode)) (fold.of_whole Taking Taking take_step take_item n)
    ∙ ap take_whole_time p.1 ∙ ap take_time p.2

number_time : (d : DecimalNumber) (u : ℤ) → IsTimeOf d u → IsFound (value.Number (num.Finite d)) (value.Time u)
number_time d u k hv hw t h =
    ap (taken (value.Number (num.Finite d))) (of_time_type u t h) ∙ ap (λ f. f (one element.Timecode)) (fold.of_number Taking Taking take_step take_item (num.Finite d))
    ∙ ap take_time (time_found d u (form_is d (held_decimal d hv)) (held_time u hw) k)

bit_step : (b : Bool) → take_step (Value-F.Whole (truth_number b)) (one element.Bool) ≡ Ok (value.Bool b)
bit_step true = refl
bit_step false = refl

word_step : (b : Bool) → take_step (Value-F.Word (truth_word b)) (one element.Bool) ≡ Ok (value.Bool b)
word_step true = refl
word_step false = refl

number_truth : (b : Bool) → IsFound (value.Whole (truth_number b)) (value.Bool b)
number_truth b hv hw t h =
    ap (taken (value.Whole (truth_number b))) (of_truth_type b t h) ∙ ap (λ f. f (one element.Bool)) (fold.of_whole Taking Taking take_step take_item (truth_number b)) ∙ bit_step b

word_truth : (b : Bool) → IsFound (value.Word (truth_word b)) (value.Bool b)
word_truth b hv hw t h =
    ap (taken (value.Word (truth_word b))) (of_truth_type b t h) ∙ ap (λ f. f (one element.Bool)) (fold.of_word Taking Taking take_step take_item (truth_word b)) ∙ word_step b

-- tuples and arrays
tuple_members : (vs ws : List Value) (o : Option (ElementType × ℕ))
    → ((t : TypeName) → all_hold (map holds ws) t ≡ true → take_counted (length ws) (map taken vs) t ≡ Ok ws) → are_members o (map holds ws) ≡ true → take_tuple o (map taken vs) ≡ Ok (value.Tuple ws)
tuple_members vs ws None members h = absurd cc
tuple_members vs ws (Some m) members h =
    let p = and_parts (length (map holds ws) == m.1) (all_hold (map holds ws) (one m.0)) h in
    let count : length ws ≡ m.1 = sym (length-map ws holds) ∙ eqb-true (length (map holds ws)) m.1 p.0 in
    ap as_tuple (ap (λ n. take_counted n (map taken vs) (one m.0)) (sym count) ∙ members (one m.0) p.1)

tuple_cases : (vs ws : List Value) (a : Bool) (e : ElementType)
    → ((t : TypeName) → all_hold (map holds ws) t ≡ true → take_counted (length ws) (map taken vs) t ≡ Ok ws)
    → (not a && are_members (members_of e) (map holds ws)) ≡ true → (if a then Err ValueShape else take_tuple (members_of e) (map taken vs)) ≡ Ok (value.Tuple ws)
tuple_cases vs ws true e members h = absurd cc
tuple_cases vs ws false e members h = tuple_members vs ws (members_of e) members h

tuples : (vs ws : List Value) → AreFound vs ws → IsFound (value.Tuple vs) (value.Tuple ws)
tuples vs ws members hv hw t h =
    let kv = sym (fold.of_tuple Bool Bool held_step held_item vs) ∙ hv in
    let kw = sym (fold.of_tuple Bool Bool held_step held_item ws) ∙ hw in
    ap (λ f. f t) (fold.of_tuple Taking Taking take_step take_item vs)
    ∙ tuple_cases vs ws t.array t.element (λ u g. (members kv kw u g).1) (sym (ap (λ f. f t) (fold.of_tuple Test Test holds_step item_step ws)) ∙ h)

array_cases : (vs ws : List Value) (a : Bool) (e : ElementType)
    → ((t : TypeName) → all_hold (map holds ws) t ≡ true → take_all (map taken vs) t ≡ Ok ws)
    → (a && all_hold (map holds ws) (one e)) ≡ true → (if a then as_array (take_all (map taken vs) (one e)) else Err ValueShape) ≡ Ok (value.Array ws)
array_cases vs ws true e members h = ap as_array (members (one e) h)
array_cases vs ws false e members h = absurd cc

arrays : (vs ws : List Value) → AreFound vs ws → IsFound (value.Array vs) (value.Array ws)
arrays vs ws members hv hw t h =
    let kv = sym (fold.of_array Bool Bool held_step held_item vs) ∙ hv in
    let kw = sym (fold.of_array Bool Bool held_step held_item ws) ∙ hw in
    ap (λ f. f t) (fold.of_array Taking Taking take_step take_item vs)
    ∙ array_cases vs ws t.array t.element (λ u g. (members kv kw u g).0) (sym (ap (λ f. f t) (fold.of_array Test Test holds_step item_step ws)) ∙ h)

one_more : (v w : Value) (vs ws : List Value) → IsFound v w → AreFound vs ws → AreFound (v ∷ vs) (w ∷ ws)
one_more v w vs ws first rest hv hw t h =
    let pv = and_parts (is_held v) (all_true (map is_held vs)) hv in
    let pw = and_parts (is_held w) (all_true (map is_held ws)) hw in
    let p = and_parts (holds w t) (all_hold (map holds ws) t) h in
    let is = first pv.0 pw.0 t p.0 in
    let more = rest pv.1 pw.1 t p.1 in (
      ap (λ (r : Taken). elim r as (λ _. TakenAll) [ Ok x ↦ before_all x (take_all (map taken vs) t) | Err k ↦ Err k ]) is ∙ ap (before_all w) more.0,
      ap (λ (r : Taken). elim r as (λ _. TakenAll) [ Ok x ↦ before_all x (take_counted (length ws) (map taken vs) t) | Err k ↦ Err k ]) is ∙ ap (before_all w) more.1,
    )

mutual
  pub found : (v w : Value) → SameMeaning v w → is_held v ≡ true → is_held w ≡ true → (t : TypeName) → holds w t ≡ true → taken v t ≡ Ok w
  found v w (itself _) hv hw t h = kept v t h
  found v w (whole_as_number n d k) hv hw t h = whole_number n d k hv hw t h
  found v w (whole_as_time n u k) hv hw t h = whole_time n u k hv hw t h
  found v w (number_as_time d u k) hv hw t h = number_time d u k hv hw t h
  found v w (number_as_truth b) hv hw t h = number_truth b hv hw t h
  found v w (word_as_truth b) hv hw t h = word_truth b hv hw t h
  found v w (tuple vs ws k) hv hw t h = tuples vs ws (all_found vs ws k) hv hw t h
  found v w (array vs ws k) hv hw t h = arrays vs ws (all_found vs ws k) hv hw t h

  all_found : (vs ws : List Value) → SameMeanings vs ws → all_true (map is_held vs) ≡ true → all_true (map is_held ws) ≡ true → (t : TypeName) → all_hold (map holds ws) t ≡ true
      → (take_all (map taken vs) t ≡ Ok ws) × (take_counted (length ws) (map taken vs) t ≡ Ok ws)
  all_found vs ws none hv hw t h = (refl, refl)
  all_found vs ws (more v w xs ys k rest) hv hw t h = one_more v w xs ys (found v w k) (all_found xs ys rest) hv hw t h

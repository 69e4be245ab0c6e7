-- Values of one token: what is taken of them is of the type and means the same.
use Rattle.std.proofs.Common.{◌≡◌, ◌∙◌, ℕ, ◌==◌, Bool, true, false, List, Option, Some, None, Ok, Err, ap, sym, refl, subst, eqb-true}
use Rattle.std.specs.Prelude.{codes, if◌then◌else◌, ℤ, pos, negsuc}
use Rattle.std.specs.Cmp.Lexicographic.{pointwise, bytes_decides}
use Rattle.sdf_values.specs.Numbers.{DecimalNumber}
use Rattle.sdf_values.specs.Conforms.{holds, holds_step, item_step, is_between, whole_bounds, one}
use Rattle.sdf_values.specs.declared.decimal.Num.{Num}
use Rattle.sdf_values.specs.declared.decimal.Num.TheVariants as num
use Rattle.sdf_values.specs.declared.refusal.RefusalKind.TheVariants.{ValueShape}
use Rattle.sdf_values.specs.declared.type_name.ElementType.{ElementType}
use Rattle.sdf_values.specs.declared.type_name.ElementType.TheVariants as element
use Rattle.sdf_values.specs.declared.type_name.Precision.{Precision}
use Rattle.sdf_values.specs.declared.type_name.TypeName.{TypeName}
use Rattle.sdf_values.specs.declared.value.Value.{Value}
use Rattle.sdf_values.specs.declared.value.Value.TheVariants as value
use Rattle.usda_values.specs.Scalars.{Taken, take_element, take_bool, take_bool_word, take_bit, take_real, take_decimal, take_timecode, take_number_time, take_whole_time, take_time, take_text, take_asset, take_whole_value, decimal_of_whole, time_of}
use Rattle.value_shapes.specs.Meanings.{SameMeaning, itself, whole_as_number, whole_as_time, number_as_time, number_as_truth, word_as_truth}
use Rattle.value_shapes.specs.Held.{is_held, held_step, held_item}
use Rattle.sdf_values.proofs.Values as fold
use Rattle.value_shapes.proofs.Found.{decimal_held, time_limit}
use Rattle.value_shapes.proofs.Numbers.{whole_parts, whole_same, time_same, whole_time_same}

abbrev pub Test : Type 0
Test = TypeName → Bool

-- a value of the type, and of the meaning, with numbers as a program holds them where those of the first are
pub record Fits (t : TypeName) (v w : Value) : Type 0 where
  pub of_type : holds w t ≡ true
  pub same : SameMeaning v w
  pub held : is_held v ≡ true → is_held w ≡ true

taken_is : (t : TypeName) (v x w : Value) (r : Taken) → Fits t v x → r ≡ Ok x → r ≡ Ok w → Fits t v w
taken_is t v x w r fits e h = let same : x ≡ w = cc in subst (λ y. Fits t v y) same fits

-- values of one token that are of a type
is_truth : (b : Bool) → holds (value.Bool b) (one element.Bool) ≡ true
is_truth b = ap (λ f. f (one element.Bool)) (fold.of_bool Test Test holds_step item_step b)

is_real : (p : Precision) (x : Num) → holds (value.Number x) (one (element.Real p)) ≡ true
is_real p x = ap (λ f. f (one (element.Real p))) (fold.of_number Test Test holds_step item_step x)

is_time : (t : ℤ) → holds (value.Time t) (one element.Timecode) ≡ true
is_time t = ap (λ f. f (one element.Timecode)) (fold.of_time Test Test holds_step item_step t)

is_string : (s : List ℕ) → holds (value.Text s) (one element.String) ≡ true
is_string s = ap (λ f. f (one element.String)) (fold.of_text Test Test holds_step item_step s)

is_token : (s : List ℕ) → holds (value.Text s) (one element.Token) ≡ true
is_token s = ap (λ f. f (one element.Token)) (fold.of_text Test Test holds_step item_step s)

is_asset : (s : List ℕ) → holds (value.Asset s) (one element.Asset) ≡ true
is_asset s = ap (λ f. f (one element.Asset)) (fold.of_asset Test Test holds_step item_step s)

is_whole : (e : ElementType) (n : ℤ) → is_between (whole_bounds e) n ≡ true → holds (value.Whole n) (one e) ≡ true
is_whole e n h = ap (λ f. f (one e)) (fold.of_whole Test Test holds_step item_step n) ∙ h

-- a value as it is, and a truth value
itself_fits : (t : TypeName) (v : Value) → holds v t ≡ true → Fits t v v
itself_fits t v is = record { of_type = is; same = itself v; held = λ h. h }

truth_fits : (v : Value) (b : Bool) → SameMeaning v (value.Bool b) → Fits (one element.Bool) v (value.Bool b)
truth_fits v b same = record { of_type = is_truth b; same = same; held = λ h. fold.of_bool Bool Bool held_step held_item b }

decimal_fit : (p : Precision) (n : ℤ) (d : DecimalNumber) → decimal_of_whole n ≡ Some d → Fits (one (element.Real p)) (value.Whole n) (value.Number (num.Finite d))
decimal_fit p n d e = record {
  of_type = is_real p (num.Finite d);
  same = whole_as_number n d (whole_same n d (whole_parts n d e));
  held = λ h. fold.of_number Bool Bool held_step held_item (num.Finite d) ∙ decimal_held n d (sym (fold.of_whole Bool Bool held_step held_item n) ∙ h) e;
}

time_fit : (v : Value) (d : DecimalNumber) (t : ℤ) → time_of d ≡ Some t → SameMeaning v (value.Time t) → Fits (one element.Timecode) v (value.Time t)
time_fit v d t e same = record { of_type = is_time t; same = same; held = λ h. fold.of_time Bool Bool held_step held_item t ∙ time_limit d t e }

-- `true` and `false`
abbrev if_false : Bool → Taken
if_false b = if b then Ok (value.Bool false) else Err ValueShape

abbrev if_true : List ℕ → Bool → Taken
if_true t b = if b then Ok (value.Bool true) else if_false (pointwise ◌==◌ t (codes "false"))

false_fits : (t : List ℕ) (w : Value) (b : Bool) → pointwise ◌==◌ t (codes "false") ≡ b → if_false b ≡ Ok w → Fits (one element.Bool) (value.Word t) w
false_fits t w true e h =
    let is : t ≡ codes "false" = (bytes_decides t (codes "false")).0 e in
    taken_is (one element.Bool) (value.Word t) (value.Bool false) w (if_false true) (truth_fits (value.Word t) false (subst (λ x. SameMeaning (value.Word x) (value.Bool false)) (sym is) (word_as_truth false))) refl h
false_fits t w false e h = absurd cc

true_fits : (t : List ℕ) (w : Value) (b : Bool) → pointwise ◌==◌ t (codes "true") ≡ b → if_true t b ≡ Ok w → Fits (one element.Bool) (value.Word t) w
true_fits t w true e h =
    let is : t ≡ codes "true" = (bytes_decides t (codes "true")).0 e in
    taken_is (one element.Bool) (value.Word t) (value.Bool true) w (if_true t true) (truth_fits (value.Word t) true (subst (λ x. SameMeaning (value.Word x) (value.Bool true)) (sym is) (word_as_truth true))) refl h
true_fits t w false e h = false_fits t w (pointwise ◌==◌ t (codes "false")) refl h

word_fits : (t : List ℕ) (w : Value) → take_bool_word t ≡ Ok w → Fits (one element.Bool) (value.Word t) w
word_fits t w h = true_fits t w (pointwise ◌==◌ t (codes "true")) refl h

-- 0 and 1
bit_fits : (n : ℤ) (w : Value) → take_bit n ≡ Ok w → Fits (one element.Bool) (value.Whole n) w
bit_fits (pos n) w h = first (n == 0) refl h
  where
    second : (b : Bool) → (n == 0) ≡ false → (n == 1) ≡ b → (if b then Ok (value.Bool true) else Err ValueShape) ≡ Ok w → Fits (one element.Bool) (value.Whole (pos n)) w
    second true _ e g =
        let is : n ≡ 1 = eqb-true n 1 e in
        taken_is (one element.Bool) (value.Whole (pos n)) (value.Bool true) w (Ok (value.Bool true)) (truth_fits (value.Whole (pos n)) true (subst (λ k. SameMeaning (value.Whole (pos k)) (value.Bool true)) (sym is) (number_as_truth true))) refl g
    second false _ e g = absurd cc

    first : (b : Bool) → (n == 0) ≡ b → (if b then Ok (value.Bool false) else if n == 1 then Ok (value.Bool true) else Err ValueShape) ≡ Ok w → Fits (one element.Bool) (value.Whole (pos n)) w
    first true e g =
        let is : n ≡ 0 = eqb-true n 0 e in
        taken_is (one element.Bool) (value.Whole (pos n)) (value.Bool false) w (Ok (value.Bool false)) (truth_fits (value.Whole (pos n)) false (subst (λ k. SameMeaning (value.Whole (pos k)) (value.Bool false)) (sym is) (number_as_truth false))) refl g
    first false e g = second (n == 1) e refl g
bit_fits (negsuc n) w h = absurd cc

bool_fits : (v w : Value) → take_bool v ≡ Ok w → Fits (one element.Bool) v w
bool_fits (value.Bool b) w h = taken_is (one element.Bool) (value.Bool b) (value.Bool b) w (take_bool (value.Bool b)) (itself_fits (one element.Bool) (value.Bool b) (is_truth b)) refl h
bool_fits (value.Word t) w h = word_fits t w h
bool_fits (value.Whole n) w h = bit_fits n w h
bool_fits _ w h = absurd cc

decimal_fits : (p : Precision) (n : ℤ) (w : Value) (o : Option DecimalNumber) → decimal_of_whole n ≡ o → take_decimal o ≡ Ok w → Fits (one (element.Real p)) (value.Whole n) w
decimal_fits p n w None e h = absurd cc
decimal_fits p n w (Some d) e h =
    taken_is (one (element.Real p)) (value.Whole n) (value.Number (num.Finite d)) w (take_decimal (Some d)) (decimal_fit p n d e) refl h

real_fits : (p : Precision) (v w : Value) → take_real v ≡ Ok w → Fits (one (element.Real p)) v w
real_fits p (value.Number x) w h = taken_is (one (element.Real p)) (value.Number x) (value.Number x) w (take_real (value.Number x)) (itself_fits (one (element.Real p)) (value.Number x) (is_real p x)) refl h
real_fits p (value.Whole n) w h = decimal_fits p n w (decimal_of_whole n) refl h
real_fits p _ w h = absurd cc

-- times
number_time_fits : (d : DecimalNumber) (w : Value) (o : Option ℤ) → time_of d ≡ o → take_time o ≡ Ok w → Fits (one element.Timecode) (value.Number (num.Finite d)) w
number_time_fits d w None e h = absurd cc
number_time_fits d w (Some t) e h =
    taken_is (one element.Timecode) (value.Number (num.Finite d)) (value.Time t) w (take_time (Some t)) (time_fit (value.Number (num.Finite d)) d t e (number_as_time d t (time_same d t e))) refl h

number_fits : (x : Num) (w : Value) → take_number_time x ≡ Ok w → Fits (one element.Timecode) (value.Number x) w
number_fits (num.Finite d) w h = number_time_fits d w (time_of d) refl h
number_fits _ w h = absurd cc

whole_time_fits : (n : ℤ) (d : DecimalNumber) (w : Value) (o : Option ℤ) → decimal_of_whole n ≡ Some d → time_of d ≡ o → take_time o ≡ Ok w → Fits (one element.Timecode) (value.Whole n) w
whole_time_fits n d w None k e h = absurd cc
whole_time_fits n d w (Some t) k e h =
    taken_is (one element.Timecode) (value.Whole n) (value.Time t) w (take_time (Some t)) (time_fit (value.Whole n) d t e (whole_as_time n t (whole_time_same n d t (whole_parts n d k) e))) refl h

whole_timed : (n : ℤ) (w : Value) (o : Option DecimalNumber) → decimal_of_whole n ≡ o → take_whole_time o ≡ Ok w → Fits (one element.Timecode) (value.Whole n) w
whole_timed n w None e h = absurd cc
whole_timed n w (Some d) e h = whole_time_fits n d w (time_of d) e refl h

time_fits : (v w : Value) → take_timecode v ≡ Ok w → Fits (one element.Timecode) v w
time_fits (value.Time t) w h = taken_is (one element.Timecode) (value.Time t) (value.Time t) w (take_timecode (value.Time t)) (itself_fits (one element.Timecode) (value.Time t) (is_time t)) refl h
time_fits (value.Number x) w h = number_fits x w h
time_fits (value.Whole n) w h = whole_timed n w (decimal_of_whole n) refl h
time_fits _ w h = absurd cc

string_fits : (v w : Value) → take_text v ≡ Ok w → Fits (one element.String) v w
string_fits (value.Text s) w h = taken_is (one element.String) (value.Text s) (value.Text s) w (take_text (value.Text s)) (itself_fits (one element.String) (value.Text s) (is_string s)) refl h
string_fits _ w h = absurd cc

token_fits : (v w : Value) → take_text v ≡ Ok w → Fits (one element.Token) v w
token_fits (value.Text s) w h = taken_is (one element.Token) (value.Text s) (value.Text s) w (take_text (value.Text s)) (itself_fits (one element.Token) (value.Text s) (is_token s)) refl h
token_fits _ w h = absurd cc

asset_fits : (v w : Value) → take_asset v ≡ Ok w → Fits (one element.Asset) v w
asset_fits (value.Asset s) w h = taken_is (one element.Asset) (value.Asset s) (value.Asset s) w (take_asset (value.Asset s)) (itself_fits (one element.Asset) (value.Asset s) (is_asset s)) refl h
asset_fits _ w h = absurd cc

-- whole numbers within their bounds
bounded_fits : (e : ElementType) (n : ℤ) (w : Value) (b : Bool) → is_between (whole_bounds e) n ≡ b → (if b then Ok (value.Whole n) else Err ValueShape) ≡ Ok w → Fits (one e) (value.Whole n) w
bounded_fits e n w true is h = taken_is (one e) (value.Whole n) (value.Whole n) w (Ok (value.Whole n)) (itself_fits (one e) (value.Whole n) (is_whole e n is)) refl h
bounded_fits e n w false is h = absurd cc

whole_fits : (e : ElementType) (v w : Value) → take_whole_value e v ≡ Ok w → Fits (one e) v w
whole_fits e (value.Whole n) w h = bounded_fits e n w (is_between (whole_bounds e) n) refl h
whole_fits e _ w h = absurd cc

pub element_fits : (e : ElementType) (v w : Value) → take_element e v ≡ Ok w → Fits (one e) v w
element_fits element.Bool v w h = bool_fits v w h
element_fits (element.Real p) v w h = real_fits p v w h
element_fits element.Timecode v w h = time_fits v w h
element_fits element.String v w h = string_fits v w h
element_fits element.Token v w h = token_fits v w h
element_fits element.Asset v w h = asset_fits v w h
element_fits e v w h = whole_fits e v w h

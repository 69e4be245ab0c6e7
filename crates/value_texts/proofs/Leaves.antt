-- The value of one token, where it is expected.
use Rattle.sdf_values.specs.declared.type_name.Precision.{Precision}
use Rattle.sdf_values.specs.declared.refusal.RefusalKind.TheVariants.{Syntax, ValueShape}
use Rattle.std.proofs.Common.{◌≡◌, ◌∙◌, ℕ, ◌^◌, ◌&&◌, ◌||◌, not, Bool, true, false, List, ◌++◌, Option, Some, None, Ok, Err, ap, refl, arith}
use Rattle.std.specs.Prelude.{if◌then◌else◌, codes, ℤ, unsigned_abs, nat_le}
use Rattle.std.specs.Option.{is_none}
use Rattle.std.specs.Str.{is_utf8}
use Rattle.std.proofs.lemmas.Bool.Decides.{nat_tests}
use Rattle.std.proofs.lemmas.Bool.{not-true}
use Rattle.sdf_values.specs.Numbers.{DecimalNumber, IsDecimal}
use Rattle.sdf_values.specs.Scales.{IsTime}
use Rattle.sdf_values.specs.Conforms.{is_element, holds_step}
use Rattle.sdf_values.specs.Print.{decimal_text, num_text, time_text, quoted, asset_text}
use Rattle.sdf_values.specs.declared.decimal.Num.{Num}
use Rattle.sdf_values.specs.declared.decimal.Num.TheVariants as num
use Rattle.sdf_values.specs.declared.type_name.ElementType.{ElementType}
use Rattle.sdf_values.specs.declared.type_name.ElementType.TheVariants as element
use Rattle.sdf_values.specs.declared.type_name.TypeName.{TypeName}
use Rattle.sdf_values.specs.declared.value.Value.{Value}
use Rattle.sdf_values.specs.declared.value.Value.TheOpen.{Value-F}
use Rattle.sdf_values.specs.declared.value.Value.TheVariants as value
use Rattle.usda_lexer.specs.declared.token.TokenKind.{TokenKind}
use Rattle.usda_lexer.specs.declared.token.TokenKind.TheVariants as kind
use Rattle.usda_lexer.specs.Meanings.{number_of}
use Rattle.usda_values.specs.PathTexts.{is_path_text}
use Rattle.usda_values.specs.Scalars.{Taken, whole_of, is_plain, whole_or, by_value, as_written, number_value, string_value, path_value, token_value, time_of, take_element, take_real, take_timecode, take_time, take_decimal, take_whole_time}
use Rattle.usda_values.specs.Shapes.{for_metadata, take_typed, take_value}
use Rattle.usda_values.specs.declared.shape.Shape.{Shape}
use Rattle.usda_values.specs.declared.shape.Shape.TheVariants.{Untyped, Metadata, Typed, Dictionary}
use Rattle.value_texts.specs.Readable.{is_no_whole, is_none_word, reading_step}
use Rattle.value_texts.specs.Writable.{is_writable_number}
use Rattle.value_texts.proofs.NumberTokens.{printed_decimal, printed_number, decimal_number_of, inf_number, minus_inf_number, nan_number}
use Rattle.value_texts.proofs.StringTokens.{string_means}
use Rattle.value_texts.proofs.AssetTokens.{asset_means, path_means}
use Rattle.value_texts.proofs.PrintedNumbers.{whole_decimal, time_kept}
use Rattle.value_texts.proofs.TokenCuts.{good_decimal}

-- a token's value, as it is taken
abbrev taken_at : Shape → Bool → Taken → Taken
taken_at shape s (Ok v) = take_value shape s v
taken_at shape s (Err k) = Err k

-- the token is this value where this is expected
abbrev pub Gives : TokenKind → List ℕ → Shape → Bool → Value → Type 0
Gives k text shape s v = (x : Value) × (token_value k text ≡ Ok x) × (take_value shape s x ≡ Ok v)

-- a number that is no whole one stays a number by its value
stays : (x : Num) → is_no_whole x ≡ true → by_value x ≡ value.Number x
stays (num.Finite d) h = kept (whole_of d) h
  where
    kept : (o : Option ℤ) → is_none o ≡ true → whole_or (num.Finite d) o ≡ value.Number (num.Finite d)
    kept None e = refl
    kept (Some n) e = absurd cc
stays num.Inf h = refl
stays num.NegInf h = refl
stays num.Nan h = refl

-- the number of a printed number
pub number_read : (x : Num) → is_writable_number x ≡ true → number_of (num_text x) ≡ Some x
number_read (num.Finite d) w = let is = good_decimal d w in decimal_number_of (decimal_text d) d (printed_number d is) (printed_decimal d is)
number_read num.Inf w = inf_number
number_read num.NegInf w = minus_inf_number
number_read num.Nan w = nan_number

pub number_token : (t : List ℕ) (x : Num) → number_of t ≡ Some x → token_value kind.Number t ≡ Ok (as_written (is_plain t) x)
unfolding token_value
number_token t x h = ap (number_value t) h

-- a number where a type of numbers is expected
real_back : (d : DecimalNumber) → IsDecimal d → take_real (by_value (num.Finite d)) ≡ Ok (value.Number (num.Finite d))
real_back d is = cases (whole_of d) refl
  where
    cases : (o : Option ℤ) → whole_of d ≡ o → take_real (whole_or (num.Finite d) o) ≡ Ok (value.Number (num.Finite d))
    cases None e = refl
    cases (Some n) e = ap take_decimal (whole_decimal d n is e).1

real_taken : (b : Bool) (x : Num) → is_writable_number x ≡ true → take_real (as_written b x) ≡ Ok (value.Number x)
real_taken false x w = refl
real_taken true (num.Finite d) w = real_back d (good_decimal d w)
real_taken true num.Inf w = refl
real_taken true num.NegInf w = refl
real_taken true num.Nan w = refl

-- only a type of numbers has numbers
of_real : (F : ElementType → Type 0) (x : Num) → ((p : Precision) → F (element.Real p)) → (e : ElementType) → is_element (Value-F.Number x) e ≡ true → F e
of_real F x f (element.Real p) h = f p
of_real F x f _ h = absurd cc

pub typed_part : (s b : Bool) → ((s && false) || b) ≡ true → b ≡ true
typed_part true b h = h
typed_part false b h = h

pub no_array : (a b : Bool) → (not a && b) ≡ true → (a ≡ false) × (b ≡ true)
no_array true b h = absurd cc
no_array false b h = (refl, h)

-- a value of one token that is no block, where a type is expected
abbrev pub IsTakenAs : TypeName → Value → Type 0
IsTakenAs t x = (s : Bool) → take_typed s t x ≡ (if t.array then Err ValueShape else take_element t.element x)

written_by : (P : Value → Type 0) → ((x : Num) → P (value.Number x)) → ((n : ℤ) → P (value.Whole n)) → (b : Bool) (x : Num) → P (as_written b x)
written_by P f g false x = f x
written_by P f g true (num.Finite d) = by_whole (whole_of d)
  where
    by_whole : (o : Option ℤ) → P (whole_or (num.Finite d) o)
    by_whole None = f (num.Finite d)
    by_whole (Some n) = g n
written_by P f g true num.Inf = f num.Inf
written_by P f g true num.NegInf = f num.NegInf
written_by P f g true num.Nan = f num.Nan

pub number_taken : (t : TypeName) (b : Bool) (x : Num) → IsTakenAs t (as_written b x)
number_taken t = written_by (IsTakenAs t) (λ x s. refl) (λ n s. refl)

-- a type that is no array takes what its element takes
pub by_element : (s : Bool) (t : TypeName) (x v : Value) → IsTakenAs t x → t.array ≡ false → take_element t.element x ≡ Ok v → take_value (Typed t) s x ≡ Ok v
by_element s t x v is plain e = is s ∙ ap (λ b. if b then Err ValueShape else take_element t.element x) plain ∙ e

-- numbers
still_number : (b : Bool) (x : Num) → (not b || is_no_whole x) ≡ true → as_written b x ≡ value.Number x
still_number true x h = stays x h
still_number false x h = refl

no_whole_number : (b : Bool) (x : Num) → is_no_whole x ≡ true → as_written b x ≡ value.Number x
no_whole_number true x h = stays x h
no_whole_number false x h = refl

pub number_gives : (x : Num) → is_writable_number x ≡ true → (shape : Shape) (s : Bool) → reading_step (Value-F.Number x) shape s ≡ true → Gives kind.Number (num_text x) shape s (value.Number x)
number_gives x w Untyped s h = (as_written (is_plain (num_text x)) x, number_token (num_text x) x (number_read x w), ap Ok (still_number (is_plain (num_text x)) x h))
number_gives x w Metadata s h =
    (as_written (is_plain (num_text x)) x, number_token (num_text x) x (number_read x w), ap (λ v. Ok (for_metadata v)) (no_whole_number (is_plain (num_text x)) x h) ∙ ap Ok (stays x h))
number_gives x w (Typed t) s h =
    let p = no_array t.array (is_element (Value-F.Number x) t.element) (typed_part s (holds_step (Value-F.Number x) t) h) in
    let v : Value = as_written (is_plain (num_text x)) x in (
      v,
      number_token (num_text x) x (number_read x w),
      by_element s t v (value.Number x) (number_taken t (is_plain (num_text x)) x) p.0
          (of_real (λ e. take_element e v ≡ Ok (value.Number x)) x (λ p. real_taken (is_plain (num_text x)) x w) t.element p.1),
    )
number_gives x w Dictionary s h = absurd cc

-- times
timed_token : (t : ℤ) → IsTime t → (d : DecimalNumber) × IsDecimal d × (time_of d ≡ Some t) × (number_of (time_text t) ≡ Some (num.Finite d))
timed_token t within =
    let p = time_kept t within in
    let is : IsDecimal p.0 = p.1.good in
    (p.0, is, p.1.back, ap number_of p.1.text ∙ decimal_number_of (decimal_text p.0) p.0 (printed_number p.0 is) (printed_decimal p.0 is))

pub timed_read : (t : ℤ) → nat_le (unsigned_abs t) (10 ^ 30) ≡ true → (d : DecimalNumber) × IsDecimal d × (time_of d ≡ Some t) × (number_of (time_text t) ≡ Some (num.Finite d))
timed_read t w = timed_token t (let within : IsTime t = grind (arith, nat_tests) in within)

time_taken : (b : Bool) (d : DecimalNumber) (t : ℤ) → IsDecimal d → time_of d ≡ Some t → take_timecode (as_written b (num.Finite d)) ≡ Ok (value.Time t)
time_taken false d t is e = ap take_time e
time_taken true d t is e = cases (whole_of d) refl
  where
    cases : (o : Option ℤ) → whole_of d ≡ o → take_timecode (whole_or (num.Finite d) o) ≡ Ok (value.Time t)
    cases None f = ap take_time e
    cases (Some n) f = ap take_whole_time (whole_decimal d n is f).1 ∙ ap take_time e

of_timecode : (F : ElementType → Type 0) (x : ℤ) → F element.Timecode → (e : ElementType) → is_element (Value-F.Time x) e ≡ true → F e
of_timecode F x f element.Timecode h = f
of_timecode F x f _ h = absurd cc

pub time_gives : (t : ℤ) → nat_le (unsigned_abs t) (10 ^ 30) ≡ true → (shape : Shape) (s : Bool) → reading_step (Value-F.Time t) shape s ≡ true → Gives kind.Number (time_text t) shape s (value.Time t)
time_gives t w Untyped s h = absurd cc
time_gives t w Metadata s h = absurd cc
time_gives t w (Typed ty) s h =
    let within : IsTime t = grind (arith, nat_tests) in
    let k = timed_token t within in
    let p = no_array ty.array (is_element (Value-F.Time t) ty.element) (typed_part s (holds_step (Value-F.Time t) ty) h) in
    let v : Value = as_written (is_plain (time_text t)) (num.Finite k.0) in (
      v,
      number_token (time_text t) (num.Finite k.0) k.3,
      by_element s ty v (value.Time t) (number_taken ty (is_plain (time_text t)) (num.Finite k.0)) p.0
          (of_timecode (λ e. take_element e v ≡ Ok (value.Time t)) t (time_taken (is_plain (time_text t)) k.0 t k.1 k.2) ty.element p.1),
    )
time_gives t w Dictionary s h = absurd cc

-- strings
string_token : (t : List ℕ) → is_utf8 t ≡ true → token_value kind.String (quoted t) ≡ Ok (value.Text t)
unfolding token_value
string_token t u = ap string_value (string_means t u)

of_text : (F : ElementType → Type 0) (x : List ℕ) → F element.String → F element.Token → (e : ElementType) → is_element (Value-F.Text x) e ≡ true → F e
of_text F x f g element.String h = f
of_text F x f g element.Token h = g
of_text F x f g _ h = absurd cc

pub text_gives : (t : List ℕ) → is_utf8 t ≡ true → (shape : Shape) (s : Bool) → reading_step (Value-F.Text t) shape s ≡ true → Gives kind.String (quoted t) shape s (value.Text t)
text_gives t u Untyped s h = (value.Text t, string_token t u, refl)
text_gives t u Metadata s h = (value.Text t, string_token t u, refl)
text_gives t u (Typed ty) s h =
    let p = no_array ty.array (is_element (Value-F.Text t) ty.element) (typed_part s (holds_step (Value-F.Text t) ty) h) in
    (value.Text t, string_token t u, by_element s ty (value.Text t) (value.Text t) (λ s. refl) p.0 (of_text (λ e. take_element e (value.Text t) ≡ Ok (value.Text t)) t refl refl ty.element p.1))
text_gives t u Dictionary s h = absurd cc

-- assets
asset_token : (t : List ℕ) → token_value kind.Asset (asset_text t) ≡ Ok (value.Asset t)
unfolding token_value
asset_token t = ap (λ x. Ok (value.Asset x)) (asset_means t)

of_asset : (F : ElementType → Type 0) (x : List ℕ) → F element.Asset → (e : ElementType) → is_element (Value-F.Asset x) e ≡ true → F e
of_asset F x f element.Asset h = f
of_asset F x f _ h = absurd cc

pub asset_gives : (t : List ℕ) (shape : Shape) (s : Bool) → reading_step (Value-F.Asset t) shape s ≡ true → Gives kind.Asset (asset_text t) shape s (value.Asset t)
asset_gives t Untyped s h = (value.Asset t, asset_token t, refl)
asset_gives t Metadata s h = (value.Asset t, asset_token t, refl)
asset_gives t (Typed ty) s h =
    let p = no_array ty.array (is_element (Value-F.Asset t) ty.element) (typed_part s (holds_step (Value-F.Asset t) ty) h) in
    (value.Asset t, asset_token t, by_element s ty (value.Asset t) (value.Asset t) (λ s. refl) p.0 (of_asset (λ e. take_element e (value.Asset t) ≡ Ok (value.Asset t)) t refl ty.element p.1))
asset_gives t Dictionary s h = absurd cc

-- paths
path_token : (t : List ℕ) → is_path_text t ≡ true → token_value kind.Path (codes "<" ++ t ++ codes ">") ≡ Ok (value.PathText t)
unfolding token_value
path_token t h = ap path_value (path_means t) ∙ ap (λ b. if b then Ok (value.PathText t) else Err Syntax) h

no_path : (x : List ℕ) (e : ElementType) → is_element (Value-F.PathText x) e ≡ true → ⊥
no_path x _ h = cc

pub path_gives : (t : List ℕ) (shape : Shape) (s : Bool) → reading_step (Value-F.PathText t) shape s ≡ true → Gives kind.Path (codes "<" ++ t ++ codes ">") shape s (value.PathText t)
path_gives t Untyped s h = (value.PathText t, path_token t h, refl)
path_gives t Metadata s h = (value.PathText t, path_token t h, refl)
path_gives t (Typed ty) s h =
    let p = no_array ty.array (is_element (Value-F.PathText t) ty.element) (typed_part s (holds_step (Value-F.PathText t) ty) h) in
    absurd (no_path t ty.element p.1)
path_gives t Dictionary s h = absurd cc

-- words
word_token : (t : List ℕ) → is_none_word t ≡ false → token_value kind.Name t ≡ Ok (value.Word t)
unfolding token_value
word_token t h = ap (λ b. Ok (if b then value.Block else value.Word t)) h

no_word : (x : List ℕ) (e : ElementType) → is_element (Value-F.Word x) e ≡ true → ⊥
no_word x _ h = cc

pub word_gives : (t : List ℕ) (shape : Shape) (s : Bool) → reading_step (Value-F.Word t) shape s ≡ true → Gives kind.Name t shape s (value.Word t)
word_gives t Untyped s h = (value.Word t, word_token t (not-true (is_none_word t) h), refl)
word_gives t Metadata s h = (value.Word t, word_token t (not-true (is_none_word t) h), refl)
word_gives t (Typed ty) s h =
    let p = no_array ty.array (is_element (Value-F.Word t) ty.element) (typed_part s (holds_step (Value-F.Word t) ty) h) in
    absurd (no_word t ty.element p.1)
word_gives t Dictionary s h = absurd cc

-- truth values
of_bool : (F : ElementType → Type 0) (x : Bool) → F element.Bool → (e : ElementType) → is_element (Value-F.Bool x) e ≡ true → F e
of_bool F x f element.Bool h = f
of_bool F x f _ h = absurd cc

abbrev pub bool_text : Bool → List ℕ
bool_text b = if b then codes "true" else codes "false"

bool_token : (b : Bool) → token_value kind.Name (bool_text b) ≡ Ok (value.Word (bool_text b))
unfolding token_value
bool_token true = refl
bool_token false = refl

bool_taken : (b : Bool) → take_element element.Bool (value.Word (bool_text b)) ≡ Ok (value.Bool b)
bool_taken true = refl
bool_taken false = refl

pub bool_gives : (b : Bool) (shape : Shape) (s : Bool) → reading_step (Value-F.Bool b) shape s ≡ true → Gives kind.Name (bool_text b) shape s (value.Bool b)
bool_gives b Untyped s h = absurd cc
bool_gives b Metadata s h = absurd cc
bool_gives b (Typed ty) s h =
    let p = no_array ty.array (is_element (Value-F.Bool b) ty.element) (typed_part s (holds_step (Value-F.Bool b) ty) h) in
    (value.Word (bool_text b), bool_token b, by_element s ty (value.Word (bool_text b)) (value.Bool b) (λ s. refl) p.0 (of_bool (λ e. take_element e (value.Word (bool_text b)) ≡ Ok (value.Bool b)) b (bool_taken b) ty.element p.1))
bool_gives b Dictionary s h = absurd cc

-- the block
block_token : token_value kind.Name (codes "None") ≡ Ok value.Block
unfolding token_value
block_token = refl

pub block_gives : (shape : Shape) (s : Bool) → reading_step Value-F.Block shape s ≡ true → Gives kind.Name (codes "None") shape s value.Block
block_gives Untyped s h = (value.Block, block_token, refl)
block_gives Metadata s h = (value.Block, block_token, refl)
block_gives (Typed ty) true h = (value.Block, block_token, refl)
block_gives (Typed ty) false h = absurd cc
block_gives Dictionary s h = absurd cc

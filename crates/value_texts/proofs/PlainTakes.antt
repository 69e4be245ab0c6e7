-- No value of one token is refused for syntax, but a path that is none.
use Rattle.std.proofs.Common.{◌≡◌, ℕ, ◌==◌, Bool, true, false, List, Option, Some, None, Ok, Err, refl}
use Rattle.std.specs.Prelude.{if◌then◌else◌, ℤ, pos, negsuc, codes}
use Rattle.std.specs.Cmp.Lexicographic.{pointwise}
use Rattle.sdf_values.specs.Conforms.{whole_bounds, is_between}
use Rattle.sdf_values.specs.Numbers.{DecimalNumber}
use Rattle.sdf_values.specs.declared.decimal.Num.{Num}
use Rattle.sdf_values.specs.declared.decimal.Num.TheVariants as num
use Rattle.sdf_values.specs.declared.refusal.RefusalKind.TheVariants.{Syntax, ValueShape, NumberTooLong, TimeRange}
use Rattle.sdf_values.specs.declared.type_name.ElementType.{ElementType}
use Rattle.sdf_values.specs.declared.type_name.ElementType.TheVariants as element
use Rattle.sdf_values.specs.declared.type_name.TypeName.{TypeName}
use Rattle.sdf_values.specs.declared.value.Value.{Value}
use Rattle.sdf_values.specs.declared.value.Value.TheVariants as value
use Rattle.usda_lexer.specs.Meanings.{string_text, path_text, number_of}
use Rattle.usda_lexer.specs.declared.token.TokenKind.{TokenKind}
use Rattle.usda_lexer.specs.declared.token.TokenKind.TheVariants as form
use Rattle.usda_values.specs.PathTexts.{is_path_text}
use Rattle.usda_values.specs.Scalars.{Taken, token_value, number_value, string_value, take_element, take_bool, take_bool_word, take_bit, take_real, take_decimal, take_timecode, take_number_time, take_time, take_whole_time, take_text, take_asset, take_whole_value, time_of, decimal_of_whole}
use Rattle.usda_values.specs.Shapes.{take_value, take_typed}
use Rattle.usda_values.specs.declared.shape.Shape.{Shape}
use Rattle.usda_values.specs.declared.shape.Shape.TheVariants as shape
use Rattle.value_texts.specs.Following.{IsNoPath}

-- ---- values of one token: none is refused for syntax but a path

abbrev pub Plain : Taken → Type 0
Plain (Ok v) = Unit {0}
Plain (Err k) = k ≡ Syntax → ⊥

no_shape : Plain (Err ValueShape)
no_shape e = absurd cc

no_time : Plain (Err TimeRange)
no_time e = absurd cc

no_number : Plain (Err NumberTooLong)
no_number e = absurd cc

plain_if : (b : Bool) (x y : Taken) → Plain x → Plain y → Plain (if b then x else y)
plain_if true x y p q = p
plain_if false x y p q = q

plain_decimal : (d : Option DecimalNumber) → Plain (take_decimal d)
plain_decimal (Some d) = tt
plain_decimal None = no_number

plain_time : (t : Option ℤ) → Plain (take_time t)
plain_time (Some t) = tt
plain_time None = no_time

plain_whole_time : (d : Option DecimalNumber) → Plain (take_whole_time d)
plain_whole_time (Some d) = plain_time (time_of d)
plain_whole_time None = no_time

plain_number_time : (x : Num) → Plain (take_number_time x)
plain_number_time (num.Finite d) = plain_time (time_of d)
plain_number_time _ = no_time

plain_bit : (n : ℤ) → Plain (take_bit n)
plain_bit (pos n) = plain_if (n == 0) (Ok (value.Bool false)) (if n == 1 then Ok (value.Bool true) else Err ValueShape) tt (plain_if (n == 1) (Ok (value.Bool true)) (Err ValueShape) tt no_shape)
plain_bit (negsuc n) = no_shape

plain_bool_word : (t : List ℕ) → Plain (take_bool_word t)
plain_bool_word t =
    plain_if (pointwise ◌==◌ t (codes "true")) (Ok (value.Bool true)) (if pointwise ◌==◌ t (codes "false") then Ok (value.Bool false) else Err ValueShape) tt
    (plain_if (pointwise ◌==◌ t (codes "false")) (Ok (value.Bool false)) (Err ValueShape) tt no_shape)

plain_bool : (v : Value) → Plain (take_bool v)
plain_bool (value.Bool b) = tt
plain_bool (value.Word t) = plain_bool_word t
plain_bool (value.Whole n) = plain_bit n
plain_bool _ = no_shape

plain_real : (v : Value) → Plain (take_real v)
plain_real (value.Number x) = tt
plain_real (value.Whole n) = plain_decimal (decimal_of_whole n)
plain_real _ = no_shape

plain_timecode : (v : Value) → Plain (take_timecode v)
plain_timecode (value.Time t) = tt
plain_timecode (value.Number x) = plain_number_time x
plain_timecode (value.Whole n) = plain_whole_time (decimal_of_whole n)
plain_timecode _ = no_shape

plain_text : (v : Value) → Plain (take_text v)
plain_text (value.Text s) = tt
plain_text _ = no_shape

plain_asset : (v : Value) → Plain (take_asset v)
plain_asset (value.Asset s) = tt
plain_asset _ = no_shape

plain_whole : (e : ElementType) (v : Value) → Plain (take_whole_value e v)
plain_whole e (value.Whole n) = plain_if (is_between (whole_bounds e) n) (Ok (value.Whole n)) (Err ValueShape) tt no_shape
plain_whole e _ = no_shape

plain_element : (e : ElementType) (v : Value) → Plain (take_element e v)
plain_element element.Bool v = plain_bool v
plain_element (element.Real p) v = plain_real v
plain_element element.Timecode v = plain_timecode v
plain_element element.String v = plain_text v
plain_element element.Token v = plain_text v
plain_element element.Asset v = plain_asset v
plain_element e v = plain_whole e v

plain_typed : (b : Bool) (t : TypeName) (v : Value) → Plain (take_typed b t v)
plain_typed b t value.Block = plain_if b (Ok value.Block) (Err ValueShape) tt no_shape
plain_typed b t v = plain_if t.array (Err ValueShape) (take_element t.element v) no_shape (plain_element t.element v)

pub plain_value : (s : Shape) (b : Bool) (v : Value) → Plain (take_value s b v)
plain_value shape.Untyped b v = tt
plain_value shape.Metadata b v = tt
plain_value (shape.Typed t) b v = plain_typed b t v
plain_value shape.Dictionary b v = no_shape

-- what a token is as a value
abbrev pub Said : TokenKind → List ℕ → Taken → Type 0
Said f text (Ok v) = Unit {0}
Said f text (Err k) = k ≡ Syntax → IsNoPath f text

said_number : (f : TokenKind) (text t : List ℕ) (x : Option Num) → Said f text (number_value t x)
said_number f text t (Some x) = tt
said_number f text t None = λ e. absurd cc

said_string : (f : TokenKind) (text : List ℕ) (x : Option (List ℕ)) → Said f text (string_value x)
said_string f text (Some x) = tt
said_string f text None = λ e. absurd cc

said_path : (text : List ℕ) (b : Bool) → is_path_text (path_text text) ≡ b → Said form.Path text (if b then Ok (value.PathText (path_text text)) else Err Syntax)
said_path text true h = tt
said_path text false h = λ e. (refl, h)

-- a token that is no mark
abbrev pub is_said : TokenKind → Bool
is_said (form.Mark m) = false
is_said f = true

pub said : (f : TokenKind) (text : List ℕ) → is_said f ≡ true → Said f text (token_value f text)
unfolding token_value
said form.Name text h = tt
said form.Number text h = said_number form.Number text text (number_of text)
said form.String text h = said_string form.String text (string_text text)
said form.Asset text h = tt
said form.Path text h = said_path text (is_path_text (path_text text)) refl
said (form.Mark m) text h = absurd cc

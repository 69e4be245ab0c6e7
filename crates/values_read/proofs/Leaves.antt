-- Values of one token: what a sound token gives, as it is taken where something is expected, is sound.
use Rattle.std.proofs.Common.{◌≡◌, ◌∙◌, ℕ, ◌≤◌, ◌^◌, ◌||◌, ◌==◌, not, nat_le, Bool, true, false, List, Option, Some, None, Ok, Err, ap, sym, refl, subst, arith}
use Rattle.std.specs.Prelude.{if◌then◌else◌, codes, ℤ, unsigned_abs}
use Rattle.std.specs.Option.{is_some, is_none, option_map}
use Rattle.std.specs.Str.{is_utf8}
use Rattle.std.specs.Cmp.Lexicographic.{pointwise}
use Rattle.std.proofs.lemmas.Bool.{and_parts, and_from}
use Rattle.sdf_values.specs.Conforms.{holds, holds_step, item_step}
use Rattle.sdf_values.specs.Numbers.{DecimalNumber, IsDecimal}
use Rattle.sdf_values.specs.declared.decimal.Num.{Num}
use Rattle.sdf_values.specs.declared.decimal.Num.TheVariants as num
use Rattle.sdf_values.specs.declared.refusal.RefusalKind.TheVariants.{Syntax, ValueShape}
use Rattle.sdf_values.specs.declared.type_name.TypeName.{TypeName}
use Rattle.sdf_values.specs.declared.value.Value.{Value}
use Rattle.sdf_values.specs.declared.value.Value.TheOpen.{Value-F}
use Rattle.sdf_values.specs.declared.value.Value.TheVariants as value
use Rattle.usd_names.specs.Names.{is_name}
use Rattle.usda_lexer.specs.Decimals.{decimal_of}
use Rattle.usda_lexer.specs.Meanings.{string_text, string_bytes_of, asset_text, path_text, number_of}
use Rattle.usda_lexer.specs.declared.token.TokenKind.{TokenKind}
use Rattle.usda_lexer.specs.declared.token.TokenKind.TheVariants as kind
use Rattle.usda_lexer.proofs.DecimalLaw.{decimal_law}
use Rattle.usda_values.specs.PathTexts.{is_path_text}
use Rattle.usda_values.specs.Scalars.{whole_of, is_plain, in_128_bits, decimal_of_whole, whole_or, by_value, as_written, number_value, string_value, word_value, take_element, token_value}
use Rattle.usda_values.specs.Shapes.{for_metadata, take_typed, take_value}
use Rattle.usda_values.specs.declared.shape.Shape.{Shape}
use Rattle.usda_values.specs.declared.shape.Shape.TheVariants.{Untyped, Metadata, Typed, Dictionary}
use Rattle.value_texts.specs.Readable.{is_read_as, is_none_word, depth, depth_step, depth_item}
use Rattle.value_texts.specs.Writable.{is_writable, writable_step, writable_item, is_writable_number, is_writable_whole, is_writable_asset, is_decimal}
use Rattle.sdf_values.proofs.Values as fold
use Rattle.value_texts.proofs.ReadingSteps.{reads_bool, reads_whole, reads_number, reads_time, reads_text, reads_asset, reads_path, reads_word, reads_block}
use Rattle.value_texts.proofs.TokenCuts.{good_decimal}
use Rattle.value_texts.proofs.DecimalTests.{decimal_good}
use Rattle.value_texts.proofs.PrintedNumbers.{whole_decimal}
use Rattle.value_texts.proofs.PathsWritable.{path_writable}
use Rattle.value_shapes.specs.Held.{is_held, held_step, held_item, is_held_number}
use Rattle.value_shapes.specs.Meanings.{SameMeaning, itself, whole_as_number, whole_as_time, number_as_time, number_as_truth, word_as_truth, tuple, array}
use Rattle.value_shapes.proofs.Forms.{form_is, form_found}
use Rattle.value_shapes.proofs.Taken.{leaf_cases}
use Rattle.text_checks.specs.Utf8.{is_utf8_value, utf8_step, utf8_item}
use Rattle.value_returns.specs.FullPaths.{has_full_paths, full_step, full_item, is_full_path}
use Rattle.values_read.specs.Tokens.{is_sound_token}
use Rattle.values_read.specs.Sound.{is_kept_as, IsSound}
use Rattle.values_read.proofs.Closed.{no_block}

abbrev Test : Type 0
Test = TypeName → Bool

-- ---- what a token says

-- a value of one token, before what is expected of it is asked
pub data IsLeaf : Value → Type 0 where
  whole : (n : ℤ) (d : DecimalNumber) → IsDecimal d → whole_of d ≡ Some n → IsLeaf (value.Whole n)
  number : (x : Num) → is_writable_number x ≡ true → IsLeaf (value.Number x)
  text : (t : List ℕ) → is_utf8 t ≡ true → IsLeaf (value.Text t)
  asset : (t : List ℕ) → is_utf8 t ≡ true → is_writable_asset t ≡ true → IsLeaf (value.Asset t)
  path : (t : List ℕ) → is_utf8 t ≡ true → is_path_text t ≡ true → is_full_path t ≡ true → IsLeaf (value.PathText t)
  word : (t : List ℕ) → is_utf8 t ≡ true → is_name t ≡ true → is_none_word t ≡ false → IsLeaf (value.Word t)
  block : IsLeaf value.Block

number_writable : (t : List ℕ) (x : Num) → number_of t ≡ Some x → is_writable_number x ≡ true
unfolding number_of
number_writable t x h = cases (pointwise ◌==◌ t (codes "inf")) (pointwise ◌==◌ t (codes "-inf")) (pointwise ◌==◌ t (codes "nan") || pointwise ◌==◌ t (codes "-nan")) h
  where
    finite : (o : Option DecimalNumber) → decimal_of t ≡ o → option_map num.Finite o ≡ Some x → is_writable_number x ≡ true
    finite None e g = absurd cc
    finite (Some d) e g = (let same : num.Finite d ≡ x = cc g in subst (λ y. is_writable_number y ≡ true) same (decimal_good d ((decimal_law t d).0 e).0))

    cases : (a b c : Bool) → (if a then Some num.Inf else if b then Some num.NegInf else if c then Some num.Nan else option_map num.Finite (decimal_of t)) ≡ Some x → is_writable_number x ≡ true
    cases true b c g = (let same : num.Inf ≡ x = cc g in subst (λ y. is_writable_number y ≡ true) same refl)
    cases false true c g = (let same : num.NegInf ≡ x = cc g in subst (λ y. is_writable_number y ≡ true) same refl)
    cases false false true g = (let same : num.Nan ≡ x = cc g in subst (λ y. is_writable_number y ≡ true) same refl)
    cases false false false g = finite (decimal_of t) refl g

by_value_leaf : (x : Num) → is_writable_number x ≡ true → IsLeaf (by_value x)
by_value_leaf (num.Finite d) w = cases (whole_of d) refl
  where
    cases : (o : Option ℤ) → whole_of d ≡ o → IsLeaf (whole_or (num.Finite d) o)
    cases None e = number (num.Finite d) w
    cases (Some n) e = whole n d (good_decimal d w) e
by_value_leaf num.Inf w = number num.Inf w
by_value_leaf num.NegInf w = number num.NegInf w
by_value_leaf num.Nan w = number num.Nan w

number_leaf : (b : Bool) (x : Num) → is_writable_number x ≡ true → IsLeaf (as_written b x)
number_leaf true x w = by_value_leaf x w
number_leaf false x w = number x w

pub string_utf8 : (token t : List ℕ) → string_text token ≡ Some t → is_utf8 t ≡ true
unfolding string_text
string_utf8 token t h = test (is_utf8 (string_bytes_of token)) refl h
  where
    test : (b : Bool) → is_utf8 (string_bytes_of token) ≡ b → (if b then Some (string_bytes_of token) else None) ≡ Some t → is_utf8 t ≡ true
    test true e g = (let same : string_bytes_of token ≡ t = cc g in subst (λ y. is_utf8 y ≡ true) same e)
    test false e g = absurd cc

pub token_leaf : (k : TokenKind) (t : List ℕ) (x : Value) → is_sound_token k t ≡ true → token_value k t ≡ Ok x → IsLeaf x
unfolding token_value
token_leaf kind.Number t x s h = cases (number_of t) refl h
  where
    cases : (o : Option Num) → number_of t ≡ o → number_value t o ≡ Ok x → IsLeaf x
    cases None e g = absurd cc
    cases (Some y) e g = (let same : as_written (is_plain t) y ≡ x = cc g in subst IsLeaf same (number_leaf (is_plain t) y (number_writable t y e)))
token_leaf kind.String t x s h = cases (string_text t) refl h
  where
    cases : (o : Option (List ℕ)) → string_text t ≡ o → string_value o ≡ Ok x → IsLeaf x
    cases None e g = absurd cc
    cases (Some y) e g = (let same : value.Text y ≡ x = cc g in subst IsLeaf same (text y (string_utf8 t y e)))
token_leaf kind.Asset t x s h =
    let p = and_parts (is_utf8 (asset_text t)) (is_writable_asset (asset_text t)) s in
    let same : value.Asset (asset_text t) ≡ x = cc h in
    subst IsLeaf same (asset (asset_text t) p.0 p.1)
token_leaf kind.Path t x s h = test (is_path_text (path_text t)) refl h
  where
    test : (b : Bool) → is_path_text (path_text t) ≡ b → (if b then Ok (value.PathText (path_text t)) else Err Syntax) ≡ Ok x → IsLeaf x
    test true e g =
        let p = and_parts (is_utf8 (path_text t)) (is_full_path (path_text t)) s in
        let same : value.PathText (path_text t) ≡ x = cc g in
        subst IsLeaf same (path (path_text t) p.0 e p.1)
    test false e g = absurd cc
token_leaf kind.Name t x s h = (let said : word_value t ≡ x = cc h in test (is_none_word t) refl said)
  where
    test : (b : Bool) → is_none_word t ≡ b → (if b then value.Block else value.Word t) ≡ x → IsLeaf x
    test true e same = subst IsLeaf same block
    test false e same = let p = and_parts (is_utf8 t) (is_name t) s in subst IsLeaf same (word t p.0 p.1 e)
token_leaf (kind.Mark m) t x s h = absurd cc

-- ---- what holds of it

-- a value that can be written, without levels
pub record IsFlat (v : Value) : Type 0 where
  pub writable : is_writable v ≡ true
  pub utf8 : is_utf8_value v ≡ true
  pub full : has_full_paths v ≡ true
  pub flat : depth v ≡ 0

whole_writable : (n : ℤ) (d : DecimalNumber) → IsDecimal d → whole_of d ≡ Some n → is_writable_whole n ≡ true
whole_writable n d good e = (let w = whole_decimal d n good e in and_from (is_some (in_128_bits n)) (is_some (decimal_of_whole n)) (ap is_some w.0) (ap is_some w.1))

bool_flat : (b : Bool) → IsFlat (value.Bool b)
bool_flat b = record {
  writable = fold.of_bool Bool Bool writable_step writable_item b;
  utf8 = fold.of_bool Bool Bool utf8_step utf8_item b;
  full = fold.of_bool Bool Bool full_step full_item b;
  flat = fold.of_bool ℕ ℕ depth_step depth_item b;
}

whole_flat : (n : ℤ) → is_writable_whole n ≡ true → IsFlat (value.Whole n)
whole_flat n w = record {
  writable = fold.of_whole Bool Bool writable_step writable_item n ∙ w;
  utf8 = fold.of_whole Bool Bool utf8_step utf8_item n;
  full = fold.of_whole Bool Bool full_step full_item n;
  flat = fold.of_whole ℕ ℕ depth_step depth_item n;
}

number_flat : (x : Num) → is_writable_number x ≡ true → IsFlat (value.Number x)
number_flat x w = record {
  writable = fold.of_number Bool Bool writable_step writable_item x ∙ w;
  utf8 = fold.of_number Bool Bool utf8_step utf8_item x;
  full = fold.of_number Bool Bool full_step full_item x;
  flat = fold.of_number ℕ ℕ depth_step depth_item x;
}

time_flat : (t : ℤ) → nat_le (unsigned_abs t) (10 ^ 30) ≡ true → IsFlat (value.Time t)
time_flat t w = record {
  writable = fold.of_time Bool Bool writable_step writable_item t ∙ w;
  utf8 = fold.of_time Bool Bool utf8_step utf8_item t;
  full = fold.of_time Bool Bool full_step full_item t;
  flat = fold.of_time ℕ ℕ depth_step depth_item t;
}

pub leaf_flat : (x : Value) → IsLeaf x → IsFlat x
leaf_flat _ (whole n d good e) = whole_flat n (whole_writable n d good e)
leaf_flat _ (number x w) = number_flat x w
leaf_flat _ (text t u) = record {
  writable = fold.of_text Bool Bool writable_step writable_item t ∙ u;
  utf8 = fold.of_text Bool Bool utf8_step utf8_item t;
  full = fold.of_text Bool Bool full_step full_item t;
  flat = fold.of_text ℕ ℕ depth_step depth_item t;
}
leaf_flat _ (asset t u w) = record {
  writable = fold.of_asset Bool Bool writable_step writable_item t ∙ w;
  utf8 = fold.of_asset Bool Bool utf8_step utf8_item t ∙ u;
  full = fold.of_asset Bool Bool full_step full_item t;
  flat = fold.of_asset ℕ ℕ depth_step depth_item t;
}
leaf_flat _ (path t u is f) = record {
  writable = fold.of_path Bool Bool writable_step writable_item t ∙ path_writable t u is;
  utf8 = fold.of_path Bool Bool utf8_step utf8_item t ∙ u;
  full = fold.of_path Bool Bool full_step full_item t ∙ f;
  flat = fold.of_path ℕ ℕ depth_step depth_item t;
}
leaf_flat _ (word t u w none) = record {
  writable = fold.of_word Bool Bool writable_step writable_item t ∙ and_from (is_utf8 t) (is_name t) u w;
  utf8 = fold.of_word Bool Bool utf8_step utf8_item t;
  full = fold.of_word Bool Bool full_step full_item t;
  flat = fold.of_word ℕ ℕ depth_step depth_item t;
}
leaf_flat _ block = record {
  writable = fold.of_block Bool Bool writable_step writable_item;
  utf8 = fold.of_block Bool Bool utf8_step utf8_item;
  full = fold.of_block Bool Bool full_step full_item;
  flat = fold.of_block ℕ ℕ depth_step depth_item;
}

number_held : (x : Num) → is_writable_number x ≡ true → is_held_number x ≡ true
number_held (num.Finite d) w = form_found d (good_decimal d w)
number_held num.Inf w = refl
number_held num.NegInf w = refl
number_held num.Nan w = refl

leaf_held : (x : Value) → IsLeaf x → is_held x ≡ true
leaf_held _ (whole n d good e) = fold.of_whole Bool Bool held_step held_item n ∙ ap is_some (whole_decimal d n good e).0
leaf_held _ (number x w) = fold.of_number Bool Bool held_step held_item x ∙ number_held x w
leaf_held _ (text t u) = fold.of_text Bool Bool held_step held_item t
leaf_held _ (asset t u w) = fold.of_asset Bool Bool held_step held_item t
leaf_held _ (path t u is f) = fold.of_path Bool Bool held_step held_item t
leaf_held _ (word t u w none) = fold.of_word Bool Bool held_step held_item t
leaf_held _ block = fold.of_block Bool Bool held_step held_item

-- ---- where something is expected

-- a flat value that is read as itself there
pub record IsTaken (shape : Shape) (s : Bool) (v : Value) : Type 0 where
  pub kept : is_kept_as v shape s ≡ true
  pub flat : IsFlat v

-- in metadata
abbrev InMetadata : Value → Type 0
InMetadata v = IsLeaf v × ((s : Bool) → is_read_as v Metadata s ≡ true)

number_in_metadata : (x : Num) → is_writable_number x ≡ true → InMetadata (by_value x)
number_in_metadata (num.Finite d) w = cases (whole_of d) refl
  where
    cases : (o : Option ℤ) → whole_of d ≡ o → InMetadata (whole_or (num.Finite d) o)
    cases None e = (number (num.Finite d) w, λ s. reads_number (num.Finite d) Metadata s ∙ ap is_none e)
    cases (Some n) e = (whole n d (good_decimal d w) e, λ s. reads_whole n Metadata s)
number_in_metadata num.Inf w = (number num.Inf w, λ s. reads_number num.Inf Metadata s)
number_in_metadata num.NegInf w = (number num.NegInf w, λ s. reads_number num.NegInf Metadata s)
number_in_metadata num.Nan w = (number num.Nan w, λ s. reads_number num.Nan Metadata s)

in_metadata : (x : Value) → IsLeaf x → InMetadata (for_metadata x)
in_metadata _ (whole n d good e) = (whole n d good e, λ s. reads_whole n Metadata s)
in_metadata _ (number x w) = number_in_metadata x w
in_metadata _ (text t u) = (text t u, λ s. reads_text t Metadata s)
in_metadata _ (asset t u w) = (asset t u w, λ s. reads_asset t Metadata s)
in_metadata _ (path t u is f) = (path t u is f, λ s. reads_path t Metadata s ∙ is)
in_metadata _ (word t u w none) = (word t u w none, λ s. reads_word t Metadata s ∙ ap not none)
in_metadata _ block = (block, λ s. reads_block Metadata s)

-- where a type is expected: a value of the type that is no block
abbrev IsReadTyped : Value → Type 0
IsReadTyped v = (t : TypeName) (s : Bool) → holds v t ≡ true → is_read_as v (Typed t) s ≡ true

bool_typed : (b : Bool) → IsReadTyped (value.Bool b)
bool_typed b t s h = reads_bool b (Typed t) s ∙ no_block s (holds_step (Value-F.Bool b) t) (sym (ap (λ f. f t) (fold.of_bool Test Test holds_step item_step b)) ∙ h)

whole_typed : (n : ℤ) → IsReadTyped (value.Whole n)
whole_typed n t s h = reads_whole n (Typed t) s ∙ no_block s (holds_step (Value-F.Whole n) t) (sym (ap (λ f. f t) (fold.of_whole Test Test holds_step item_step n)) ∙ h)

number_typed : (x : Num) → IsReadTyped (value.Number x)
number_typed x t s h = reads_number x (Typed t) s ∙ no_block s (holds_step (Value-F.Number x) t) (sym (ap (λ f. f t) (fold.of_number Test Test holds_step item_step x)) ∙ h)

time_typed : (u : ℤ) → IsReadTyped (value.Time u)
time_typed u t s h = reads_time u (Typed t) s ∙ no_block s (holds_step (Value-F.Time u) t) (sym (ap (λ f. f t) (fold.of_time Test Test holds_step item_step u)) ∙ h)

text_typed : (x : List ℕ) → IsReadTyped (value.Text x)
text_typed x t s h = reads_text x (Typed t) s ∙ no_block s (holds_step (Value-F.Text x) t) (sym (ap (λ f. f t) (fold.of_text Test Test holds_step item_step x)) ∙ h)

asset_typed : (x : List ℕ) → IsReadTyped (value.Asset x)
asset_typed x t s h = reads_asset x (Typed t) s ∙ no_block s (holds_step (Value-F.Asset x) t) (sym (ap (λ f. f t) (fold.of_asset Test Test holds_step item_step x)) ∙ h)

path_typed : (x : List ℕ) → IsReadTyped (value.PathText x)
path_typed x t s h = reads_path x (Typed t) s ∙ no_block s (holds_step (Value-F.PathText x) t) (sym (ap (λ f. f t) (fold.of_path Test Test holds_step item_step x)) ∙ h)

word_typed : (x : List ℕ) → IsReadTyped (value.Word x)
word_typed x t s h = reads_word x (Typed t) s ∙ no_block s (holds_step (Value-F.Word x) t) (sym (ap (λ f. f t) (fold.of_word Test Test holds_step item_step x)) ∙ h)

taken_typed : (v : Value) (t : TypeName) (s : Bool) → IsReadTyped v → IsFlat v → holds v t ≡ true → IsTaken (Typed t) s v
taken_typed v t s reads flat h = record { kept = reads t s h; flat = flat }

-- no leaf is a tuple or an array
no_tuple : (vs : List Value) → IsLeaf (value.Tuple vs) → ⊥
no_tuple vs leaf = (let flat = (leaf_flat (value.Tuple vs) leaf).flat in let deep = fold.of_tuple ℕ ℕ depth_step depth_item vs in absurd (omega (arith, flat, deep)))

no_array : (vs : List Value) → IsLeaf (value.Array vs) → ⊥
no_array vs leaf = (let flat = (leaf_flat (value.Array vs) leaf).flat in let deep = fold.of_array ℕ ℕ depth_step depth_item vs in absurd (omega (arith, flat, deep)))

held_decimal : (d : DecimalNumber) → is_held (value.Number (num.Finite d)) ≡ true → is_decimal d ≡ true
held_decimal d h = decimal_good d (form_is d (sym (fold.of_number Bool Bool held_step held_item (num.Finite d)) ∙ h))

held_time : (u : ℤ) → is_held (value.Time u) ≡ true → nat_le (unsigned_abs u) (10 ^ 30) ≡ true
held_time u h = sym (fold.of_time Bool Bool held_step held_item u) ∙ h

-- what means the same as a leaf and is of a type is taken as one of it
carried : (x v : Value) → SameMeaning x v → IsLeaf x → IsReadTyped x → is_held v ≡ true → (t : TypeName) (s : Bool) → holds v t ≡ true → IsTaken (Typed t) s v
carried x v (itself _) leaf reads held t s h = taken_typed x t s reads (leaf_flat x leaf) h
carried x v (whole_as_number n d k) leaf reads held t s h = taken_typed (value.Number (num.Finite d)) t s (number_typed (num.Finite d)) (number_flat (num.Finite d) (held_decimal d held)) h
carried x v (whole_as_time n u k) leaf reads held t s h = taken_typed (value.Time u) t s (time_typed u) (time_flat u (held_time u held)) h
carried x v (number_as_time d u k) leaf reads held t s h = taken_typed (value.Time u) t s (time_typed u) (time_flat u (held_time u held)) h
carried x v (number_as_truth b) leaf reads held t s h = taken_typed (value.Bool b) t s (bool_typed b) (bool_flat b) h
carried x v (word_as_truth b) leaf reads held t s h = taken_typed (value.Bool b) t s (bool_typed b) (bool_flat b) h
carried x v (tuple vs ws k) leaf reads held t s h = absurd (no_tuple vs leaf)
carried x v (array vs ws k) leaf reads held t s h = absurd (no_array vs leaf)

by_type : (x v : Value) (t : TypeName) (s : Bool) → IsLeaf x → IsReadTyped x → (if t.array then Err ValueShape else take_element t.element x) ≡ Ok v → IsTaken (Typed t) s v
by_type x v t s leaf reads h =
    let fits = leaf_cases t.array t.element x v h in
    carried x v fits.same leaf reads (fits.held (leaf_held x leaf)) t s fits.of_type

block_typed : (s : Bool) (t : TypeName) (v : Value) → (if s then Ok value.Block else Err ValueShape) ≡ Ok v → IsTaken (Typed t) s v
block_typed true t v h = (let same : value.Block ≡ v = cc h in subst (IsTaken (Typed t) true) same (record { kept = reads_block (Typed t) true; flat = leaf_flat value.Block block }))
block_typed false t v h = absurd cc

typed_leaf : (x : Value) → IsLeaf x → (s : Bool) (t : TypeName) (v : Value) → take_typed s t x ≡ Ok v → IsTaken (Typed t) s v
typed_leaf _ (whole n d good e) s t v h = by_type (value.Whole n) v t s (whole n d good e) (whole_typed n) h
typed_leaf _ (number x w) s t v h = by_type (value.Number x) v t s (number x w) (number_typed x) h
typed_leaf _ (text x u) s t v h = by_type (value.Text x) v t s (text x u) (text_typed x) h
typed_leaf _ (asset x u w) s t v h = by_type (value.Asset x) v t s (asset x u w) (asset_typed x) h
typed_leaf _ (path x u is f) s t v h = by_type (value.PathText x) v t s (path x u is f) (path_typed x) h
typed_leaf _ (word x u w none) s t v h = by_type (value.Word x) v t s (word x u w none) (word_typed x) h
typed_leaf _ block s t v h = block_typed s t v h

pub leaf_taken : (x : Value) → IsLeaf x → (shape : Shape) (s : Bool) (v : Value) → take_value shape s x ≡ Ok v → IsTaken shape s v
leaf_taken x leaf Untyped s v h = (let same : x ≡ v = cc h in subst (IsTaken Untyped s) same (record { kept = refl; flat = leaf_flat x leaf }))
leaf_taken x leaf Metadata s v h =
    let m = in_metadata x leaf in
    let same : for_metadata x ≡ v = cc h in
    subst (IsTaken Metadata s) same (record { kept = m.1 s; flat = leaf_flat (for_metadata x) m.0 })
leaf_taken x leaf (Typed t) s v h = typed_leaf x leaf s t v h
leaf_taken x leaf Dictionary s v h = absurd cc

-- a value of one token, where it is expected
pub leaf_sound : (n : ℕ) (k : TokenKind) (t : List ℕ) (x : Value) (shape : Shape) (s : Bool) (v : Value) → n ≤ 64 → is_sound_token k t ≡ true → token_value k t ≡ Ok x → take_value shape s x ≡ Ok v → IsSound n shape s v
leaf_sound n k t x shape s v few sound e h =
    let is = leaf_taken x (token_leaf k t x sound e) shape s v h in
    record {
      kept = is.kept;
      writable = is.flat.writable;
      utf8 = is.flat.utf8;
      full = is.flat.full;
      deep = (let f = is.flat.flat in omega (arith, f, few));
    }

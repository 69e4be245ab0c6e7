-- The text of a value.
use Rattle.std.proofs.Common.{◌≡◌, ◌∙◌, ℕ, Bool, true, List, [], ◌∷◌, map, sym, refl, subst, arith}
use Rattle.std.specs.Prelude.{codes}
use Rattle.std.specs.Str.{is_utf8}
use Rattle.std.proofs.lemmas.Bool.{and_parts}
use Rattle.usd_names.specs.Names.{is_name}
use Rattle.sdf_values.specs.Print.{blanks, deeper, dict_type_text, more_listed, listed, lines, print, print_step, print_item}
use Rattle.sdf_values.specs.Proper.{all_true}
use Rattle.sdf_values.specs.TypeNames.{element_name, type_text}
use Rattle.sdf_values.specs.declared.type_name.TypeName.{TypeName}
use Rattle.sdf_values.specs.declared.value.DictType.{DictType}
use Rattle.sdf_values.specs.declared.value.DictType.TheVariants as dict_type
use Rattle.sdf_values.specs.declared.value.DictItem.{DictItem, fold-DictItem}
use Rattle.sdf_values.specs.declared.value.Value.{Value}
use Rattle.sdf_values.specs.declared.value.Value.TheVariants as value
use Rattle.sdf_values.proofs.Values.{Each, by_cases}
use Rattle.value_texts.specs.Writable.{is_writable, is_writable_item, writable_step, writable_item}
use Rattle.value_texts.proofs.TypeTexts.{type_is_text}
use Rattle.sdf_values.proofs.Values as fold
use Rattle.text_checks.specs.Utf8.{is_utf8_value, is_utf8_entry, utf8_step, utf8_item}
use Rattle.text_checks.proofs.Bytes.{IsValid, tested, two, nothing, ascii, either, repeated}
use Rattle.text_checks.proofs.Numbers.{number_valid, time_valid, whole_valid}
use Rattle.text_checks.proofs.Strings.{string_valid, asset_valid, key_valid}

pub indent_valid : (level : ℕ) → IsValid (blanks level)
indent_valid level = repeated _ 32 (omega arith)

-- types
pub type_valid : (ty : TypeName) → IsValid (type_text ty)
type_valid ty = two (tested (element_name ty.element) (type_is_text ty.element)) (either ty.array (ascii (codes "[]") refl) nothing)

dictionary_type_valid : (t : DictType) → IsValid (dict_type_text t)
dictionary_type_valid (dict_type.Plain t) = type_valid t
dictionary_type_valid dict_type.Dictionary = ascii (codes "dictionary") refl

-- printers whose texts are so at each level
abbrev Prints : (ℕ → List ℕ) → Type 0
Prints f = (level : ℕ) → IsValid (f level)

more_valid : (fs : List (ℕ → List ℕ)) → Each Prints fs → Prints (more_listed fs)
more_valid [] each level = nothing
more_valid (f ∷ fs) (first, rest) level = two (two (ascii (codes ", ") refl) (first level)) (more_valid fs rest level)

listed_valid : (fs : List (ℕ → List ℕ)) → Each Prints fs → Prints (listed fs)
listed_valid [] each level = nothing
listed_valid (f ∷ fs) (first, rest) level = two (first level) (more_valid fs rest level)

lines_valid : (fs : List (ℕ → List ℕ)) → Each Prints fs → Prints (lines fs)
lines_valid [] each level = nothing
lines_valid (f ∷ fs) (first, rest) level = two (two (two (indent_valid level) (first level)) (ascii (codes "\n") refl)) (lines_valid fs rest level)

-- ---- by induction

abbrev print_entry : DictItem → ℕ → List ℕ
print_entry = fold-DictItem (ℕ → List ℕ) (ℕ → List ℕ) print_step print_item

abbrev IsPrinted : Value → Type 0
IsPrinted v = is_writable v ≡ true → is_utf8_value v ≡ true → Prints (print v)

abbrev IsPrintedEntry : DictItem → Type 0
IsPrintedEntry e = is_writable_item e ≡ true → is_utf8_entry e ≡ true → Prints (print_entry e)

values_printed : (vs : List Value) → Each IsPrinted vs → all_true (map is_writable vs) ≡ true → all_true (map is_utf8_value vs) ≡ true → Each Prints (map print vs)
values_printed [] each w u = tt
values_printed (v ∷ vs) (first, rest) w u =
    let p = and_parts (is_writable v) (all_true (map is_writable vs)) w in
    let q = and_parts (is_utf8_value v) (all_true (map is_utf8_value vs)) u in
    (first p.0 q.0, values_printed vs rest p.1 q.1)

entries_printed : (es : List DictItem) → Each IsPrintedEntry es → all_true (map is_writable_item es) ≡ true → all_true (map is_utf8_entry es) ≡ true → Each Prints (map print_entry es)
entries_printed [] each w u = tt
entries_printed (e ∷ es) (first, rest) w u =
    let p = and_parts (is_writable_item e) (all_true (map is_writable_item es)) w in
    let q = and_parts (is_utf8_entry e) (all_true (map is_utf8_entry es)) u in
    (first p.0 q.0, entries_printed es rest p.1 q.1)

-- what the two tests and the printer make of a value, and an entry
by : (f g : ℕ → List ℕ) → f ≡ g → Prints g → Prints f
by f g is h = subst Prints (sym is) h

tuple_printed : (vs : List Value) → Each IsPrinted vs → IsPrinted (value.Tuple vs)
tuple_printed vs each w u =
    let inner = values_printed vs each (sym (fold.of_tuple Bool Bool writable_step writable_item vs) ∙ w) (sym (fold.of_tuple Bool Bool utf8_step utf8_item vs) ∙ u) in
    by _ _ (fold.of_tuple (ℕ → List ℕ) (ℕ → List ℕ) print_step print_item vs) (λ level. two (two (ascii (codes "(") refl) (listed_valid (map print vs) inner level)) (ascii (codes ")") refl))

array_printed : (vs : List Value) → Each IsPrinted vs → IsPrinted (value.Array vs)
array_printed vs each w u =
    let inner = values_printed vs each (sym (fold.of_array Bool Bool writable_step writable_item vs) ∙ w) (sym (fold.of_array Bool Bool utf8_step utf8_item vs) ∙ u) in
    by _ _ (fold.of_array (ℕ → List ℕ) (ℕ → List ℕ) print_step print_item vs) (λ level. two (two (ascii (codes "[") refl) (listed_valid (map print vs) inner level)) (ascii (codes "]") refl))

dictionary_printed : (es : List DictItem) → Each IsPrintedEntry es → IsPrinted (value.Dict es)
dictionary_printed es each w u =
    let inner = entries_printed es each (sym (fold.of_dict Bool Bool writable_step writable_item es) ∙ w) (sym (fold.of_dict Bool Bool utf8_step utf8_item es) ∙ u) in
    by _ _ (fold.of_dict (ℕ → List ℕ) (ℕ → List ℕ) print_step print_item es)
    (λ level. two (two (two (ascii (codes "{\n") refl) (lines_valid (map print_entry es) inner (deeper level))) (indent_valid level)) (ascii (codes "}") refl))

entry_printed : (k : List ℕ) (t : DictType) (v : Value) → IsPrinted v → IsPrintedEntry (record { key = k; ty = t; value = v })
entry_printed k t v h w u =
    let item : DictItem = record { key = k; ty = t; value = v } in
    let p = and_parts (is_utf8 k) (is_writable v) (sym (fold.of_item Bool Bool writable_step writable_item item) ∙ w) in
    let q : is_utf8_value v ≡ true = sym (fold.of_item Bool Bool utf8_step utf8_item item) ∙ u in
    by _ _ (fold.of_item (ℕ → List ℕ) (ℕ → List ℕ) print_step print_item item)
    (λ level. two (two (two (two (dictionary_type_valid t) (ascii (codes " ") refl)) (key_valid k p.0)) (ascii (codes " = ") refl)) (h p.1 q level))

word_printed : (t : List ℕ) → IsPrinted (value.Word t)
word_printed t w u =
    let p = and_parts (is_utf8 t) (is_name t) (sym (fold.of_word Bool Bool writable_step writable_item t) ∙ w) in
    by _ _ (fold.of_word (ℕ → List ℕ) (ℕ → List ℕ) print_step print_item t) (λ level. tested t p.0)

path_printed : (t : List ℕ) → IsPrinted (value.PathText t)
path_printed t w u =
    let valid = tested t (sym (fold.of_path Bool Bool utf8_step utf8_item t) ∙ u) in
    by _ _ (fold.of_path (ℕ → List ℕ) (ℕ → List ℕ) print_step print_item t) (λ level. two (two (ascii (codes "<") refl) valid) (ascii (codes ">") refl))

-- the text of a value
pub value_valid : (v : Value) → is_writable v ≡ true → is_utf8_value v ≡ true → (level : ℕ) → IsValid (print v level)
value_valid = by_cases IsPrinted IsPrintedEntry (record {
  bool = λ b w u. by _ _ (fold.of_bool (ℕ → List ℕ) (ℕ → List ℕ) print_step print_item b) (λ level. either b (ascii (codes "true") refl) (ascii (codes "false") refl));
  whole = λ n w u. by _ _ (fold.of_whole (ℕ → List ℕ) (ℕ → List ℕ) print_step print_item n) (λ level. whole_valid n);
  number = λ x w u. by _ _ (fold.of_number (ℕ → List ℕ) (ℕ → List ℕ) print_step print_item x) (λ level. number_valid x);
  time = λ t w u. by _ _ (fold.of_time (ℕ → List ℕ) (ℕ → List ℕ) print_step print_item t) (λ level. time_valid t);
  text = λ t w u. by _ _ (fold.of_text (ℕ → List ℕ) (ℕ → List ℕ) print_step print_item t) (λ level. string_valid t (sym (fold.of_text Bool Bool writable_step writable_item t) ∙ w));
  asset = λ t w u. by _ _ (fold.of_asset (ℕ → List ℕ) (ℕ → List ℕ) print_step print_item t) (λ level. asset_valid t (sym (fold.of_asset Bool Bool utf8_step utf8_item t) ∙ u));
  path = path_printed;
  word = word_printed;
  block = λ w u. by _ _ (fold.of_block (ℕ → List ℕ) (ℕ → List ℕ) print_step print_item) (λ level. ascii (codes "None") refl);
  tuple = tuple_printed;
  array = array_printed;
  dict = dictionary_printed;
  item = entry_printed;
})

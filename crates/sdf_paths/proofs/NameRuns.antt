-- How the reader runs over names, and which characters stand between them.
use Rattle.std.proofs.Common.{◌≡◌, ℕ, Bool, true, false, not, ◌&&◌, ◌||◌, ◌==◌, List, [], ◌∷◌, ◌++◌, Option, Some, None, refl, sym, ap, ◌∙◌, append_assoc, append-nil, inl, inr, lit<}
use Rattle.std.specs.Cmp.Lexicographic.{pointwise}
use Rattle.std.specs.List.{list_all, list_any}
use Rattle.std.specs.Str.{chars, is_utf8, encode_utf8_all}
use Rattle.std.specs.Prelude.{encode_utf8, codes}
use Rattle.std.proofs.lemmas.Bool.{and_parts, cases_Bool, eqb-true, or_parts}
use Rattle.std.proofs.lemmas.Str.{encodes-chars, encode_ascii, IsUtf8-from_is_utf8}
use Rattle.unicode_ident.specs.Ident.{is_xid_continue}
use Rattle.unicode_ident.proofs.IdentLemmas.{is_xid_start-ascii, is_xid_continue-ascii}
use Rattle.usd_names.specs.Names.{is_start, is_variant_character, goes_on, spells_identifier, spells_joined, spells_run, spells_variant, is_identifier, is_variant, is_number_word, is_name, is_property_name}
use Rattle.sdf_paths.specs.Reader.{reader, step, after_all}
use Rattle.sdf_paths.specs.declared.element.Element.{Element}
use Rattle.sdf_paths.specs.declared.reader.Reader.{Reader}
use Rattle.sdf_paths.specs.declared.reader.Open.{Open}
use Rattle.sdf_paths.specs.declared.reader.Open.TheVariants.{Name, Set, AfterSet, Variant, PropertyName}

-- the marks of paths are in no name
pub continue_slash : is_xid_continue 47 ≡ false
continue_slash = is_xid_continue-ascii 47 (lit< tt)

pub continue_open : is_xid_continue 123 ≡ false
continue_open = is_xid_continue-ascii 123 (lit< tt)

pub continue_dot : is_xid_continue 46 ≡ false
continue_dot = is_xid_continue-ascii 46 (lit< tt)

pub continue_equals : is_xid_continue 61 ≡ false
continue_equals = is_xid_continue-ascii 61 (lit< tt)

pub continue_colon : is_xid_continue 58 ≡ false
continue_colon = is_xid_continue-ascii 58 (lit< tt)

pub continue_close : is_xid_continue 125 ≡ false
continue_close = is_xid_continue-ascii 125 (lit< tt)

pub start_slash : is_start 47 ≡ false
unfolding is_start
start_slash = rw (is_xid_start-ascii 47 (lit< tt)) refl

pub start_open : is_start 123 ≡ false
unfolding is_start
start_open = rw (is_xid_start-ascii 123 (lit< tt)) refl

pub start_dot : is_start 46 ≡ false
unfolding is_start
start_dot = rw (is_xid_start-ascii 46 (lit< tt)) refl

pub start_a : is_start 97 ≡ true
unfolding is_start
start_a = rw (is_xid_start-ascii 97 (lit< tt)) refl

start_x : is_start 120 ≡ true
unfolding is_start
start_x = rw (is_xid_start-ascii 120 (lit< tt)) refl

-- each name goes on with `x`
pub goes_on_x : (begun : Bool) → goes_on begun 120 ≡ true
goes_on_x true = is_xid_continue-ascii 120 (lit< tt)
goes_on_x false = start_x

pub variant_dot : is_variant_character 46 ≡ false
unfolding is_variant_character
variant_dot = rw continue_dot refl

pub variant_close : is_variant_character 125 ≡ false
unfolding is_variant_character
variant_close = rw continue_close refl

pub variant_a : is_variant_character 97 ≡ true
unfolding is_variant_character
variant_a = rw (is_xid_continue-ascii 97 (lit< tt)) refl

pub after_none : (cs : List ℕ) → after_all cs None ≡ None
after_none [] = refl
after_none (c ∷ cs) = refl

pub after_more : (xs ys : List ℕ) (o : Option Reader) → after_all (xs ++ ys) o ≡ after_all ys (after_all xs o)
after_more [] ys o = refl
after_more (x ∷ xs) ys None = sym (after_none ys)
after_more (x ∷ xs) ys (Some r) = after_more xs ys (step r x)

module _ (elements : List Element) (names : ℕ) (open_as : List ℕ → Bool → Open)
    (one : (n : List ℕ) (b : Bool) (c : ℕ) → goes_on b c ≡ true → step (reader elements names (open_as n b)) c ≡ Some (reader elements names (open_as (n ++ encode_utf8 c) true))) where
  pub run_rest : (cs n : List ℕ) → list_all is_xid_continue cs ≡ true
      → after_all cs (Some (reader elements names (open_as n true))) ≡ Some (reader elements names (open_as (n ++ encode_utf8_all cs) true))
  run_rest [] n h = rw append-nil refl
  run_rest (c ∷ cs) n h =
      let both = and_parts (is_xid_continue c) (list_all is_xid_continue cs) h in
      rw (one n true c both.0) (run_rest cs (n ++ encode_utf8 c) both.1 ∙ ap (λ m. Some (reader elements names (open_as m true))) (append_assoc n (encode_utf8 c) (encode_utf8_all cs)))

  pub run_identifier : (cs : List ℕ) → spells_identifier cs ≡ true
      → after_all cs (Some (reader elements names (open_as [] false))) ≡ Some (reader elements names (open_as (encode_utf8_all cs) true))
  run_identifier [] h = absurd cc
  run_identifier (c ∷ cs) h =
      let both = and_parts (is_start c) (list_all is_xid_continue cs) h in
      rw (one [] false c both.0) (run_rest cs (encode_utf8 c) both.1)

pub name_step : (elements : List Element) (names : ℕ) (n : List ℕ) (b : Bool) (c : ℕ) → goes_on b c ≡ true
    → step (reader elements names (Name n b)) c ≡ Some (reader elements names (Name (n ++ encode_utf8 c) true))
unfolding step
name_step elements names n b c h = rw h refl

pub set_step : (elements : List Element) (names : ℕ) (n : List ℕ) (b : Bool) (c : ℕ) → goes_on b c ≡ true
    → step (reader elements names (Set n b)) c ≡ Some (reader elements names (Set (n ++ encode_utf8 c) true))
unfolding step
set_step elements names n b c h = rw h refl

pub run_name : (elements : List Element) (names : ℕ) (cs : List ℕ) → spells_identifier cs ≡ true
    → after_all cs (Some (reader elements names (Name [] false))) ≡ Some (reader elements names (Name (encode_utf8_all cs) true))
run_name elements names = run_identifier elements names Name (name_step elements names)

pub run_name_rest : (elements : List Element) (names : ℕ) (cs n : List ℕ) → list_all is_xid_continue cs ≡ true
    → after_all cs (Some (reader elements names (Name n true))) ≡ Some (reader elements names (Name (n ++ encode_utf8_all cs) true))
run_name_rest elements names = run_rest elements names Name (name_step elements names)

pub run_set : (elements : List Element) (names : ℕ) (cs : List ℕ) → spells_identifier cs ≡ true
    → after_all cs (Some (reader elements names (Set [] false))) ≡ Some (reader elements names (Set (encode_utf8_all cs) true))
run_set elements names = run_identifier elements names Set (set_step elements names)

pub variant_step : (elements : List Element) (names : ℕ) (s v : List ℕ) (b : Bool) (c : ℕ) → is_variant_character c ≡ true
    → step (reader elements names (Variant s v b)) c ≡ Some (reader elements names (Variant s (v ++ encode_utf8 c) true))
unfolding step
variant_step elements names s v b c h = rw h refl

run_variant_rest : (elements : List Element) (names : ℕ) (s cs v : List ℕ) → list_all is_variant_character cs ≡ true
    → after_all cs (Some (reader elements names (Variant s v true))) ≡ Some (reader elements names (Variant s (v ++ encode_utf8_all cs) true))
run_variant_rest elements names s [] v h = rw append-nil refl
run_variant_rest elements names s (c ∷ cs) v h =
    let both = and_parts (is_variant_character c) (list_all is_variant_character cs) h in
    rw (variant_step elements names s v true c both.0)
    (run_variant_rest elements names s cs (v ++ encode_utf8 c) both.1 ∙ ap (λ m. Some (reader elements names (Variant s m true))) (append_assoc v (encode_utf8 c) (encode_utf8_all cs)))

run_variant_run : (elements : List Element) (names : ℕ) (s cs v : List ℕ) (b : Bool) → spells_run cs ≡ true
    → after_all cs (Some (reader elements names (Variant s v b))) ≡ Some (reader elements names (Variant s (v ++ encode_utf8_all cs) true))
run_variant_run elements names s [] v b h = absurd cc
run_variant_run elements names s (c ∷ cs) v b h =
    let both = and_parts (is_variant_character c) (list_all is_variant_character cs) h in
    rw (variant_step elements names s v b c both.0)
    (run_variant_rest elements names s cs (v ++ encode_utf8 c) both.1 ∙ ap (λ m. Some (reader elements names (Variant s m true))) (append_assoc v (encode_utf8 c) (encode_utf8_all cs)))

after_set_dot : (elements : List Element) (names : ℕ) (s : List ℕ) → step (reader elements names (AfterSet s)) 46 ≡ Some (reader elements names (Variant s (encode_utf8 46) false))
unfolding step
after_set_dot elements names s = rw variant_dot refl

pub after_set_run : (elements : List Element) (names : ℕ) (s : List ℕ) (c : ℕ) → is_variant_character c ≡ true
    → step (reader elements names (AfterSet s)) c ≡ Some (reader elements names (Variant s (encode_utf8 c) true))
unfolding step
after_set_run elements names s c h = rw h refl

pub run_variant : (elements : List Element) (names : ℕ) (s cs : List ℕ) → spells_variant cs ≡ true
    → after_all cs (Some (reader elements names (AfterSet s))) ≡ Some (reader elements names (Variant s (encode_utf8_all cs) true))
run_variant elements names s [] h = absurd cc
run_variant elements names s (c ∷ cs) h = elim (cases_Bool (c == 46)) [
  | inl dot ↦
      let is : c ≡ 46 = eqb-true c 46 dot in
      let run : spells_run cs ≡ true = rw dot at h in
      rw (is, after_set_dot elements names s) (run_variant_run elements names s cs (encode_utf8 46) false run)
  | inr other ↦
      let run : spells_run (c ∷ cs) ≡ true = rw other at h in
      let both = and_parts (is_variant_character c) (list_all is_variant_character cs) run in
      rw (after_set_run elements names s c both.0) (run_variant_rest elements names s cs (encode_utf8 c) both.1)
]

pub property_step : (elements : List Element) (names : ℕ) (n : List ℕ) (b : Bool) (c : ℕ) → goes_on b c ≡ true
    → step (reader elements names (PropertyName n b)) c ≡ Some (reader elements names (PropertyName (n ++ encode_utf8 c) true))
unfolding step
property_step elements names n b c h = rw h refl

property_colon : (elements : List Element) (names : ℕ) (n : List ℕ) → step (reader elements names (PropertyName n true)) 58 ≡ Some (reader elements names (PropertyName (n ++ encode_utf8 58) false))
unfolding step
property_colon elements names n = rw continue_colon refl

pub run_joined : (elements : List Element) (names : ℕ) (b : Bool) (cs n : List ℕ) → spells_joined b cs ≡ true
    → after_all cs (Some (reader elements names (PropertyName n b))) ≡ Some (reader elements names (PropertyName (n ++ encode_utf8_all cs) true))
run_joined elements names b [] n h = rw (append-nil, h) refl
run_joined elements names false (c ∷ cs) n h =
    let both = and_parts (is_start c) (spells_joined true cs) h in
    rw (property_step elements names n false c both.0)
    (run_joined elements names true cs (n ++ encode_utf8 c) both.1 ∙ ap (λ m. Some (reader elements names (PropertyName m true))) (append_assoc n (encode_utf8 c) (encode_utf8_all cs)))
run_joined elements names true (c ∷ cs) n h = elim (cases_Bool (c == 58)) [
  | inl colon ↦
      let is : c ≡ 58 = eqb-true c 58 colon in
      let rest : spells_joined false cs ≡ true = rw colon at h in
      rw (is, property_colon elements names n)
      (run_joined elements names false cs (n ++ encode_utf8 58) rest ∙ ap (λ m. Some (reader elements names (PropertyName m true))) (append_assoc n (encode_utf8 58) (encode_utf8_all cs)))
  | inr other ↦
      let rest : (is_xid_continue c && spells_joined true cs) ≡ true = rw other at h in
      let both = and_parts (is_xid_continue c) (spells_joined true cs) rest in
      rw (property_step elements names n true c both.0)
      (run_joined elements names true cs (n ++ encode_utf8 c) both.1 ∙ ap (λ m. Some (reader elements names (PropertyName m true))) (append_assoc n (encode_utf8 c) (encode_utf8_all cs)))
]

-- the characters of a name
pub record IsSpelledBy (spells : List ℕ → Bool) (name : List ℕ) : Type 0 where
  pub cs : List ℕ
  pub bytes : encode_utf8_all cs ≡ name
  pub good : spells cs ≡ true

spelled_by : (spells : List ℕ → Bool) (name : List ℕ) → (is_utf8 name && spells (chars name)) ≡ true → IsSpelledBy spells name
spelled_by spells name h =
    let both = and_parts (is_utf8 name) (spells (chars name)) h in
    record { cs = chars name; bytes = encodes-chars name (IsUtf8-from_is_utf8 name both.0); good = both.1 }

pub identifier_chars : (name : List ℕ) → is_identifier name ≡ true → IsSpelledBy spells_identifier name
unfolding is_identifier
identifier_chars name h = spelled_by spells_identifier name h

pub variant_chars : (name : List ℕ) → is_variant name ≡ true → IsSpelledBy spells_variant name
unfolding is_variant
variant_chars name h = spelled_by spells_variant name h

-- what a property's name is: UTF-8, identifiers joined by colons, and no number
record IsPropertyName (name : List ℕ) : Type 0 where
  pub utf8 : is_utf8 name ≡ true
  pub joined : spells_joined false (chars name) ≡ true
  pub other : is_number_word name ≡ false

property_parts : (name : List ℕ) → is_property_name name ≡ true → IsPropertyName name
unfolding is_property_name
property_parts name h =
    let both = and_parts (is_utf8 name) (is_name name) h in
    let parts = and_parts (spells_joined false (chars name)) (not (is_number_word name)) both.1 in
    record { utf8 = both.0; joined = parts.0; other = not_so (is_number_word name) parts.1 }
  where
    not_so : (b : Bool) → not b ≡ true → b ≡ false
    not_so true h = absurd cc
    not_so false h = refl

pub property_chars : (name : List ℕ) → is_property_name name ≡ true → IsSpelledBy (spells_joined false) name
property_chars name h =
    let parts = property_parts name h in
    record { cs = chars name; bytes = encodes-chars name (IsUtf8-from_is_utf8 name parts.utf8); good = parts.joined }

pub property_no_number : (name : List ℕ) → is_property_name name ≡ true → is_number_word name ≡ false
property_no_number name h = (property_parts name h).other

pub and_false : (b : Bool) → (b && false) ≡ false
and_false true = refl
and_false false = refl

-- a text that ends in `x` is no word without one
ends_in_x : (name word : List ℕ) → list_any (λ c. 120 == c) word ≡ false → pointwise ◌==◌ (name ++ 120 ∷ []) word ≡ false
ends_in_x [] [] h = refl
ends_in_x [] (w ∷ word) h = ap (λ b. b && pointwise ◌==◌ [] word) (or_parts (120 == w) (list_any (λ c. 120 == c) word) h).0
ends_in_x (c ∷ name) [] h = refl
ends_in_x (c ∷ name) (w ∷ word) h = ap (λ b. (c == w) && b) (ends_in_x name word (or_parts (120 == w) (list_any (λ c. 120 == c) word) h).1) ∙ and_false (c == w)

-- so it is no number
pub no_number_with_x : (name : List ℕ) → is_number_word (name ++ encode_utf8 120) ≡ false
no_number_with_x name =
    ap (λ l. is_number_word (name ++ l)) (encode_ascii 120 (lit< tt))
    ∙ ap (λ b. b || pointwise ◌==◌ (name ++ 120 ∷ []) (codes "nan")) (ends_in_x name (codes "inf") refl)
    ∙ ends_in_x name (codes "nan") refl

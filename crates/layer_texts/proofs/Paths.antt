-- Nothing in the text of a path closes it.
use Rattle.std.proofs.Common.{◌≡◌, ◌∙◌, ℕ, ◌<◌, ◌^◌, ◌&&◌, ◌||◌, ◌==◌, not, Bool, true, false, List, [], ◌∷◌, ◌++◌, ap, refl, arith, eqb-true}
use Rattle.std.specs.Prelude.{if◌then◌else◌, ℤ, pos, negsuc, unsigned_abs, ◌≤ℤ◌}
use Rattle.std.specs.List.{list_any, list_all}
use Rattle.std.specs.Str.{chars, is_utf8}
use Rattle.std.specs.Char.{is_ascii_alphabetic, is_ascii_alphanumeric}
use Rattle.std.proofs.lemmas.Bool.Decides.{nat_tests}
use Rattle.std.proofs.lemmas.Int.{ints}
use Rattle.std.proofs.lemmas.List.Folds.{list_any-append}
use Rattle.std.proofs.lemmas.Str.{IsUtf8-from_is_utf8}
use Rattle.std.proofs.lemmas.Bool.{and_parts}
use Rattle.unicode_ident.specs.Ident.{is_xid_continue}
use Rattle.unicode_ident.proofs.IdentLemmas.{is_xid_start-ascii, is_xid_continue-ascii}
use Rattle.usd_names.specs.Names.{is_start, is_variant_character, spells_identifier, spells_joined, spells_run, spells_variant, is_identifier, is_number_word, is_name, is_variant, is_property_name}
use Rattle.sdf_paths.specs.Paths.{IsPath, is_well_named, is_selection, written, written_all, printed}
use Rattle.sdf_paths.specs.declared.element.Element.{Element}
use Rattle.sdf_paths.specs.declared.element.Element.TheVariants.{Prim, Property, Selection}
use Rattle.sdf_values.specs.Scales.{Offset, IsOffset}
use Rattle.value_texts.proofs.AsciiTests.{no_byte}
use Rattle.value_texts.proofs.PathsWritable.{closes_low, closes}
use Rattle.layer_texts.specs.Writable.{is_short, is_writable_target, is_writable_offset}

-- an offset is within a thousand million
short : (n : ℤ) → unsigned_abs n < 10 ^ 34 → is_short n ≡ true
short n h = grind (arith, nat_tests)

pub scale_short : (n : ℤ) → pos 1 ≤ℤ n → n ≤ℤ pos 1000000 → unsigned_abs n < 10 ^ 34
scale_short (pos n) least most = omega (arith, ints, most)
scale_short (negsuc n) least most = absurd (omega (arith, ints, least))

pub offset_writable : (o : Offset) → IsOffset o → is_writable_offset o ≡ true
offset_writable o h =
    ap (λ b. b && is_short o.scale) (short o.offset (let e = h.offset_within in omega (arith, e)))
    ∙ short o.scale (scale_short o.scale h.scale_least h.scale_most)

-- no character of a name does
no_letter : (c : ℕ) → closes c ≡ true → is_ascii_alphabetic c ≡ false
no_letter c h = grind (arith, nat_tests)

no_part : (c : ℕ) → closes c ≡ true → (is_ascii_alphanumeric c || (c == 95)) ≡ false
no_part c h = grind (arith, nat_tests)

other_than : (F : ℕ → Bool) → ((c : ℕ) → closes c ≡ true → F c ≡ false) → (c : ℕ) → F c ≡ true → closes c ≡ false
other_than F none c h = cases (closes c) refl
  where
    cases : (b : Bool) → closes c ≡ b → b ≡ false
    cases false e = refl
    cases true e = absurd (let bad = none c e in cc)

continues : (c : ℕ) → is_xid_continue c ≡ true → closes c ≡ false
continues = other_than is_xid_continue (λ c h. is_xid_continue-ascii c (closes_low c h) ∙ no_part c h)

no_start : (c : ℕ) → closes c ≡ true → is_start c ≡ false
unfolding is_start
no_start c h =
    ap (λ b. b || (c == 95)) (is_xid_start-ascii c (closes_low c h) ∙ no_letter c h)
    ∙ (let line : (c == 95) ≡ false = grind (arith, nat_tests) in line)

starts : (c : ℕ) → is_start c ≡ true → closes c ≡ false
starts = other_than is_start no_start

no_variant : (c : ℕ) → closes c ≡ true → is_variant_character c ≡ false
unfolding is_variant_character
no_variant c h =
    ap (λ b. b || ((c == 124) || (c == 45))) (is_xid_continue-ascii c (closes_low c h) ∙ no_part c h)
    ∙ (let marks : ((c == 124) || (c == 45)) ≡ false = grind (arith, nat_tests) in marks)

in_variant : (c : ℕ) → is_variant_character c ≡ true → closes c ≡ false
in_variant = other_than is_variant_character no_variant

all_parts : (F : ℕ → Bool) → ((c : ℕ) → F c ≡ true → closes c ≡ false) → (cs : List ℕ) → list_all F cs ≡ true → list_any closes cs ≡ false
all_parts F f [] h = refl
all_parts F f (c ∷ cs) h = let p = and_parts (F c) (list_all F cs) h in ap (λ b. b || list_any closes cs) (f c p.0) ∙ all_parts F f cs p.1

identifier_open : (cs : List ℕ) → spells_identifier cs ≡ true → list_any closes cs ≡ false
identifier_open [] h = refl
identifier_open (c ∷ cs) h = let p = and_parts (is_start c) (list_all is_xid_continue cs) h in ap (λ b. b || list_any closes cs) (starts c p.0) ∙ all_parts is_xid_continue continues cs p.1

run_open : (cs : List ℕ) → spells_run cs ≡ true → list_any closes cs ≡ false
run_open [] h = refl
run_open (c ∷ cs) h = let p = and_parts (is_variant_character c) (list_all is_variant_character cs) h in ap (λ b. b || list_any closes cs) (in_variant c p.0) ∙ all_parts is_variant_character in_variant cs p.1

variant_open : (cs : List ℕ) → spells_variant cs ≡ true → list_any closes cs ≡ false
variant_open [] h = refl
variant_open (c ∷ cs) h = cases (c == 46) refl h
  where
    cases : (b : Bool) → (c == 46) ≡ b → (if b then spells_run cs else spells_run (c ∷ cs)) ≡ true → (closes c || list_any closes cs) ≡ false
    cases true e k = ap (λ x. closes x || list_any closes cs) (eqb-true c 46 e) ∙ run_open cs k
    cases false e k = run_open (c ∷ cs) k

joined_open : (begun : Bool) (cs : List ℕ) → spells_joined begun cs ≡ true → list_any closes cs ≡ false
joined_open begun [] h = refl
joined_open false (c ∷ cs) h = let p = and_parts (is_start c) (spells_joined true cs) h in ap (λ b. b || list_any closes cs) (starts c p.0) ∙ joined_open true cs p.1
joined_open true (c ∷ cs) h = cases (c == 58) refl h (λ k. joined_open false cs k) (λ k. joined_open true cs k)
  where
    cases : (b : Bool) → (c == 58) ≡ b → (if b then spells_joined false cs else (is_xid_continue c && spells_joined true cs)) ≡ true
        → (spells_joined false cs ≡ true → list_any closes cs ≡ false) → (spells_joined true cs ≡ true → list_any closes cs ≡ false) → (closes c || list_any closes cs) ≡ false
    cases true e k f g = ap (λ x. closes x || list_any closes cs) (eqb-true c 58 e) ∙ f k
    cases false e k f g = let p = and_parts (is_xid_continue c) (spells_joined true cs) k in ap (λ b. b || list_any closes cs) (continues c p.0) ∙ g p.1

from_chars : (t : List ℕ) → is_utf8 t ≡ true → list_any closes (chars t) ≡ false → list_any closes t ≡ false
from_chars t u h = no_byte closes closes_low t (IsUtf8-from_is_utf8 t u) h

identifier_bytes : (t : List ℕ) → is_identifier t ≡ true → list_any closes t ≡ false
unfolding is_identifier
identifier_bytes t h = let p = and_parts (is_utf8 t) (spells_identifier (chars t)) h in from_chars t p.0 (identifier_open (chars t) p.1)

variant_bytes : (t : List ℕ) → is_variant t ≡ true → list_any closes t ≡ false
unfolding is_variant
variant_bytes t h = let p = and_parts (is_utf8 t) (spells_variant (chars t)) h in from_chars t p.0 (variant_open (chars t) p.1)

property_bytes : (t : List ℕ) → is_property_name t ≡ true → list_any closes t ≡ false
unfolding is_property_name
property_bytes t h =
    let p = and_parts (is_utf8 t) (is_name t) h in
    let joined = and_parts (spells_joined false (chars t)) (not (is_number_word t)) p.1 in
    from_chars t p.0 (joined_open false (chars t) joined.0)

-- one text behind another
two_open : (s t : List ℕ) → list_any closes s ≡ false → list_any closes t ≡ false → list_any closes (s ++ t) ≡ false
two_open s t h k = list_any-append closes s t ∙ ap (λ b. b || list_any closes t) h ∙ k

element_open : (after : Bool) (e : Element) → is_well_named e ≡ true → list_any closes (written after e) ≡ false
element_open true (Prim name) h = identifier_bytes name h
element_open false (Prim name) h = identifier_bytes name h
element_open after (Property name) h = property_bytes name h
element_open after (Selection set variant) h =
    let p = and_parts (is_identifier set) (is_variant variant) h in
    two_open (set ++ 61 ∷ variant) (125 ∷ []) (two_open set (61 ∷ variant) (identifier_bytes set p.0) (variant_bytes variant p.1)) refl

elements_open : (after : Bool) (es : List Element) → list_all is_well_named es ≡ true → list_any closes (written_all after es) ≡ false
elements_open after [] h = refl
elements_open after (e ∷ es) h =
    let p = and_parts (is_well_named e) (list_all is_well_named es) h in
    two_open (written after e) (written_all (is_selection e) es) (element_open after e p.0) (elements_open (is_selection e) es p.1)

printed_open : (path : List Element) → list_all is_well_named path ≡ true → list_any closes (printed path) ≡ false
printed_open [] h = refl
printed_open (e ∷ es) h = elements_open false (e ∷ es) h

pub path_writable : (path : List Element) → IsPath path → is_writable_target path ≡ true
path_writable path h = ap not (printed_open path h.well_formed.named)

-- The shorter tests of names tell no other names than the tables of Unicode.
use Rattle.std.proofs.Common.{◌≡◌, ◌∙◌, sym, ap, refl, arith, lit<, ℕ, zero, suc, ◌<◌, ◌==◌, Bool, true, false, not, ◌&&◌, ◌||◌, List, [], ◌∷◌}
use Rattle.std.specs.Prelude.{nat_le, if◌then◌else◌}
use Rattle.std.specs.List.{list_all}
use Rattle.std.specs.Char.{is_ascii_alphabetic, is_ascii_alphanumeric}
use Rattle.std.specs.Str.{IsUtf8, IsAscii, chars, is_utf8}
use Rattle.std.proofs.lemmas.Bool.{leb-true, and_parts, eqb-true}
use Rattle.std.proofs.lemmas.Bool.Decides.{nat_tests}
use Rattle.std.proofs.lemmas.Str.{chars-IsAscii, is_utf8-from_IsUtf8, IsAscii-append}
use Rattle.unicode_ident.specs.Ident.{is_xid_continue, is_xid_start}
use Rattle.unicode_ident.proofs.IdentLemmas.{is_xid_start-ascii, is_xid_continue-ascii}
use Rattle.usd_names.specs.Names.{is_start, is_variant_character, is_identifier, is_variant, spells_identifier, spells_variant, spells_run}
use Rattle.composition.specs.Texts.{both}
use Rattle.composition.specs.Names.{is_letter, is_letter_or_digit, is_ascii_identifier, is_ascii_variant, is_name, is_variant_name}
use Rattle.composition.proofs.Tests.{both_parts}

-- ---- characters below 128

-- a test holds of each number below a bound
abbrev holds_below : (ℕ → Bool) → ℕ → Bool
holds_below p zero = true
holds_below p (suc n) = both (p n) (holds_below p n)

below_is : (p : ℕ → Bool) (n : ℕ) → holds_below p n ≡ true → (c : ℕ) → c < n → p c ≡ true
below_is p zero h c small = absurd (omega arith)
below_is p (suc n) h c small =
    let parts = both_parts (p n) (holds_below p n) h in
    by_test (c == n) refl parts.0 (λ k. below_is p n parts.1 c k)
  where
    by_test : (b : Bool) → (c == n) ≡ b → p n ≡ true → (c < n → p c ≡ true) → p c ≡ true
    by_test true is here rest = ap p (eqb-true c n is) ∙ here
    by_test false is here rest = rest (grind (arith, nat_tests))

then_true : (a b : Bool) → (not a || b) ≡ true → a ≡ true → b ≡ true
then_true true b h is = h
then_true false b h is = absurd cc

letter_low : (c : ℕ) → is_letter c ≡ true → c < 128
letter_low c h = by_tests (both (nat_le 65 c) (nat_le c 90)) (both (nat_le 97 c) (nat_le c 122)) refl refl h
  where
    by_tests : (a b : Bool) → both (nat_le 65 c) (nat_le c 90) ≡ a → both (nat_le 97 c) (nat_le c 122) ≡ b
        → (elim a as (λ _. Bool) [ true ↦ true | false ↦ elim b as (λ _. Bool) [ true ↦ true | false ↦ c == 95 ] ]) ≡ true → c < 128
    by_tests true b upper lower k = omega (arith, leb-true c 90 (both_parts (nat_le 65 c) (nat_le c 90) upper).1)
    by_tests false true upper lower k = omega (arith, leb-true c 122 (both_parts (nat_le 97 c) (nat_le c 122) lower).1)
    by_tests false false upper lower k = omega (arith, eqb-true c 95 k)

part_low : (c : ℕ) → is_letter_or_digit c ≡ true → c < 128
part_low c h = by_test (is_letter c) refl h
  where
    by_test : (a : Bool) → is_letter c ≡ a → (elim a as (λ _. Bool) [ true ↦ true | false ↦ both (nat_le 48 c) (nat_le c 57) ]) ≡ true → c < 128
    by_test true is k = letter_low c is
    by_test false is k = omega (arith, leb-true c 57 (both_parts (nat_le 48 c) (nat_le c 57) k).1)

letter_starts : (c : ℕ) → is_letter c ≡ true → is_start c ≡ true
unfolding is_start
letter_starts c h =
    let low = letter_low c h in
    ap (λ b. b || (c == 95)) (is_xid_start-ascii c low)
    ∙ then_true (is_letter c) (is_ascii_alphabetic c || (c == 95)) (below_is (λ x. not (is_letter x) || (is_ascii_alphabetic x || (x == 95))) 128 refl c low) h

part_continues : (c : ℕ) → is_letter_or_digit c ≡ true → is_xid_continue c ≡ true
part_continues c h =
    let low = part_low c h in
    is_xid_continue-ascii c low
    ∙ then_true (is_letter_or_digit c) (is_ascii_alphanumeric c || (c == 95)) (below_is (λ x. not (is_letter_or_digit x) || (is_ascii_alphanumeric x || (x == 95))) 128 refl c low) h

parts_continue : (t : List ℕ) → list_all is_letter_or_digit t ≡ true → list_all is_xid_continue t ≡ true
parts_continue [] h = refl
parts_continue (c ∷ t) h =
    let parts = and_parts (is_letter_or_digit c) (list_all is_letter_or_digit t) h in
    ap (λ b. b && list_all is_xid_continue t) (part_continues c parts.0) ∙ parts_continue t parts.1

part_in_variant : (c : ℕ) → is_letter_or_digit c ≡ true → is_variant_character c ≡ true
unfolding is_variant_character
part_in_variant c h = ap (λ b. b || ((c == 124) || (c == 45))) (part_continues c h)

parts_in_variant : (t : List ℕ) → list_all is_letter_or_digit t ≡ true → list_all is_variant_character t ≡ true
parts_in_variant [] h = refl
parts_in_variant (c ∷ t) h =
    let parts = and_parts (is_letter_or_digit c) (list_all is_letter_or_digit t) h in
    ap (λ b. b && list_all is_variant_character t) (part_in_variant c parts.0) ∙ parts_in_variant t parts.1

-- ---- texts

one_low : (c : ℕ) → c < 128 → IsAscii (c ∷ [])
one_low c h zero = h
one_low c h (suc i) = lit< tt

all_low : (t : List ℕ) → list_all is_letter_or_digit t ≡ true → IsAscii t
all_low [] h = λ i. lit< tt
all_low (c ∷ t) h =
    let parts = and_parts (is_letter_or_digit c) (list_all is_letter_or_digit t) h in
    IsAscii-append (c ∷ []) t (one_low c (part_low c parts.0)) (all_low t parts.1)

letter_is_part : (c : ℕ) → is_letter c ≡ true → is_letter_or_digit c ≡ true
letter_is_part c h = ap (λ b. elim b as (λ _. Bool) [ true ↦ true | false ↦ both (nat_le 48 c) (nat_le c 57) ]) h

identifier_by_ascii : (t : List ℕ) → IsUtf8 t → is_ascii_identifier t ≡ true → is_identifier t ≡ true
unfolding is_identifier
identifier_by_ascii [] u h = absurd cc
identifier_by_ascii (c ∷ t) u h =
    let parts = both_parts (is_letter c) (list_all is_letter_or_digit t) h in
    let low : IsAscii (c ∷ t) = IsAscii-append (c ∷ []) t (one_low c (letter_low c parts.0)) (all_low t parts.1) in
    ap (λ b. b && spells_identifier (chars (c ∷ t))) (is_utf8-from_IsUtf8 (c ∷ t) u)
    ∙ ap spells_identifier (chars-IsAscii (c ∷ t) low)
    ∙ ap (λ b. b && list_all is_xid_continue t) (letter_starts c parts.0)
    ∙ parts_continue t parts.1

-- a part of a name is no dot
no_dot : (c : ℕ) → is_letter_or_digit c ≡ true → (c == 46) ≡ false
no_dot c h = not_true (c == 46) (then_true (is_letter_or_digit c) (not (c == 46)) (below_is (λ x. not (is_letter_or_digit x) || not (x == 46)) 128 refl c (part_low c h)) h)
  where
    not_true : (b : Bool) → not b ≡ true → b ≡ false
    not_true true k = absurd cc
    not_true false k = refl

variant_by_ascii : (t : List ℕ) → IsUtf8 t → is_ascii_variant t ≡ true → is_variant t ≡ true
unfolding is_variant
variant_by_ascii [] u h = absurd cc
variant_by_ascii (c ∷ t) u h =
    let parts = and_parts (is_letter_or_digit c) (list_all is_letter_or_digit t) h in
    ap (λ b. b && spells_variant (chars (c ∷ t))) (is_utf8-from_IsUtf8 (c ∷ t) u)
    ∙ ap spells_variant (chars-IsAscii (c ∷ t) (all_low (c ∷ t) h))
    ∙ ap (λ b. if b then spells_run t else spells_run (c ∷ t)) (no_dot c parts.0)
    ∙ parts_in_variant (c ∷ t) h

by_either : (a b : Bool) → (a ≡ true → b ≡ true) → (elim a as (λ _. Bool) [ true ↦ true | false ↦ b ]) ≡ b
by_either true b k = sym (k refl)
by_either false b k = refl

pub name_is : (t : List ℕ) → IsUtf8 t → is_name t ≡ is_identifier t
name_is t u = by_either (is_ascii_identifier t) (is_identifier t) (identifier_by_ascii t u)

pub variant_name_is : (t : List ℕ) → IsUtf8 t → is_variant_name t ≡ is_variant t
variant_name_is t u = by_either (is_ascii_variant t) (is_variant t) (variant_by_ascii t u)

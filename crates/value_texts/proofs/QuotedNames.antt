-- Names stand between quotes as they are.
use Rattle.std.proofs.Common.{◌≡◌, ◌∙◌, ℕ, ◌&&◌, ◌||◌, ◌==◌, Bool, true, false, List, [], ◌∷◌, ◌++◌, ap, refl, arith, eqb-true}
use Rattle.std.specs.Prelude.{codes, if◌then◌else◌}
use Rattle.std.specs.List.{list_any, list_all}
use Rattle.std.specs.Str.{chars, is_utf8}
use Rattle.std.specs.Char.{is_ascii_alphabetic, is_ascii_alphanumeric}
use Rattle.std.proofs.lemmas.Bool.Decides.{nat_tests}
use Rattle.std.proofs.lemmas.Str.{IsUtf8-from_is_utf8}
use Rattle.std.proofs.lemmas.Bool.{and_parts, or_parts}
use Rattle.unicode_ident.specs.Ident.{is_xid_continue}
use Rattle.unicode_ident.proofs.IdentLemmas.{is_xid_start-ascii, is_xid_continue-ascii}
use Rattle.usd_names.specs.Names.{is_start, is_variant_character, spells_identifier, spells_joined, spells_run, spells_variant, is_identifier, is_variant}
use Rattle.sdf_values.specs.Print.{is_escaped, escape, escaped, quoted}
use Rattle.sdf_values.proofs.Escapes.{escaped_ascii}
use Rattle.value_texts.proofs.AsciiTests.{no_byte}

-- a text with nothing to escape
pub as_it_is : (t : List ℕ) → list_any is_escaped t ≡ false → escaped t ≡ t
as_it_is [] h = refl
as_it_is (c ∷ t) h =
    let p = or_parts (is_escaped c) (list_any is_escaped t) h in
    ap (λ b. (if b then escape c else c ∷ []) ++ escaped t) p.0 ∙ ap (λ x. c ∷ x) (as_it_is t p.1)

pub plainly_quoted : (t : List ℕ) → list_any is_escaped t ≡ false → quoted t ≡ codes "\"" ++ t ++ codes "\""
plainly_quoted t h = ap (λ x. 34 ∷ x ++ 34 ∷ []) (as_it_is t h)

-- no character of a name has an escape
no_letter : (c : ℕ) → is_escaped c ≡ true → is_ascii_alphabetic c ≡ false
no_letter c h = grind (arith, nat_tests)

no_part : (c : ℕ) → is_escaped c ≡ true → (is_ascii_alphanumeric c || (c == 95)) ≡ false
no_part c h = grind (arith, nat_tests)

other_than : (F : ℕ → Bool) → ((c : ℕ) → is_escaped c ≡ true → F c ≡ false) → (c : ℕ) → F c ≡ true → is_escaped c ≡ false
other_than F none c h = cases (is_escaped c) refl
  where
    cases : (b : Bool) → is_escaped c ≡ b → b ≡ false
    cases false e = refl
    cases true e = absurd (let bad = none c e in cc)

continues : (c : ℕ) → is_xid_continue c ≡ true → is_escaped c ≡ false
continues = other_than is_xid_continue (λ c h. is_xid_continue-ascii c (escaped_ascii c h) ∙ no_part c h)

no_start : (c : ℕ) → is_escaped c ≡ true → is_start c ≡ false
unfolding is_start
no_start c h =
    ap (λ b. b || (c == 95)) (is_xid_start-ascii c (escaped_ascii c h) ∙ no_letter c h)
    ∙ (let line : (c == 95) ≡ false = grind (arith, nat_tests) in line)

starts : (c : ℕ) → is_start c ≡ true → is_escaped c ≡ false
starts = other_than is_start no_start

no_variant : (c : ℕ) → is_escaped c ≡ true → is_variant_character c ≡ false
unfolding is_variant_character
no_variant c h =
    ap (λ b. b || ((c == 124) || (c == 45))) (is_xid_continue-ascii c (escaped_ascii c h) ∙ no_part c h)
    ∙ (let marks : ((c == 124) || (c == 45)) ≡ false = grind (arith, nat_tests) in marks)

in_variant : (c : ℕ) → is_variant_character c ≡ true → is_escaped c ≡ false
in_variant = other_than is_variant_character no_variant

all_parts : (F : ℕ → Bool) → ((c : ℕ) → F c ≡ true → is_escaped c ≡ false) → (cs : List ℕ) → list_all F cs ≡ true → list_any is_escaped cs ≡ false
all_parts F f [] h = refl
all_parts F f (c ∷ cs) h = let p = and_parts (F c) (list_all F cs) h in ap (λ b. b || list_any is_escaped cs) (f c p.0) ∙ all_parts F f cs p.1

identifier_plain : (cs : List ℕ) → spells_identifier cs ≡ true → list_any is_escaped cs ≡ false
identifier_plain [] h = refl
identifier_plain (c ∷ cs) h = let p = and_parts (is_start c) (list_all is_xid_continue cs) h in ap (λ b. b || list_any is_escaped cs) (starts c p.0) ∙ all_parts is_xid_continue continues cs p.1

run_plain : (cs : List ℕ) → spells_run cs ≡ true → list_any is_escaped cs ≡ false
run_plain [] h = refl
run_plain (c ∷ cs) h = let p = and_parts (is_variant_character c) (list_all is_variant_character cs) h in ap (λ b. b || list_any is_escaped cs) (in_variant c p.0) ∙ all_parts is_variant_character in_variant cs p.1

variant_plain : (cs : List ℕ) → spells_variant cs ≡ true → list_any is_escaped cs ≡ false
variant_plain [] h = refl
variant_plain (c ∷ cs) h = cases (c == 46) refl h
  where
    cases : (b : Bool) → (c == 46) ≡ b → (if b then spells_run cs else spells_run (c ∷ cs)) ≡ true → (is_escaped c || list_any is_escaped cs) ≡ false
    cases true e k = ap (λ x. is_escaped x || list_any is_escaped cs) (eqb-true c 46 e) ∙ run_plain cs k
    cases false e k = run_plain (c ∷ cs) k

joined_plain : (begun : Bool) (cs : List ℕ) → spells_joined begun cs ≡ true → list_any is_escaped cs ≡ false
joined_plain begun [] h = refl
joined_plain false (c ∷ cs) h = let p = and_parts (is_start c) (spells_joined true cs) h in ap (λ b. b || list_any is_escaped cs) (starts c p.0) ∙ joined_plain true cs p.1
joined_plain true (c ∷ cs) h = cases (c == 58) refl h (λ k. joined_plain false cs k) (λ k. joined_plain true cs k)
  where
    cases : (b : Bool) → (c == 58) ≡ b → (if b then spells_joined false cs else (is_xid_continue c && spells_joined true cs)) ≡ true
        → (spells_joined false cs ≡ true → list_any is_escaped cs ≡ false) → (spells_joined true cs ≡ true → list_any is_escaped cs ≡ false) → (is_escaped c || list_any is_escaped cs) ≡ false
    cases true e k f g = ap (λ x. is_escaped x || list_any is_escaped cs) (eqb-true c 58 e) ∙ f k
    cases false e k f g = let p = and_parts (is_xid_continue c) (spells_joined true cs) k in ap (λ b. b || list_any is_escaped cs) (continues c p.0) ∙ g p.1

from_chars : (t : List ℕ) → is_utf8 t ≡ true → list_any is_escaped (chars t) ≡ false → quoted t ≡ codes "\"" ++ t ++ codes "\""
from_chars t u h = plainly_quoted t (no_byte is_escaped escaped_ascii t (IsUtf8-from_is_utf8 t u) h)

pub identifier_quoted : (t : List ℕ) → is_identifier t ≡ true → quoted t ≡ codes "\"" ++ t ++ codes "\""
unfolding is_identifier
identifier_quoted t h = let p = and_parts (is_utf8 t) (spells_identifier (chars t)) h in from_chars t p.0 (identifier_plain (chars t) p.1)

pub variant_quoted : (t : List ℕ) → is_variant t ≡ true → quoted t ≡ codes "\"" ++ t ++ codes "\""
unfolding is_variant
variant_quoted t h = let p = and_parts (is_utf8 t) (spells_variant (chars t)) h in from_chars t p.0 (variant_plain (chars t) p.1)

pub name_quoted : (t : List ℕ) → is_utf8 t ≡ true → spells_joined false (chars t) ≡ true → quoted t ≡ codes "\"" ++ t ++ codes "\""
name_quoted t u h = from_chars t u (joined_plain false (chars t) h)

-- Identifiers joined by colons, one character at a time.
use Rattle.std.proofs.Common.{ℕ, ◌≡◌, ◌∙◌, sym, ap, refl, Bool, true, false, List, [], ◌∷◌, ◌++◌, ◌&&◌, arith, length}
use Rattle.std.specs.Prelude.{◌==◌, if◌then◌else◌}
use Rattle.std.specs.Str.{chars, IsUtf8}
use Rattle.std.specs.Prelude.{encode_utf8}
use Rattle.std.proofs.lemmas.Str.{chars_past_char, chars-nil}
use Rattle.std.proofs.lemmas.Bool.Decides.{nat_tests}
use Rattle.unicode_ident.specs.Ident.{is_xid_continue}
use Rattle.usd_names.specs.Names.{spells_joined, is_start}

next_char : (begun : Bool) (bs rest : List ℕ) (c : ℕ) → IsUtf8 bs → bs ≡ encode_utf8 c ++ rest → spells_joined begun (chars bs) ≡ spells_joined begun (c ∷ chars rest)
next_char begun bs rest c u e = ap (spells_joined begun) (chars_past_char bs rest c u e)

pub bad_start : (begun : Bool) (bs rest : List ℕ) (c : ℕ) → IsUtf8 bs → bs ≡ encode_utf8 c ++ rest → begun ≡ false → is_start c ≡ false → spells_joined begun (chars bs) ≡ false
bad_start begun bs rest c u e start bad =
    next_char begun bs rest c u e ∙ ap (λ s. spells_joined s (c ∷ chars rest)) start ∙ ap (λ b. b && spells_joined true (chars rest)) bad

pub good_start : (begun : Bool) (bs rest : List ℕ) (c : ℕ) → IsUtf8 bs → bs ≡ encode_utf8 c ++ rest → begun ≡ false → is_start c ≡ true → spells_joined begun (chars bs) ≡ spells_joined true (chars rest)
good_start begun bs rest c u e start good =
    next_char begun bs rest c u e ∙ ap (λ s. spells_joined s (c ∷ chars rest)) start ∙ ap (λ b. b && spells_joined true (chars rest)) good

behind : Bool → Bool → Bool → Bool
behind colon from_start continued = if colon then from_start else continued

pub joins : (begun : Bool) (bs rest : List ℕ) (c : ℕ) → IsUtf8 bs → bs ≡ encode_utf8 c ++ rest → begun ≡ true → (c == 58) ≡ true → spells_joined begun (chars bs) ≡ spells_joined false (chars rest)
unfolding behind
joins begun bs rest c u e start colon =
    next_char begun bs rest c u e ∙ ap (λ s. spells_joined s (c ∷ chars rest)) start
    ∙ ap (λ b. behind b (spells_joined false (chars rest)) (is_xid_continue c && spells_joined true (chars rest))) colon

pub bad_rest : (begun : Bool) (bs rest : List ℕ) (c : ℕ) → IsUtf8 bs → bs ≡ encode_utf8 c ++ rest → begun ≡ true → (c == 58) ≡ false → is_xid_continue c ≡ false → spells_joined begun (chars bs) ≡ false
unfolding behind
bad_rest begun bs rest c u e start colon bad =
    next_char begun bs rest c u e ∙ ap (λ s. spells_joined s (c ∷ chars rest)) start
    ∙ ap (λ b. behind b (spells_joined false (chars rest)) (is_xid_continue c && spells_joined true (chars rest))) colon
    ∙ ap (λ b. b && spells_joined true (chars rest)) bad

pub good_rest : (begun : Bool) (bs rest : List ℕ) (c : ℕ) → IsUtf8 bs → bs ≡ encode_utf8 c ++ rest → begun ≡ true → (c == 58) ≡ false → is_xid_continue c ≡ true → spells_joined begun (chars bs) ≡ spells_joined begun (chars rest)
unfolding behind
good_rest begun bs rest c u e start colon good =
    next_char begun bs rest c u e ∙ ap (λ s. spells_joined s (c ∷ chars rest)) start
    ∙ ap (λ b. behind b (spells_joined false (chars rest)) (is_xid_continue c && spells_joined true (chars rest))) colon
    ∙ ap (λ b. b && spells_joined true (chars rest)) good ∙ ap (λ s. spells_joined s (chars rest)) (sym start)

pub no_chars : (begun : Bool) (bs : List ℕ) → bs ≡ [] → spells_joined begun (chars bs) ≡ begun
no_chars false bs e = ap (λ l. spells_joined false (chars l)) e ∙ ap (spells_joined false) chars-nil
no_chars true bs e = ap (λ l. spells_joined true (chars l)) e ∙ ap (spells_joined true) chars-nil

pub not_colon : (c : ℕ) → (c ≡ 58 → ⊥) → (c == 58) ≡ false
not_colon c h = grind (arith, nat_tests)

pub no_length : (l : List ℕ) → length l ≡ 0 → l ≡ []
no_length [] h = refl
no_length (c ∷ l) h = absurd (omega (arith, h))

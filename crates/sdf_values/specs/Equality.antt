-- Equality of values, decided by their codes.
use Rattle.std.specs.Prelude.{ℕ, ◌≡◌, ◌==◌, Bool, true, false, ◌&&◌, ◌↔◌, IsTrue}
use Rattle.std.proofs.Common.{refl, sym, ap, ◌∙◌, eq-eqb, arith}
use Rattle.std.proofs.lemmas.Bool.Decides.{nat_tests}
use Rattle.std.specs.Cmp.{IsEquivalence}
use Rattle.std.proofs.lemmas.Bool.{and_parts}
use base.Stored.{Gv, gnil, gnum, gcons, Coded}

-- whether two codes are one
abbrev pub same_code : Gv → Gv → Bool
same_code gnil gnil = true
same_code (gnum m) (gnum n) = m == n
same_code (gcons a b) (gcons c d) = same_code a c && same_code b d
same_code _ _ = false

same_number : (m n : ℕ) → (m == n) ≡ true → m ≡ n
same_number m n h = grind (arith, nat_tests)

-- codes that pass the test are one
pub code_same : (x y : Gv) → same_code x y ≡ true → x ≡ y
code_same gnil gnil h = refl
code_same gnil (gnum n) h = absurd cc
code_same gnil (gcons c d) h = absurd cc
code_same (gnum m) gnil h = absurd cc
code_same (gnum m) (gnum n) h = ap gnum (same_number m n h)
code_same (gnum m) (gcons c d) h = absurd cc
code_same (gcons a b) gnil h = absurd cc
code_same (gcons a b) (gnum n) h = absurd cc
code_same (gcons a b) (gcons c d) h =
    let parts = and_parts (same_code a c) (same_code b d) h in
    let head = code_same a c parts.0 in
    let tail = code_same b d parts.1 in
    cc

-- each code passes the test with itself
pub code_refl : (x : Gv) → same_code x x ≡ true
code_refl gnil = refl
code_refl (gnum m) = eq-eqb m m refl
code_refl (gcons a b) = ap (λ h. h && same_code b b) (code_refl a) ∙ code_refl b

-- two values of a type with a code are one
abbrev pub same_value : {A : Type 0} → Coded A → A → A → Bool
same_value c x y = same_code (c.code x) (c.code y)

-- values that pass the test are one
pub value_same : {A : Type 0} (c : Coded A) (x y : A) → same_value c x y ≡ true → x ≡ y
value_same c x y h = c.inj x y (code_same (c.code x) (c.code y) h)

-- values that are one pass the test
pub value_refl : {A : Type 0} (c : Coded A) (x y : A) → x ≡ y → same_value c x y ≡ true
value_refl c x y e = ap (λ z. same_code (c.code x) (c.code z)) (sym e) ∙ code_refl (c.code x)

both_ways : (a b : Bool) → (a ≡ true → b ≡ true) → (b ≡ true → a ≡ true) → a ≡ b
both_ways true b f g = sym (f refl)
both_ways false true f g = g refl
both_ways false false f g = refl

-- the test is an equivalence of values
pub value_equiv : {A : Type 0} (c : Coded A) → IsEquivalence (same_value c)
value_equiv c = record {
  refl = λ x. value_refl c x x refl;
  symm = λ x y. both_ways (same_value c x y) (same_value c y x) (λ h. value_refl c y x (sym (value_same c x y h))) (λ h. value_refl c x y (sym (value_same c y x h)));
  congr = λ x y z h. ap (λ w. same_value c w z) (value_same c x y h);
}

-- a test of equality is this one
pub value_decided : {A : Type 0} (c : Coded A) (x y : A) (r : Bool) → IsTrue r ↔ (x ≡ y) → r ≡ same_value c x y
value_decided c x y r both = both_ways r (same_value c x y) (λ h. value_refl c x y (both.0 h)) (λ h. both.1 (value_same c x y h))

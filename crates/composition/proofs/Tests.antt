-- Cases of a test, and tests that hold together.
use Rattle.std.proofs.Common.{◌≡◌, refl, sym, Bool, true, false, IsTrue, ◌↔◌}
use Rattle.composition.specs.Texts.{both}

-- what follows from either answer of a test
pub by_test : {A : Type 0} → (b : Bool) → (b ≡ true → A) → (b ≡ false → A) → A
by_test true on off = on refl
by_test false on off = off refl

-- two tests of which each holds hold together
pub both_hold : (a b : Bool) → a ≡ true → b ≡ true → both a b ≡ true
both_hold true b p q = q
both_hold false b p q = absurd cc

-- of two tests that hold together, each holds
pub both_parts : (a b : Bool) → both a b ≡ true → (a ≡ true) × (b ≡ true)
both_parts true b h = (refl, h)
both_parts false b h = absurd cc

-- an answer that decides a fact is another test that does
pub one_answer : {A : Type 0} (r s : Bool) → (IsTrue r ↔ A) → (s ≡ true → A) → (A → s ≡ true) → r ≡ s
one_answer true true d f g = refl
one_answer true false d f g = sym (g (d.0 refl))
one_answer false true d f g = d.1 (f refl)
one_answer false false d f g = refl

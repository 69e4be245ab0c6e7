-- A node with one arc of each kind, in the order of strength.
use Rattle.std.proofs.Common.{◌≡◌, refl, ℕ, true, arith}
use Rattle.std.specs.Prelude.{◌==◌}
use Rattle.std.proofs.lemmas.Bool.Decides.{nat_tests}
use Rattle.composition.proofs.Same.{path_itself}
use Rattle.composition.proofs.Tests.{both_hold}
use Rattle.composition.specs.Paths.{same_path}
use Rattle.composition.specs.Strength.{part_of}
use Rattle.composition.specs.Trees.{Class, same_class, is_class_of}
use Rattle.laws_strength.specs.Laws.{StrengthIsLivrps}

level_itself : (n : ℕ) → (n == n) ≡ true
level_itself n = grind (arith, nat_tests)

class_itself : (c : Class) → same_class c c ≡ true
class_itself c = both_hold (c.0 == c.0) (same_path c.1 c.1) (level_itself c.0) (path_itself c.1)

pub is_livrps : StrengthIsLivrps
is_livrps = record {
  in_order = λ l n i v r p s h hi hv hr hp hs inherits variant reference payload specializes.
      rw (class_itself (inherits.level, inherits.lead.target), class_itself (specializes.level, specializes.lead.target), part_of, is_class_of) refl;
  reversed = λ l n i v r p s h hi hv hr hp hs inherits variant reference payload specializes.
      rw (class_itself (inherits.level, inherits.lead.target), class_itself (specializes.level, specializes.lead.target), part_of, is_class_of) refl;
}

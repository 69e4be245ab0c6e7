-- Comparing classes decides whether they are one.
use Rattle.std.proofs.Common.{◌≡◌, ◌∙◌, sym, ap, refl, ℕ, Bool, true, false, ◌==◌, List}
use Rattle.std.proofs.lemmas.Bool.{and_from, eq-eqb}
use Rattle.sdf_paths.specs.contracts.path.PathPartialEq.TheImpl.{ghosts as path_eq}
use Rattle.composition.specs.Paths.{same_path}
use Rattle.composition.specs.Trees.{Class, same_class}
use Rattle.list_ops.specs.ListEdits.{firsts}
use Rattle.std.proofs.lemmas.Map.Views.{exact_unsigned_eq}
use Rattle.class_arcs.specs.Same.{class_equal}
use Rattle.class_arcs.specs.contracts.class.ClassPartialEq.TheImpl.{ghosts as class_eq}
use Rattle.composition.proofs.Same.{path_same, path_itself, path_test}
use Rattle.composition.proofs.Tests.{both_hold, both_parts}

-- two tests that hold of the same values are one
pub one_test : {A : Type 0} (x y : A) (a b : Bool) → (a ≡ true → x ≡ y) → (b ≡ true → x ≡ y) → (x ≡ y → a ≡ true) → (x ≡ y → b ≡ true) → a ≡ b
one_test x y true true f g k l = refl
one_test x y true false f g k l = sym (l (f refl))
one_test x y false true f g k l = k (g refl)
one_test x y false false f g k l = refl

-- ---- what the derived comparison says

number_itself : (n : ℕ) → (n == n) ≡ true
number_itself n = eq-eqb n n refl

derived_class : (x : Class) → class_eq.eq x x ≡ true
derived_class x = and_from (x.0 == x.0) (path_eq.eq x.1 x.1) (number_itself x.0) (path_test x.1 x.1 ∙ path_itself x.1)

class_itself : (x : Class) → same_class x x ≡ true
class_itself x = both_hold (x.0 == x.0) (same_path x.1 x.1) (number_itself x.0) (path_itself x.1)

class_same : (x y : Class) → same_class x y ≡ true → x ≡ y
class_same x y h =
    let parts = both_parts (x.0 == y.0) (same_path x.1 y.1) h in
    let level : x.0 ≡ y.0 = exact_unsigned_eq x.0 y.0 parts.0 in
    let target : x.1 ≡ y.1 = path_same x.1 y.1 parts.1 in
    λ i. (level i, target i)

class_test : (x y : Class) → class_eq.eq x y ≡ same_class x y
class_test x y =
    one_test x y (class_eq.eq x y) (same_class x y) (class_equal x y) (class_same x y)
    (λ e. ap (λ z. class_eq.eq x z) (sym e) ∙ derived_class x)
    (λ e. ap (λ z. same_class x z) (sym e) ∙ class_itself x)

pub firsts_is : (cs : List Class) → firsts class_eq.eq cs ≡ firsts same_class cs
firsts_is cs i = firsts (λ x y. class_test x y i) cs

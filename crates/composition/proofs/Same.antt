-- What the tests of texts, paths and names of stacks take for one is one.
use Rattle.std.proofs.Common.{◌≡◌, ◌∙◌, sym, ap, refl, Bool, true, false, ◌&&◌, IsTrue, ◌↔◌, [], ◌∷◌}
use Rattle.std.specs.Cmp.Lexicographic.{bytes_decides}
use Rattle.std.specs.Prelude.{◌==◌}
use Rattle.std.specs.Str.{bytes_eq}
use Rattle.std.proofs.lemmas.Bool.{and_parts}
use Rattle.sdf_paths.specs.PathOrder.{element_is}
use Rattle.sdf_paths.specs.Paths.{same_element}
use Rattle.sdf_paths.specs.contracts.path.PathPartialEq.TheImpl.{ghosts as path_eq}
use Rattle.sdf_paths.specs.declared.element.Element.{Element}
use Rattle.sdf_paths.specs.declared.element.Element.TheVariants.{Prim, Property, Selection}
use Rattle.composition.specs.Texts.{Text, same_text}
use Rattle.composition.specs.Paths.{Path, same_path}
use Rattle.composition.specs.World.{StackName, Root, Asset, same_stack}
use Rattle.composition.proofs.Tests.{one_answer}

-- ---- texts

-- the test of texts is that of their bytes, text by text
pub same_is_bytes : (a b : Text) → same_text a b ≡ bytes_eq a b
same_is_bytes [] [] = refl
same_is_bytes [] (y ∷ ys) = refl
same_is_bytes (x ∷ xs) [] = refl
same_is_bytes (x ∷ xs) (y ∷ ys) =
    elim (x == y) as (λ b. (elim b as (λ _. Bool) [ true ↦ same_text xs ys | false ↦ false ]) ≡ (b && bytes_eq xs ys)) [ true ↦ same_is_bytes xs ys | false ↦ refl ]

-- the test of texts is that of their bytes
pub text_tests_are : ◌≡◌ {A = Text → Text → Bool} bytes_eq same_text
text_tests_are = λ i. λ a b. sym (same_is_bytes a b) i

-- texts that pass the test are one
pub same_text_same : (a b : Text) → same_text a b ≡ true → a ≡ b
same_text_same a b h = (bytes_decides a b).0 (sym (same_is_bytes a b) ∙ h)

-- each text passes the test with itself
pub same_itself : (a : Text) → same_text a a ≡ true
same_itself a = same_is_bytes a a ∙ (bytes_decides a a).1 refl

-- an answer that tells whether two texts are one is the test of them
pub text_told : (a b : Text) (r : Bool) → IsTrue r ↔ (a ≡ b) → r ≡ same_text a b
text_told a b r told = one_answer r (same_text a b) told (same_text_same a b) (λ is. ap (λ (t : Text). same_text a t) (sym is) ∙ same_itself a)

-- ---- paths

bytes_same : (a b : Text) → bytes_eq a b ≡ true → a ≡ b
bytes_same a b h = (bytes_decides a b).0 h

bytes_itself : (a : Text) → bytes_eq a a ≡ true
bytes_itself a = (bytes_decides a a).1 refl

-- elements that pass the test are one
pub element_same : (x y : Element) → same_element x y ≡ true → x ≡ y
element_same (Prim a) (Prim b) h = ap Prim (bytes_same a b h)
element_same (Property a) (Property b) h = ap Property (bytes_same a b h)
element_same (Selection s v) (Selection t w) h =
    let parts = and_parts (bytes_eq s t) (bytes_eq v w) h in
    let set : s ≡ t = bytes_same s t parts.0 in
    let variant : v ≡ w = bytes_same v w parts.1 in
    λ i. Selection (set i) (variant i)
element_same (Prim a) (Property b) h = absurd cc
element_same (Prim a) (Selection t w) h = absurd cc
element_same (Property a) (Prim b) h = absurd cc
element_same (Property a) (Selection t w) h = absurd cc
element_same (Selection s v) (Prim b) h = absurd cc
element_same (Selection s v) (Property b) h = absurd cc

-- each element passes the test with itself
pub element_itself : (x : Element) → same_element x x ≡ true
element_itself (Prim a) = bytes_itself a
element_itself (Property a) = bytes_itself a
element_itself (Selection s v) = rw (bytes_itself s, bytes_itself v) refl

-- paths that pass the test are one
pub path_same : (p q : Path) → same_path p q ≡ true → p ≡ q
path_same [] [] h = refl
path_same [] (y ∷ q) h = absurd cc
path_same (x ∷ p) [] h = absurd cc
path_same (x ∷ p) (y ∷ q) h = by_element (same_element x y) refl h (path_same p q)
  where
    by_element : (b : Bool) → same_element x y ≡ b → (elim b as (λ _. Bool) [ true ↦ same_path p q | false ↦ false ]) ≡ true → (same_path p q ≡ true → p ≡ q) → (x ∷ p) ≡ (y ∷ q)
    by_element true is rest then = let head = element_same x y is in let tail = then rest in cc
    by_element false is rest then = absurd cc

-- each path passes the test with itself
pub path_itself : (p : Path) → same_path p p ≡ true
path_itself [] = refl
path_itself (x ∷ p) = ap (λ (b : Bool). elim b as (λ _. Bool) [ true ↦ same_path p p | false ↦ false ]) (element_itself x) ∙ path_itself p

-- an answer that tells whether two paths are one is the test of them
pub path_told : (p q : Path) (r : Bool) → IsTrue r ↔ (p ≡ q) → r ≡ same_path p q
path_told p q r told = one_answer r (same_path p q) told (path_same p q) (λ is. ap (λ (x : Path). same_path p x) (sym is) ∙ path_itself p)

-- the derived equality of paths is the test of them, path by path
pub path_test : (p q : Path) → path_eq.eq p q ≡ same_path p q
path_test [] [] = refl
path_test [] (y ∷ q) = refl
path_test (x ∷ p) [] = refl
path_test (x ∷ p) (y ∷ q) = ap (λ (b : Bool). b && path_eq.eq p q) (element_is x y) ∙ by_first (same_element x y) (path_test p q)
  where
    by_first : (b : Bool) → path_eq.eq p q ≡ same_path p q → (b && path_eq.eq p q) ≡ (elim b as (λ _. Bool) [ true ↦ same_path p q | false ↦ false ])
    by_first true h = h
    by_first false h = refl

-- the derived equality of paths is the test of them
pub path_tests_are : ◌≡◌ {A = Path → Path → Bool} path_eq.eq same_path
path_tests_are = λ i p q. path_test p q i

-- ---- names of stacks

-- names of stacks that pass the test are one
pub stack_same : (a b : StackName) → same_stack a b ≡ true → a ≡ b
stack_same Root Root h = refl
stack_same Root (Asset b) h = absurd cc
stack_same (Asset a) Root h = absurd cc
stack_same (Asset a) (Asset b) h = ap Asset (same_text_same a b h)

-- each name of a stack passes the test with itself
pub stack_itself : (a : StackName) → same_stack a a ≡ true
stack_itself Root = refl
stack_itself (Asset a) = same_itself a

-- an answer that tells whether two names of stacks are one is the test of them
pub stack_told : (a b : StackName) (r : Bool) → IsTrue r ↔ (a ≡ b) → r ≡ same_stack a b
stack_told a b r told = one_answer r (same_stack a b) told (stack_same a b) (λ is. ap (λ (s : StackName). same_stack a s) (sym is) ∙ stack_itself a)
